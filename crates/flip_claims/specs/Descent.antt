-- What rounds of claimed flips make of a triangulation.
use Rattle.std.specs.Prelude.{◌≡◌, ℕ, List, AllPairs, IsPermutation}
use Rattle.exact_predicates.specs.declared.point.Point.{Point}
use Rattle.exact_predicates.specs.declared.tri.Tri.{Tri}
use Rattle.exact_predicates.specs.Candidates.{TriPrecedes}
use Rattle.exact_predicates.specs.Hull.{IsHull}
use Rattle.exact_predicates.specs.PointSet.{IsPointSet}
use Rattle.flip_finish.specs.Flipping.{Shortens}
use Rattle.flip_finish.specs.Mesh.{IsMeshOf, IsUpTo, IsWhole, Parts}
use Rattle.flip_claims.specs.Rounds.{AreRounds}

-- The ordered mesh of a triangulation: its triangles are in the order of the list, its slots in the order of their edges.
pub record IsOrderedMesh (ps : List Point) (hull : List ℕ) (tris : List Tri) (m : Parts) : Type 0 where
  pub same : m.tris ≡ tris
  pub mesh : IsMeshOf ps hull m
  pub whole : IsWhole m
  pub ascending : AllPairs (λ s t. IsUpTo s.edge t.edge) m.slots

-- The descendant of the triangulation first: from its ordered mesh on, rounds were made until no slot shortened. Its triangles
-- ascend.
pub record IsDescendant (ps : List Point) (hull : List ℕ) (first tris : List Tri) : Type 0 where
  pub start : Parts
  pub last : Parts
  pub rounds : List (List ℕ)
  pub ordered : IsOrderedMesh ps hull first start
  pub made : AreRounds ps start rounds last
  pub ended : (slot : ℕ) → ¬ Shortens ps last slot
  pub listed : IsPermutation last.tris tris
  pub ascending : AllPairs TriPrecedes tris

-- a triangulation has one descendant
abbrev pub OneDescendant : Type 0
OneDescendant =
    (ps : List Point) (hull : List ℕ) (first tris others : List Tri) → IsPointSet ps → IsHull ps hull
    → IsDescendant ps hull first tris → IsDescendant ps hull first others → tris ≡ others

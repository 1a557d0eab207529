-- The first triangulation: the one that the rule of the sweep chooses.
use Rattle.std.specs.Prelude.{◌≡◌, ℕ, List, length, AllPairs}
use Rattle.exact_predicates.specs.declared.point.Point.{Point}
use Rattle.exact_predicates.specs.declared.tri.Tri.{Tri}
use Rattle.exact_predicates.specs.Candidates.{TriPrecedes}
use Rattle.exact_predicates.specs.PointSet.{point_at}
use Rattle.exact_predicates.specs.Triangulation.{IsTriangulation}
use Rattle.hull_sweep.specs.Rule.{FollowsRule}

-- tris is the first triangulation of the points ps with this hull: the one of the rule, its triangles ascending
pub record IsFirst (ps : List Point) (hull : List ℕ) (tris : List Tri) : Type 0 where
  pub triangulation : IsTriangulation ps hull tris
  pub rule : FollowsRule (point_at ps) (length ps) tris
  pub ascending : AllPairs TriPrecedes tris

-- points have one first triangulation
abbrev pub OneFirst : Type 0
OneFirst =
    (ps : List Point) (hull other : List ℕ) (ss ts : List Tri) → IsFirst ps hull ss → IsFirst ps other ts → ss ≡ ts

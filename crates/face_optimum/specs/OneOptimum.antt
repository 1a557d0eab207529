-- The rule on faces gives one list of triangles, and each live edge one price and each of its sides one anchor.
use Rattle.std.specs.Prelude.{◌≡◌, ℕ, List, AllPairs}
use Rattle.exact_predicates.specs.declared.edge.Edge.{Edge}
use Rattle.exact_predicates.specs.declared.point.Point.{Point}
use Rattle.exact_predicates.specs.declared.tri.Tri.{Tri}
use Rattle.exact_predicates.specs.Candidates.{EdgePrecedes}
use Rattle.exact_predicates.specs.Hull.{IsHull}
use Rattle.lmt_network.specs.Prices.{Priced}
use Rattle.lmt_network.specs.Skeleton.{AreSkeleton}
use Rattle.skeleton_faces.specs.Faces.{AreFaces}
use Rattle.face_optimum.specs.Decomposition.{Decomposes, bounded_faces}
use Rattle.face_optimum.specs.FaceRule.{FollowsFaceRule}

-- Two results by the rule on the same faces, where the skeleton decomposes, are the same triangles and the same prices.
abbrev pub OneFaceOptimum : Type 0
OneFaceOptimum =
    (ps : List Point) (hull : List ℕ) (live skeleton : List Edge) (cycles : List (List ℕ)) (most : ℕ) (first second : List Tri) (left right : List Priced)
    → IsHull ps hull → AllPairs EdgePrecedes live → AreSkeleton ps live skeleton → AreFaces ps skeleton cycles
    → Decomposes ps hull live skeleton cycles most
    → FollowsFaceRule ps hull live skeleton (bounded_faces hull cycles) first left
    → FollowsFaceRule ps hull live skeleton (bounded_faces hull cycles) second right
    → (first ≡ second) × (left ≡ right)

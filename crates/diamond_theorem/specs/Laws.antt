-- What is proved so far on the way to the diamond theorem.
use Rattle.std.specs.Prelude.{◌≡◌, ◌≢◌, ◌⊎◌, ℕ, ◌+◌, ◌*◌, ◌<◌, List, [], ◌∷◌, length, All, pos, ◌≤ℤ◌, ◌<ℤ◌}
use Rattle.exact_predicates.specs.declared.point.Point.{Point}
use Rattle.exact_predicates.specs.declared.tri.Tri.{Tri}
use Rattle.exact_predicates.specs.Hull.{IsHull}
use Rattle.exact_predicates.specs.Plane.{d2, dot, orient, IsInClosedTriangle, IsInLeftDiamond}
use Rattle.exact_predicates.specs.PointSet.{IsPointSet, point_at}
use Rattle.exact_predicates.specs.Triangulation.{IsTriangulation}
use Rattle.diamond_theorem.specs.Discs.{power, IsInDisc}
use Rattle.diamond_theorem.specs.Fans.{HasFlip, IsFan, IsInward, last_of}
use Rattle.diamond_theorem.specs.Sleeves.{HasFarthestFlip, IsSleeve}
use Rattle.diamond_theorem.specs.Steps.{IsLowStep, IsRound, IsStep}
use Rattle.diamond_theorem.specs.Walks.{AreCrossedOnce, Corner, HasTriangle, Walk, steps_after}

-- The diamond of an edge lies in the disc over it.
abbrev pub DiamondsAreInDiscs : Type 0
DiamondsAreInDiscs = (a b z : Point) → IsInLeftDiamond a b z → IsInDisc a b z

-- The disc is convex: where no corner of a triangle lies outside it, and one lies inside, the points of the triangle that are
-- not on the side across from that corner lie inside.
abbrev pub DiscsAreConvex : Type 0
DiscsAreConvex =
    (a b c d e z : Point) → power a b c ≤ℤ pos 0 → power a b d ≤ℤ pos 0 → IsInDisc a b e
    → IsInClosedTriangle c d e z → pos 0 <ℤ orient c d z → IsInDisc a b z

-- one of two facts holds, and the other does not
abbrev pub ExactlyOne : Type 0 → Type 0 → Type 0
ExactlyOne P Q = (P × (¬ Q)) ⊎ (Q × (¬ P))

-- A walk from ab to p goes on from each step lr whose triangle lrz has not p in it, by exactly one of its two other sides, where
-- z is not in the triangle abp.
abbrev pub StepsGoOn : Type 0
StepsGoOn =
    (a b p l r z : Point) → pos 0 <ℤ orient a b p → IsStep a b p l r → pos 0 <ℤ orient l r z
    → ¬ IsInClosedTriangle a b p z → ¬ IsInClosedTriangle l r z p
    → ExactlyOne (IsStep a b p z r) (IsStep a b p l z)

-- Where a point lies in the left diamond of a side ab of a triangle, there is a walk from ab.
abbrev pub WalksExist : Type 0
WalksExist =
    (ps : List Point) (hull : List ℕ) (tris : List Tri) (a b z r : ℕ)
    → IsPointSet ps → IsHull ps hull → IsTriangulation ps hull tris → HasTriangle tris (a, b) z
    → r < length ps → IsInLeftDiamond (point_at ps a) (point_at ps b) (point_at ps r) → Walk ps tris a b

-- A walk crosses no triangle twice.
abbrev pub WalksCrossOnce : Type 0
WalksCrossOnce =
    (ps : List Point) (hull : List ℕ) (tris : List Tri) (a b : ℕ) → IsTriangulation ps hull tris
    → (w : Walk ps tris a b) → AreCrossedOnce ((a, b) ∷ steps_after (a, b) w.corners)

-- Each step of a walk is low, and goes round the last corner.
abbrev pub WalksGoRound : Type 0
WalksGoRound =
    (ps : List Point) (hull : List ℕ) (tris : List Tri) (a b : ℕ) → IsTriangulation ps hull tris
    → (w : Walk ps tris a b)
    → All (λ s. IsLowStep (point_at ps a) (point_at ps b) (point_at ps s.0) (point_at ps s.1)
    × IsRound (point_at ps a) (point_at ps b) (point_at ps w.last) (point_at ps s.0) (point_at ps s.1))
    ((a, b) ∷ steps_after (a, b) w.corners)

-- A step with no end in the disc goes round each point of the disc to its left.
abbrev pub StepsGoRound : Type 0
StepsGoRound =
    (a b p q l r : Point) → IsInLeftDiamond a b p → IsStep a b p l r → ¬ IsInDisc a b l → ¬ IsInDisc a b r
    → IsInDisc a b q → pos 0 <ℤ orient l r q → IsRound a b q l r

-- A step with no end in the disc is low.
abbrev pub StepsAreLow : Type 0
StepsAreLow =
    (a b p l r : Point) → IsInLeftDiamond a b p → IsStep a b p l r → ¬ IsInDisc a b l → ¬ IsInDisc a b r → IsLowStep a b l r

-- A step of the walk to a point of the disc is seen from there at an obtuse angle, so it is longer than the point is far from
-- its ends.
abbrev pub StepsAreSeenObtuse : Type 0
StepsAreSeenObtuse =
    (a b q l r : Point) → pos 0 <ℤ orient a b q → IsInDisc a b q → IsStep a b q l r
    → (dot q l r <ℤ pos 0) × (d2 q l < d2 l r) × (d2 q r < d2 l r)

-- A step with no end in the disc is longer than 3/5 of the edge.
abbrev pub StepsAreLong : Type 0
StepsAreLong =
    (a b p l r : Point) → IsInLeftDiamond a b p → IsStep a b p l r → ¬ IsInDisc a b l → ¬ IsInDisc a b r
    → 9 * d2 a b < 25 * d2 l r

-- It is longer than the way from each of its ends to the middle of the edge: squared, by more than 11/100 of the edge's square.
-- (Four times the square of the way from v is twice the sum of those from v to a and to b, less the square of ab.)
abbrev pub StepsAreLongerThanMiddle : Type 0
StepsAreLongerThanMiddle =
    (a b p l r v : Point) → IsInLeftDiamond a b p → IsStep a b p l r → ¬ IsInDisc a b l → ¬ IsInDisc a b r → (v ≡ l) ⊎ (v ≡ r)
    → 25 * (d2 a v + d2 v b) < 50 * d2 l r + 7 * d2 a b

-- A fan at v of points that are not farther from the middle of ab than v has an inner edge to flip, where some line ef parts its
-- second point from v, from its first point and from its last one.
abbrev pub FansFlip : Type 0
FansFlip =
    (a b e f v u r : Point) (rest : List Point) → IsFan v u (r ∷ rest) → All (IsInward a b v) (u ∷ r ∷ rest)
    → pos 0 ≤ℤ orient e f u → pos 0 ≤ℤ orient e f (last_of r rest) → pos 0 <ℤ orient e f v → orient e f r <ℤ pos 0
    → HasFlip v (u ∷ r ∷ rest)

-- The corners of a walk are those of a sleeve from ab to its last corner.
abbrev pub WalksAreSleeves : Type 0
WalksAreSleeves =
    (ps : List Point) (hull : List ℕ) (tris : List Tri) (a b : ℕ) → IsTriangulation ps hull tris
    → (w : Walk ps tris a b) → IsSleeve (point_at ps) a b w.corners w.last

-- Of each sleeve with corners a step at the farthest corner can be flipped.
abbrev pub SleevesFlip : Type 0
SleevesFlip =
    (at : ℕ → Point) (a b q : ℕ) (corners : List Corner) → IsSleeve at a b corners q → corners ≢ []
    → HasFarthestFlip at a b corners q

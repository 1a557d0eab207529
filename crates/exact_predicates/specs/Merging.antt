-- What becomes of a list of points: of equal coordinates the first stays, and some lists are refused.
use Rattle.std.specs.Prelude.{◌≡◌, ℕ, ◌+◌, Bool, true, not, ◌&&◌, List, [], ◌∷◌, length, filter, Option, Some, None, nat_lt, unsigned_abs, pos, IsPermutation, ◌==◌, if◌then◌else◌}
use Rattle.std.specs.List.{list_any, list_all}
use Rattle.std.specs.Ordering.{int_eq}
use Rattle.mwt_base.specs.Limits.{most_coordinate, most_points}
use Rattle.exact_predicates.specs.declared.point.Point.{Point}
use Rattle.exact_predicates.specs.Plane.{orient}
use Rattle.exact_predicates.specs.PointSet.{PointSet, IsPointSet}

-- a coordinate of this size is out of range
abbrev pub is_too_large : ℕ → Bool
is_too_large size = nat_lt most_coordinate size

-- no coordinate is out of range, as a test
abbrev pub is_in_range : Point → Bool
is_in_range p = not (is_too_large (unsigned_abs p.x)) && not (is_too_large (unsigned_abs p.y))

-- p and q have the same coordinates
abbrev pub is_same_place : Point → Point → Bool
is_same_place p q = int_eq p.x q.x && int_eq p.y q.y

-- the points without those that have the coordinates of an earlier one
abbrev pub firsts : List Point → List Point
firsts [] = []
firsts (p ∷ ps) = p ∷ filter (λ q. not (is_same_place p q)) (firsts ps)

-- no two of the points have one id
abbrev pub has_distinct_ids : List Point → Bool
has_distinct_ids [] = true
has_distinct_ids (p ∷ ps) = not (list_any (λ q. q.id == p.id) ps) && has_distinct_ids ps

-- all points lie on one line
abbrev pub is_flat : List Point → Bool
is_flat ps = list_all (λ p. list_all (λ q. list_all (λ r. int_eq (orient p q r) (pos 0)) ps) ps) ps

-- The code of the first rule, in this order, that a list of points breaks: 4, a point is out of range; 5, two points have
-- one id; 2, more stay than a problem may have; 1, fewer than 3 stay; 3, all that stay lie on one line.
unfoldable pub points_code : List Point → Option ℕ
points_code ps =
    if not (list_all is_in_range ps) then Some 4
    else if not (has_distinct_ids ps) then Some 5
    else if nat_lt most_points (length (firsts ps)) then Some 2
    else if nat_lt (length (firsts ps)) 3 then Some 1
    else if is_flat (firsts ps) then Some 3
    else None

-- The points of a problem that are made of a list: those that stay, in order, and how many went. No rule is broken.
pub record IsMadeFrom (list : List Point) (set : PointSet) : Type 0 where
  pub lawful : points_code list ≡ None
  pub stay : IsPermutation (firsts list) set.points
  pub ordered : IsPointSet set.points
  pub merged : length set.points + set.merged ≡ length list

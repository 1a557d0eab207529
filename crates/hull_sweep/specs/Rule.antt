-- The rule of the sweep, by which one triangulation is chosen. P gives the point of a number.
use Rattle.std.specs.Prelude.{ℕ, ◌<◌, List, All, Any, pos, ◌≤ℤ◌, ◌<ℤ◌}
use Rattle.exact_predicates.specs.declared.point.Point.{Point}
use Rattle.exact_predicates.specs.declared.tri.Tri.{Tri}
use Rattle.exact_predicates.specs.Plane.{orient, IsBetween}
use Rattle.exact_predicates.specs.Triangulation.{HasCorners}

-- u to v is a pair of the hull of the points below q and visible from q: none of these points lies to the right of the pair or
-- between its ends, and q lies to the right. Of points on one line the pairs are the neighbours, both ways.
pub record IsVisiblePair (P : ℕ → Point) (u v q : ℕ) : Type 0 where
  pub u_earlier : u < q
  pub v_earlier : v < q
  pub none_right : (r : ℕ) → r < q → pos 0 ≤ℤ orient (P u) (P v) (P r)
  pub none_between : (r : ℕ) → r < q → ¬ IsBetween (P u) (P v) (P r)
  pub visible : orient (P u) (P v) (P q) <ℤ pos 0

-- t joins one of the points below n to a pair that is visible from it
pub record JoinsVisiblePair (P : ℕ → Point) (n : ℕ) (t : Tri) : Type 0 where
  pub u : ℕ
  pub v : ℕ
  pub q : ℕ
  pub known : q < n
  pub corners : HasCorners t v u q
  pub pair : IsVisiblePair P u v q

-- of the points below n, each is joined to all pairs that are visible from it, and there are no other triangles
pub record FollowsRule (P : ℕ → Point) (n : ℕ) (tris : List Tri) : Type 0 where
  pub no_others : All (JoinsVisiblePair P n) tris
  pub joined : (u v q : ℕ) → q < n → IsVisiblePair P u v q → Any (λ t. HasCorners t v u q) tris

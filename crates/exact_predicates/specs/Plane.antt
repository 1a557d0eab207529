-- The exact tests: whole numbers computed of the coordinates of a few points, and what their signs mean.
use Rattle.std.specs.Prelude.{◌≡◌, ◌⊎◌, ℕ, ◌+◌, ◌^◌, unsigned_abs, ℤ, pos, ◌+ℤ◌, ◌-ℤ◌, ◌*ℤ◌, neg_ℤ, ◌≤ℤ◌, ◌<ℤ◌}
use Rattle.mwt_base.specs.Limits.{most_coordinate}
use Rattle.exact_predicates.specs.declared.point.Point.{Point}

-- no coordinate is above the limit in size
pub record IsInRange (p : Point) : Type 0 where
  pub left : neg_ℤ (pos most_coordinate) ≤ℤ p.x
  pub right : p.x ≤ℤ pos most_coordinate
  pub low : neg_ℤ (pos most_coordinate) ≤ℤ p.y
  pub high : p.y ≤ℤ pos most_coordinate

-- twice the area of the triangle pqr, positive where it turns to the left
unfoldable pub orient : Point → Point → Point → ℤ
orient p q r = ((q.x -ℤ p.x) *ℤ (r.y -ℤ p.y)) -ℤ ((q.y -ℤ p.y) *ℤ (r.x -ℤ p.x))

-- the inner product of the vectors from o to p and from o to q
unfoldable pub dot : Point → Point → Point → ℤ
dot o p q = ((p.x -ℤ o.x) *ℤ (q.x -ℤ o.x)) +ℤ ((p.y -ℤ o.y) *ℤ (q.y -ℤ o.y))

-- the squared distance
unfoldable pub d2 : Point → Point → ℕ
d2 p q = unsigned_abs (q.x -ℤ p.x) ^ 2 + unsigned_abs (q.y -ℤ p.y) ^ 2

-- p comes before q: by x, and where x is the same by y
abbrev pub Precedes : Point → Point → Type 0
Precedes p q = (p.x <ℤ q.x) ⊎ ((p.x ≡ q.x) × (p.y <ℤ q.y))

-- r lies on the segment pq and is neither end: it is on their line, and sees the two ends in opposite directions
pub record IsBetween (p q r : Point) : Type 0 where
  pub on_line : orient p q r ≡ pos 0
  pub opposite : dot r p q <ℤ pos 0

-- r lies in the triangle abc or on its rim, where abc turns to the left
pub record IsInClosedTriangle (a b c r : Point) : Type 0 where
  pub left_of_ab : pos 0 ≤ℤ orient a b r
  pub left_of_bc : pos 0 ≤ℤ orient b c r
  pub left_of_ca : pos 0 ≤ℤ orient c a r

-- r and s lie strictly on different sides of the line pq
abbrev pub AreApart : Point → Point → Point → Point → Type 0
AreApart p q r s =
    ((orient p q r <ℤ pos 0) × (pos 0 <ℤ orient p q s)) ⊎ ((pos 0 <ℤ orient p q r) × (orient p q s <ℤ pos 0))

-- the segments pq and rs cross: the ends of each lie strictly on different sides of the other
pub record Crosses (p q r s : Point) : Type 0 where
  pub by_line : AreApart p q r s
  pub by_other : AreApart r s p q

-- r lies in the left diamond of p to q: the open isosceles triangle on the left of pq with base angles of tangent 4/5
pub record IsInLeftDiamond (p q r : Point) : Type 0 where
  pub left : pos 0 <ℤ orient p q r
  pub angle_at_p : (pos 5 *ℤ orient p q r) <ℤ (pos 4 *ℤ dot p q r)
  pub angle_at_q : (pos 5 *ℤ orient p q r) <ℤ (pos 4 *ℤ dot q p r)

-- The diamond test without the hull: which points block a side of an edge.
use Rattle.std.specs.Prelude.{ℕ, ◌<◌, List, length, pos, ◌*ℤ◌, ◌≤ℤ◌, ◌<ℤ◌}
use Rattle.exact_predicates.specs.declared.point.Point.{Point}
use Rattle.exact_predicates.specs.Plane.{orient, dot}
use Rattle.exact_predicates.specs.PointSet.{point_at}

-- r blocks the left side of p to q: it lies in the left diamond, or strictly between p and q
pub record Blocks (p q r : Point) : Type 0 where
  pub left : pos 0 ≤ℤ orient p q r
  pub angle_at_p : (pos 5 *ℤ orient p q r) <ℤ (pos 4 *ℤ dot p q r)
  pub angle_at_q : (pos 5 *ℤ orient p q r) <ℤ (pos 4 *ℤ dot q p r)

-- no point of ps blocks the left side of p to q
abbrev pub IsFree : List Point → ℕ → ℕ → Type 0
IsFree ps p q = (r : ℕ) → r < length ps → ¬ Blocks (point_at ps p) (point_at ps q) (point_at ps r)

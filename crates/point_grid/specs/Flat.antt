-- The three conditions under which a point blocks a side of an edge, by inner products.
use Rattle.std.specs.Prelude.{ℤ, pos, ◌+ℤ◌, ◌-ℤ◌, ◌*ℤ◌, ◌≤ℤ◌, ◌<ℤ◌}
use Rattle.point_grid.specs.declared.frame.Turn.{Turn}

-- a vector, to the left of another or along it by `sine` and forward by `cosine`, is seen from the ends of the other, whose
-- squared length is `norm`, under angles with a tangent below 4/5
pub record IsFlat (sine cosine norm : ℤ) : Type 0 where
  pub left : pos 0 ≤ℤ sine
  pub near : (pos 5 *ℤ sine) <ℤ (pos 4 *ℤ cosine)
  pub far : (pos 5 *ℤ sine) <ℤ (pos 4 *ℤ (norm -ℤ cosine))

-- the sine and the cosine of the vector (a, b)
abbrev pub sine : Turn → ℤ → ℤ → ℤ
sine t a b = (t.u *ℤ a) +ℤ (t.v *ℤ b)

abbrev pub cosine : Turn → ℤ → ℤ → ℤ
cosine t a b = (t.x *ℤ a) +ℤ (t.y *ℤ b)

-- the squared length of the vector (a, b)
abbrev pub norm : ℤ → ℤ → ℤ
norm a b = (a *ℤ a) +ℤ (b *ℤ b)

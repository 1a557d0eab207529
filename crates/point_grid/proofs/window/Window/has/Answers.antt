use Rattle.point_grid.proofs.window.Window.has.Goals as goal

pub returns-then-has_number : goal.returns-then-has_number
returns-then-has_number c = (
  λ t.
      let number = c.has_number.ensures.0 c.if-has_number.true in
      let height = c.reaches.ensures.0 t in
      record { from = number.0; to = number.1; low = height.0; high = height.1 },
  λ s. c.reaches.ensures.1 (s.low, s.high),
)

pub returns-else-has_number : goal.returns-else-has_number
returns-else-has_number c = (λ t. absurd (cc), λ s. absurd (let yes = c.has_number.ensures.1 (s.from, s.to) in cc))

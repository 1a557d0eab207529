use Rattle.std.proofs.Common.{sym, ◌∙◌, inl, inr}
use Rattle.std.proofs.lemmas.Bool.{false≢true}
use Rattle.dual_checker.proofs.TightRows.{is_zero}
use Rattle.dual_checker.proofs.ledger.Ledger.is_held.Goals as goal

pub returns-else-has_live_triangle : goal.returns-else-has_live_triangle
returns-else-has_live_triangle c =
    let says = is_zero c.args.anchor c.ranges.anchor in (
      λ t. inr (says.0 t),
      λ either. elim either [
        | inl held ↦ absurd (false≢true (sym c.if-has_live_triangle.false ∙ c.has_live_triangle.ensures.1 held))
        | inr zero ↦ says.1 zero
      ],
    )

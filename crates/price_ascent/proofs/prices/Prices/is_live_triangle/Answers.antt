use Rattle.std.proofs.Common.{◌≡◌, length, sym, ◌∙◌, ap, inr, arith}
use Rattle.std.proofs.lemmas.Bool.{false≢true}
use Rattle.price_ascent.specs.declared.entry.PriceEntry.{PriceEntry}
use Rattle.price_ascent.proofs.LiveSides.{three_sides_live}
use Rattle.price_ascent.proofs.prices.Prices.is_live_triangle.Goals as goal
use Rattle.price_ascent.proofs.prices.Prices.is_live_triangle.Goals.{then-at, else-at}

pub returns-then-at-2 : goal.returns-then-at-2
returns-then-at-2 c =
    let live = λ (p : PriceEntry). p.live in
    let three : length c.sides.result ≡ 3 = omega arith in
    elim c.if-at.branch [
      | then-at w ↦ (
        λ last. three_sides_live c.args.net.now c.args.self.now c.args.t c.sides.result three c.sides.ensures.only
            (sym (ap live c.at.ensures) ∙ w.if-at.true) (sym (ap live w.at-then-at.ensures) ∙ (sym w.value-is ∙ c.if-at-2.true)) (sym (ap live c.at-then-at-2.ensures) ∙ last),
        λ every. ap live c.at-then-at-2.ensures ∙ every _ (inr (inr c.sides.ensures.ca)),
      )
      | else-at w ↦ absurd (false≢true (sym w.if-at.false ∙ (sym w.value-is ∙ c.if-at-2.true)))
    ]

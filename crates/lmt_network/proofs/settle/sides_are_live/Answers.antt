use Rattle.std.proofs.Common.{◌≡◌, length, sym, ◌∙◌, inl, inr, arith}
use Rattle.std.proofs.lemmas.Bool.{false≢true}
use Rattle.lmt_network.proofs.Picked.{flag_from_live}
use Rattle.lmt_network.proofs.Settling.{three_live}
use Rattle.lmt_network.proofs.settle.sides_are_live.Goals as goal
use Rattle.lmt_network.proofs.settle.sides_are_live.Goals.{then-live-ab, else-live-ab}

pub returns-then-live-bc : goal.returns-then-live-bc
returns-then-live-bc c =
    let three : length c.sides.result ≡ 3 = omega arith in
    elim c.if-live-ab.branch [
      | then-live-ab w ↦ (
        λ last. three_live c.args.net.now c.args.live.now c.args.t c.sides.result three c.sides.ensures.only w.if-live-ab.true (sym w.value-is ∙ c.if-live-bc.true) last,
        λ every. flag_from_live c.args.live.now _ (every _ (inr (inr c.sides.ensures.ca))),
      )
      | else-live-ab w ↦ absurd (false≢true (sym w.if-live-ab.false ∙ (sym w.value-is ∙ c.if-live-bc.true)))
    ]

pub returns-else-live-bc : goal.returns-else-live-bc
returns-else-live-bc c =
    elim c.if-live-ab.branch [
      | then-live-ab w ↦ (
        λ set. absurd (false≢true (sym c.if-live-bc.false ∙ set)),
        λ every. w.value-is ∙ flag_from_live c.args.live.now _ (every _ (inr (inl c.sides.ensures.bc))),
      )
      | else-live-ab w ↦ (
        λ set. absurd (false≢true (sym c.if-live-bc.false ∙ set)),
        λ every. w.value-is ∙ flag_from_live c.args.live.now _ (every _ (inl c.sides.ensures.ab)),
      )
    ]

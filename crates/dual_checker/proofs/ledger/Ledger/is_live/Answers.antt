use Rattle.std.proofs.Common.{◌≡◌, length, sym, ◌∙◌, inl, inr, arith}
use Rattle.std.proofs.lemmas.Bool.{false≢true}
use Rattle.lmt_network.proofs.Picked.{flag_from_live}
use Rattle.lmt_network.proofs.Settling.{three_live}
use Rattle.dual_checker.proofs.ledger.Ledger.is_live.Goals as goal

pub returns-then-not-live : goal.returns-then-not-live
returns-then-not-live c = (
  λ f. absurd (false≢true f),
  λ every. absurd (false≢true (sym c.if-not-live.true ∙ (c.live.ensures ∙ flag_from_live c.args.self.now.flags.now _ (every _ (inl c.sides.ensures.ab))))),
)

pub returns-then-not-live-2 : goal.returns-then-not-live-2
returns-then-not-live-2 c = (
  λ f. absurd (false≢true f),
  λ every. absurd (false≢true (sym c.if-not-live-2.true ∙ (c.live-2.ensures ∙ flag_from_live c.args.self.now.flags.now _ (every _ (inr (inl c.sides.ensures.bc)))))),
)

pub returns : goal.returns
returns c =
    let three : length c.sides.result ≡ 3 = omega arith in (
      λ last. three_live c.args.self.now.net.now c.args.self.now.flags.now c.args.t c.sides.result three c.sides.ensures.only
          (sym c.live.ensures ∙ c.if-not-live.false) (sym c.live-2.ensures ∙ c.if-not-live-2.false) (sym c.live-3.ensures ∙ last),
      λ every. c.live-3.ensures ∙ flag_from_live c.args.self.now.flags.now _ (every _ (inr (inr c.sides.ensures.ca))),
    )

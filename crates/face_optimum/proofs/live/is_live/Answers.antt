use Rattle.std.proofs.Common.{◌≡◌, length, sym, ◌∙◌, inl, inr, arith}
use Rattle.std.proofs.lemmas.Bool.{false≢true}
use Rattle.face_optimum.proofs.Sides.{live_side, sides_live}
use Rattle.face_optimum.proofs.live.is_live.Goals as goal

pub returns-then-not-live : goal.returns-then-not-live
returns-then-not-live c = (
  λ f. absurd (false≢true f),
  λ live. absurd (false≢true (sym c.if-not-live.true ∙ (c.live.ensures ∙ live_side c.args.net.now c.args.flags.now c.args.t _ c.requires.network c.requires.one_each live (inl c.sides.ensures.ab)))),
)

pub returns-then-not-live-2 : goal.returns-then-not-live-2
returns-then-not-live-2 c = (
  λ f. absurd (false≢true f),
  λ live. absurd (false≢true (sym c.if-not-live-2.true ∙ (c.live-2.ensures ∙ live_side c.args.net.now c.args.flags.now c.args.t _ c.requires.network c.requires.one_each live (inr (inl c.sides.ensures.bc))))),
)

pub returns : goal.returns
returns c =
    let three : length c.sides.result ≡ 3 = omega arith in (
      λ last. sides_live c.args.net.now c.args.flags.now c.args.t c.sides.result c.requires.network c.requires.one_each c.requires.t_in three c.sides.ensures.only (inl c.sides.ensures.ab)
          (sym c.live.ensures ∙ c.if-not-live.false) (sym c.live-2.ensures ∙ c.if-not-live-2.false) (sym c.live-3.ensures ∙ last),
      λ live. c.live-3.ensures ∙ live_side c.args.net.now c.args.flags.now c.args.t _ c.requires.network c.requires.one_each live (inr (inr c.sides.ensures.ca)),
    )

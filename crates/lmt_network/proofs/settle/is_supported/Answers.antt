use Rattle.std.proofs.Common.{◌≡◌, ℕ, slice_index, Contains, sym, ◌∙◌, subst, arith, refl, below_more}
use Rattle.std.proofs.lemmas.Bool.{false≢true}
use Rattle.std.proofs.lemmas.List.{get_or_default}
use Rattle.std.proofs.lemmas.List.Elements.{Contains-get_or}
use Rattle.lmt_network.specs.Flags.{live_numbers}
use Rattle.lmt_network.specs.Numbers.{IsSideOf, IsSupported, IsSupportedWith}
use Rattle.lmt_network.proofs.Picked.{live_from_flag}
use Rattle.lmt_network.proofs.Settling.{support_of_pair, sides_of_support}
use Rattle.lmt_network.proofs.settle.is_supported.Goals as goal
use Rattle.lmt_network.proofs.settle.is_supported.Goals.{else-sides_are_live-via-then-sides_are_live+else-is_supported_with, else-sides_are_live-via-else-sides_are_live}

pub sides_are_live-requires-clause-t_in : goal.sides_are_live-requires-clause-t_in
sides_are_live-requires-clause-t_in c =
    ((c.left-l-items.ensures.members _).0 (Contains-get_or c.left-l-items.result.now c.loop-l.l-index 0 c.loop-l-test.true)).0

pub is_supported_with-requires-clause-on_left : goal.is_supported_with-requires-clause-on_left
is_supported_with-requires-clause-on_left c =
    (c.left-l-items.ensures.members _).0 (Contains-get_or c.left-l-items.result.now c.loop-l.l-index 0 c.loop-l-test.true)

pub returns-then-is_supported_with : goal.returns-then-is_supported_with
returns-then-is_supported_with c = (
  λ _. support_of_pair c.args.net.now (live_numbers c.args.live.now) c.args.e _
      (c.sides_are_live.ensures.0 c.if-sides_are_live.true) (c.is_supported_with.ensures.0 c.if-is_supported_with.true),
  λ _. refl,
)

pub loop-l-preserved : goal.loop-l-preserved
loop-l-preserved c =
    below_more _ _ c.loop-l.invariant
    (λ sides with. elim c.else-sides_are_live.branch [
      | else-sides_are_live-via-then-sides_are_live+else-is_supported_with w ↦ false≢true (sym w.if-is_supported_with.false ∙ w.is_supported_with.ensures.1 with)
      | else-sides_are_live-via-else-sides_are_live w ↦ false≢true (sym w.if-sides_are_live.false ∙ c.sides_are_live.ensures.1 sides)
    ])

pub returns : goal.returns
returns c = (
  λ no_way. absurd (false≢true no_way),
  λ (s : IsSupported c.args.net.now (live_numbers c.args.live.now) c.args.e).
      let ls = c.left-l-items.result.now in
      let sides = sides_of_support c.args.net.now (live_numbers c.args.live.now) c.args.e (live_from_flag c.args.live.now c.args.e c.requires.live) s in
      let (k, k_in, at_k) = (c.left-l-items.ensures.members s.l).1 (s.pair.l_in, (s.pair.a, s.pair.left_is)) in
      let is : s.l ≡ slice_index ls k = sym (get_or_default ls k 0 s.l k_in ∙ at_k) in
      let with : IsSupportedWith c.args.net.now (live_numbers c.args.live.now) c.args.e s.l = record { r = s.r; pair = s.pair; sides = sides.1 } in
      absurd (c.loop-l.invariant k (omega arith)
      (subst (λ (l : ℕ). (f : ℕ) → IsSideOf c.args.net.now l f → Contains (live_numbers c.args.live.now) f) is sides.0)
      (subst (λ (l : ℕ). IsSupportedWith c.args.net.now (live_numbers c.args.live.now) c.args.e l) is with)),
)

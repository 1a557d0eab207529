use Rattle.std.proofs.Common.{◌≡◌, ℕ, slice_index, Contains, sym, ◌∙◌, subst, arith, below_more}
use Rattle.std.proofs.lemmas.Bool.{false≢true}
use Rattle.std.proofs.lemmas.List.{get_or_default}
use Rattle.std.proofs.lemmas.List.Elements.{Contains-get_or}
use Rattle.lmt_network.specs.Flags.{live_numbers}
use Rattle.lmt_network.specs.Numbers.{IsSideOf, IsMinimalPair, IsSupportedWith}
use Rattle.lmt_network.proofs.settle.is_supported_with.Goals as goal
use Rattle.lmt_network.proofs.settle.is_supported_with.Goals.{else-sides_are_live-via-then-sides_are_live+else-minimal_pair, else-sides_are_live-via-else-sides_are_live}

pub sides_are_live-requires-clause-t_in : goal.sides_are_live-requires-clause-t_in
sides_are_live-requires-clause-t_in c =
    ((c.right-r-items.ensures.members _).0 (Contains-get_or c.right-r-items.result.now c.loop-r.r-index 0 c.loop-r-test.true)).0

pub minimal_pair-requires-clause-on_right : goal.minimal_pair-requires-clause-on_right
minimal_pair-requires-clause-on_right c =
    (c.right-r-items.ensures.members _).0 (Contains-get_or c.right-r-items.result.now c.loop-r.r-index 0 c.loop-r-test.true)

pub loop-r-preserved : goal.loop-r-preserved
loop-r-preserved c =
    below_more _ _ c.loop-r.invariant
    (λ pair sides. elim c.else-sides_are_live.branch [
      | else-sides_are_live-via-then-sides_are_live+else-minimal_pair w ↦ false≢true (sym w.if-minimal_pair.false ∙ w.minimal_pair.ensures.1 pair)
      | else-sides_are_live-via-else-sides_are_live w ↦ false≢true (sym w.if-sides_are_live.false ∙ c.sides_are_live.ensures.1 sides)
    ])

pub returns : goal.returns
returns c = (
  λ no_way. absurd (false≢true no_way),
  λ (s : IsSupportedWith c.args.net.now (live_numbers c.args.live.now) c.args.e c.args.l).
      let rs = c.right-r-items.result.now in
      let (k, k_in, at_k) = (c.right-r-items.ensures.members s.r).1 (s.pair.r_in, (s.pair.b, s.pair.right_is)) in
      let is : s.r ≡ slice_index rs k = sym (get_or_default rs k 0 s.r k_in ∙ at_k) in
      absurd (c.loop-r.invariant k (omega arith)
      (subst (IsMinimalPair c.args.net.now c.args.e c.args.l) is s.pair)
      (subst (λ (r : ℕ). (f : ℕ) → IsSideOf c.args.net.now r f → Contains (live_numbers c.args.live.now) f) is s.sides)),
)

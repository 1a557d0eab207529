use Rattle.std.proofs.Common.{ℕ, get_or, slice_index, refl, sym, ◌∙◌, subst, inl, inr, ⊎_elim, arith, below_more}
use Rattle.std.proofs.lemmas.Bool.{false≢true}
use Rattle.std.proofs.lemmas.List.Elements.{Contains-get_or}
use Rattle.lmt_network.specs.Numbers.{IsMinimalPair}
use Rattle.dual_checker.specs.Derived.{HasLowerSide}
use Rattle.dual_checker.proofs.Derivings.{at_member}
use Rattle.dual_checker.proofs.derivations.is_derived_at.Goals as goal

pub returns-then-has_lower_side : goal.returns-then-has_lower_side
returns-then-has_lower_side c = (
  (λ _ r pair. inl (subst (λ (m : ℕ). HasLowerSide c.args.net.now c.args.ranks.now m c.args.l) c.get-rank.ensures (c.has_lower_side.ensures.0 c.if-has_lower_side.true))),
  λ _. refl,
)

pub is_open-requires-clause-on_right : goal.is_open-requires-clause-on_right
is_open-requires-clause-on_right c = (c.right-r-items.ensures.members _).0 (Contains-get_or c.right-r-items.result.now c.loop-r.r-index 0 c.loop-r-test.true)

pub returns-then-is_open : goal.returns-then-is_open
returns-then-is_open c =
    let n = c.args.net.now in
    let ranks = c.args.ranks.now in
    let bare = c.is_open.ensures.yes c.if-is_open.true in
    let r : ℕ = get_or c.right-r-items.result.now c.loop-r.r-index 0 in (
      (λ no. absurd (false≢true no)),
      λ derived. absurd (⊎_elim
          (λ (s : HasLowerSide n ranks (slice_index ranks c.args.e) c.args.l). false≢true (sym c.if-has_lower_side.false ∙ c.has_lower_side.ensures.1 (subst (λ (m : ℕ). HasLowerSide n ranks m c.args.l) (sym c.get-rank.ensures) s)))
          (λ (s : HasLowerSide n ranks (slice_index ranks c.args.e) r). bare.1 (subst (λ (m : ℕ). HasLowerSide n ranks m r) (sym c.get-rank.ensures) s))
          (derived r bare.0)),
    )

pub loop-r-preserved : goal.loop-r-preserved
loop-r-preserved c = below_more _ _ c.loop-r.invariant (c.is_open.ensures.no c.if-is_open.false)

pub returns : goal.returns
returns c =
    let n = c.args.net.now in
    let ranks = c.args.ranks.now in (
      (λ _ r pair.
          let m = at_member c.right-r-items.result.now r ((c.right-r-items.ensures.members r).1 (pair.r_in, (pair.b, pair.right_is))) in
          let within = m.1 in
          let end = c.loop-r-test.false in
          inr (subst (λ (x : ℕ). HasLowerSide n ranks x r) c.get-rank.ensures
          (subst (HasLowerSide n ranks c.get-rank.result) m.2 (c.loop-r.invariant m.0 (omega arith) (subst (λ (t : ℕ). IsMinimalPair n c.args.e c.args.l t) (sym m.2) pair))))),
      λ _. refl,
    )

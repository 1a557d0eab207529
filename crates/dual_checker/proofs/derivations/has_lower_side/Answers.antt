use Rattle.std.proofs.Common.{ℕ, ◌<◌, List, get_or, slice_index, refl, sym, ◌∙◌, subst, inl, inr, arith, below_more}
use Rattle.std.proofs.lemmas.Bool.{false≢true}
use Rattle.lmt_network.specs.Numbers.{IsSideOf}
use Rattle.dual_checker.proofs.Derivings.{at_member, sides_at}
use Rattle.dual_checker.proofs.derivations.has_lower_side.Goals as goal

pub returns-then-is_lower : goal.returns-then-is_lower
returns-then-is_lower c =
    let n = c.args.net.now in
    let t = c.args.t in
    let sides : List ℕ = c.sides-sides.result in
    let e = c.sides-sides.ensures in
    let lower = c.is_lower.ensures.0 c.if-is_lower.true in
    let is = c.get.ensures in
    let test = c.loop-k-test.true in
    let k = c.loop-k.k in
    let P : ℕ → Type 0 = λ i. IsSideOf n t (get_or sides i 0) in
    let above = lower.0 in
    let below = lower.1 in
    let side : IsSideOf n t (get_or sides k 0) = sides_at P k (inl e.ab) (inr (inl e.bc)) (inr (inr e.ca)) (omega arith) in
    ((λ _. (get_or sides k 0, side, omega arith, omega arith)), λ _. refl)

pub loop-k-preserved : goal.loop-k-preserved
loop-k-preserved c = below_more _ _ c.loop-k.invariant
    (λ low. false≢true (sym c.if-is_lower.false ∙ c.is_lower.ensures.1 (subst (λ (x : ℕ). (0 < x) × (x < c.args.m)) (sym c.get.ensures) low)))

pub returns : goal.returns
returns c = (
  λ no. absurd (false≢true no),
  λ s.
      let sides : List ℕ = c.sides-sides.result in
      let m = at_member sides s.0 (c.sides-sides.ensures.only s.0 s.1) in
      let within = m.1 in
      let end = c.loop-k-test.false in
      let three = c.sides-sides.type_inv in
      absurd (c.loop-k.invariant m.0 (omega arith) (subst (λ (f : ℕ). (0 < slice_index c.args.ranks.now f) × (slice_index c.args.ranks.now f < c.args.m)) (sym m.2) (s.2, s.3))),
)

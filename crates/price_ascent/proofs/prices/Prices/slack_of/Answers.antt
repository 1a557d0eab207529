use Rattle.std.proofs.Common.{◌≡◌, ℕ, ◌*◌, ◌^◌, ◌<◌, ◌≤◌, cond, nat_lt, get_or, ℤ, pos, neg_ℤ, ◌+ℤ◌, ◌≤ℤ◌, of_z, to_z, w64, ap, sym, ◌∙◌, subst, arith, inl, inr}
use Rattle.std.proofs.lemmas.Bool.{cond-false, cond-true, le-ltb, lt-ltb}
use Rattle.std.proofs.lemmas.Int.{ints}
use Rattle.exact_predicates.specs.declared.tri.Tri.{Tri}
use Rattle.lmt_network.specs.Network.{tri_at}
use Rattle.price_ascent.specs.declared.entry.PriceEntry.{PriceEntry}
use Rattle.price_ascent.specs.Entries.{entry}
use Rattle.price_ascent.specs.Steps.{AreShares}
use Rattle.price_ascent.proofs.Shares.{shares_fit}
use Rattle.price_ascent.proofs.SlackSums.{slack-kept}
use Rattle.price_ascent.proofs.prices.Prices.slack_of.Goals as goal
use Rattle.price_ascent.proofs.prices.Prices.slack_of.Goals.{then-tri, else-tri}

-- the sum of three shares, counted in 64 bits
three_shares : (a b d : ℤ) (bits : ℕ) → to_z w64 bits ≡ b → neg_ℤ (pos (281 * 10 ^ 16)) ≤ℤ a → a ≤ℤ pos (1003 * 10 ^ 15) → neg_ℤ (pos (281 * 10 ^ 16)) ≤ℤ b → b ≤ℤ pos (1003 * 10 ^ 15)
    → neg_ℤ (pos (281 * 10 ^ 16)) ≤ℤ d → d ≤ℤ pos (1003 * 10 ^ 15)
    → to_z w64 (of_z w64 (to_z w64 (of_z w64 (to_z w64 (of_z w64 a) +ℤ to_z w64 bits)) +ℤ to_z w64 (of_z w64 d))) ≡ a +ℤ (b +ℤ d)
three_shares a b d bits is a_low a_high b_low b_high d_low d_high =
    let two : to_z w64 (of_z w64 (to_z w64 (of_z w64 a) +ℤ to_z w64 bits)) ≡ a +ℤ b = omega (arith, ints, is, a_low, a_high, b_low, b_high) in
    omega (arith, ints, two, a_low, a_high, b_low, b_high, d_low, d_high)

pub overflow_add-result : goal.overflow_add-result
overflow_add-result c =
    let n = c.args.net.now in
    let es = c.args.self.now in
    let first = subst AreShares (sym c.at.ensures) (shares_fit n es _ c.requires.entries c.sides.ensures.ab.0 (c.requires.live _ (inl c.sides.ensures.ab))) in
    let second = subst AreShares (sym c.at-bc.ensures) (shares_fit n es _ c.requires.entries c.sides.ensures.bc.0 (c.requires.live _ (inr (inl c.sides.ensures.bc)))) in
    elim c.if-tri.branch [
      | then-tri w ↦ omega (arith, ints, first.up.0, first.up.1, second.up.0, second.up.1, w.second-is, c.if-tri.second-is)
      | else-tri w ↦ omega (arith, ints, first.up.0, first.up.1, second.down.0, second.down.1, w.second-is, c.if-tri.second-is)
    ]

pub overflow_add-result-2 : goal.overflow_add-result-2
overflow_add-result-2 c =
    let n = c.args.net.now in
    let es = c.args.self.now in
    let first = subst AreShares (sym c.at.ensures) (shares_fit n es _ c.requires.entries c.sides.ensures.ab.0 (c.requires.live _ (inl c.sides.ensures.ab))) in
    let second = subst AreShares (sym c.at-bc.ensures) (shares_fit n es _ c.requires.entries c.sides.ensures.bc.0 (c.requires.live _ (inr (inl c.sides.ensures.bc)))) in
    let third = subst AreShares (sym c.at-2.ensures) (shares_fit n es _ c.requires.entries c.sides.ensures.ca.0 (c.requires.live _ (inr (inr c.sides.ensures.ca)))) in
    elim c.if-tri.branch [
      | then-tri w ↦ omega (arith, ints, first.up.0, first.up.1, second.up.0, second.up.1, third.down.0, third.down.1, w.second-is, c.if-tri.second-is)
      | else-tri w ↦ omega (arith, ints, first.up.0, first.up.1, second.down.0, second.down.1, third.down.0, third.down.1, w.second-is, c.if-tri.second-is)
    ]

pub returns : goal.returns
returns c =
    let n = c.args.net.now in
    let es = c.args.self.now in
    let x = tri_at n c.args.t in
    let xs = c.sides.result in
    let j = entry es (get_or xs 1 0) in
    let fit = subst AreShares (sym c.at.ensures) (shares_fit n es _ c.requires.entries c.sides.ensures.ab.0 (c.requires.live _ (inl c.sides.ensures.ab))) in
    let fit_j = subst AreShares (sym c.at-bc.ensures) (shares_fit n es _ c.requires.entries c.sides.ensures.bc.0 (c.requires.live _ (inr (inl c.sides.ensures.bc)))) in
    let fit_k = subst AreShares (sym c.at-2.ensures) (shares_fit n es _ c.requires.entries c.sides.ensures.ca.0 (c.requires.live _ (inr (inr c.sides.ensures.ca)))) in
    let first = ap (λ (p : PriceEntry). p.up) c.at.ensures in
    let up = ap (λ (p : PriceEntry). p.up) c.at-bc.ensures in
    let down = ap (λ (p : PriceEntry). p.down) c.at-bc.ensures in
    let third = ap (λ (p : PriceEntry). p.down) c.at-2.ensures in
    let is = slack-kept n es c.args.t _ _ _ c.requires.entries c.requires.live c.sides.ensures.ab c.sides.ensures.bc c.sides.ensures.ca in
    let b_is = ap (λ (t : Tri). t.b) c.tri-tri.ensures.value in
    let c_is = ap (λ (t : Tri). t.c) c.tri-tri.ensures.value in
    elim c.if-tri.branch [
      | then-tri w ↦
          let l : x.b < x.c = let h = w.if-tri.true in omega (arith, h, b_is, c_is) in
          let second : cond (nat_lt x.b x.c) j.up j.down ≡ c.at-bc.result.up = cond-true (nat_lt x.b x.c) _ _ (lt-ltb x.b x.c l) ∙ sym up in
          let all = three_shares c.at.result.up c.at-bc.result.up c.at-2.result.down c.if-tri.second-bits (omega (arith, ints, w.second-is, c.if-tri.second-is)) fit.up.0 fit.up.1 fit_j.up.0 fit_j.up.1 fit_k.down.0 fit_k.down.1 in
          all ∙ sym (is ∙ (ap (λ z. z +ℤ (cond (nat_lt x.b x.c) j.up j.down +ℤ (entry es (get_or xs 2 0)).down)) (sym first) ∙ (ap (λ z. c.at.result.up +ℤ (z +ℤ (entry es (get_or xs 2 0)).down)) second ∙ ap (λ z. c.at.result.up +ℤ (c.at-bc.result.up +ℤ z)) (sym third))))
      | else-tri w ↦
          let l : x.c ≤ x.b = let h = w.if-tri.false in omega (arith, h, b_is, c_is) in
          let second : cond (nat_lt x.b x.c) j.up j.down ≡ c.at-bc.result.down = cond-false (nat_lt x.b x.c) _ _ (le-ltb x.b x.c l) ∙ sym down in
          let all = three_shares c.at.result.up c.at-bc.result.down c.at-2.result.down c.if-tri.second-bits (omega (arith, ints, w.second-is, c.if-tri.second-is)) fit.up.0 fit.up.1 fit_j.down.0 fit_j.down.1 fit_k.down.0 fit_k.down.1 in
          all ∙ sym (is ∙ (ap (λ z. z +ℤ (cond (nat_lt x.b x.c) j.up j.down +ℤ (entry es (get_or xs 2 0)).down)) (sym first) ∙ (ap (λ z. c.at.result.up +ℤ (z +ℤ (entry es (get_or xs 2 0)).down)) second ∙ ap (λ z. c.at.result.up +ℤ (c.at-bc.result.down +ℤ z)) (sym third))))
    ]

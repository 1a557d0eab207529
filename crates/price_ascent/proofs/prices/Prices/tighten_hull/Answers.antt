use Rattle.std.proofs.Common.{◌≡◌, ◌≤◌, ◌+◌, ℕ, List, ◌∷◌, length, drop, slice_index, refl, sym, ap, subst, inl, inr, arith}
use Rattle.exact_predicates.specs.Hull.{IsHullPair, ring_pairs}
use Rattle.exact_predicates.proofs.Rings.{IsNext, pair_of_place}
use Rattle.price_ascent.specs.Raised.{AreRaised}
use Rattle.price_ascent.proofs.Raised.{more_raised, none_raised}
use Rattle.price_ascent.proofs.RaisedSides.{hull_raised-one}
use Rattle.price_ascent.proofs.Sides.{next_pair, no_pair}
use Rattle.price_ascent.proofs.prices.Prices.tighten_hull.Goals as goal
use Rattle.price_ascent.proofs.prices.Prices.tighten_hull.Goals.{then-i-hull, else-i-hull}

pub raise_hull-requires-clause-pair : goal.raise_hull-requires-clause-pair
raise_hull-requires-clause-pair c =
    let h = c.hull-hull.result.now in
    let i = c.loop-i.i in
    let next : IsNext h i c.if-i-hull.next = elim c.if-i-hull.branch [
      | then-i-hull w ↦ inl (w.if-i-hull.true, sym w.next-is)
      | else-i-hull w ↦ let l = w.if-i-hull.false in let m = c.loop-i-test.true in inr (omega arith, sym w.next-is)
    ] in
    subst (λ (xs : List ℕ). IsHullPair xs (slice_index h i) c.if-i-hull.next) c.hull-hull.ensures.value
    (pair_of_place h (slice_index h i) c.if-i-hull.next i c.loop-i-test.true refl next)

pub loop-i-init : goal.loop-i-init
loop-i-init c = none_raised c.args.net.now c.args.self.now (ring_pairs c.args.net.now.hull) c.requires.entries c.requires.feasible

pub loop-i-preserved : goal.loop-i-preserved
loop-i-preserved c =
    let n = c.args.net.now in
    let h = c.hull-hull.result.now in
    let i = c.loop-i.i in
    let u = slice_index h i in
    let v = c.if-i-hull.next in
    let next : IsNext h i v = elim c.if-i-hull.branch [
      | then-i-hull w ↦ inl (w.if-i-hull.true, sym w.next-is)
      | else-i-hull w ↦ let l = w.if-i-hull.false in let m = c.loop-i-test.true in inr (omega arith, sym w.next-is)
    ] in
    let pair = subst (λ (xs : List ℕ). IsHullPair xs u v) c.hull-hull.ensures.value (pair_of_place h u v i c.loop-i-test.true refl next) in
    let rest = subst (λ (xs : List ℕ). drop i (ring_pairs xs) ≡ (u, v) ∷ drop (i + 1) (ring_pairs xs)) c.hull-hull.ensures.value (next_pair h i v c.loop-i-test.true next) in
    let sides = ring_pairs n.hull in
    let r = c.raise_hull.ensures in
    more_raised n c.args.self.now c.loop-i.self c.raise_hull.new.self sides (drop (i + 1) sides) u v
    (subst (λ (xs : List (ℕ × ℕ)). AreRaised n c.args.self.now c.loop-i.self sides xs) rest c.loop-i.invariant)
    (hull_raised-one n c.loop-i.self c.raise_hull.new.self r.0 u v c.loop-i.invariant.entries c.loop-i.invariant.feasible r.1 pair r.2)

pub returns : goal.returns
returns c =
    let past : length c.args.net.now.hull ≤ c.loop-i.i = let h = c.hull-hull.ensures.value in let l = c.loop-i-test.false in omega (arith, l, ap (λ (xs : List ℕ). length xs) h) in
    subst (λ (xs : List (ℕ × ℕ)). AreRaised c.args.net.now c.args.self.now c.loop-i.self (ring_pairs c.args.net.now.hull) xs) (no_pair c.args.net.now.hull c.loop-i.i past) c.loop-i.invariant

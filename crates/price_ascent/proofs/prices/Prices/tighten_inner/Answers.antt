use Rattle.std.proofs.Common.{◌≡◌, ◌≤◌, ◌<◌, ◌+◌, ℕ, true, List, ◌∷◌, length, flat_map, sym, ap, ◌∙◌, subst, arith}
use Rattle.lmt_network.specs.Network.{edge_at}
use Rattle.price_ascent.specs.declared.entry.PriceEntry.{PriceEntry}
use Rattle.price_ascent.specs.Ascent.{both_sides}
use Rattle.price_ascent.specs.Entries.{anchored_edges, entry}
use Rattle.price_ascent.specs.Raised.{AreRaised, sides_from}
use Rattle.price_ascent.proofs.Raised.{more_raised}
use Rattle.price_ascent.proofs.RaisedSides.{left_raised-one, right_raised-one}
use Rattle.price_ascent.proofs.Sides.{anchored-at, sides_from-more, sides_from-none, sides_from-skip}
use Rattle.price_ascent.proofs.prices.Prices.tighten_inner.Goals as goal
use Rattle.price_ascent.proofs.prices.Prices.tighten_inner.Goals.{then-at, else-at}

pub raise_right-requires-clause-entries : goal.raise_right-requires-clause-entries
raise_right-requires-clause-entries c =
    let inv = c.loop-e.invariant in
    let e_in : c.loop-e.e < length c.args.net.now.edges = let l = c.loop-e-test.true in let is = c.edges-e-end.ensures.value in omega (arith, l, is) in
    let flag = sym (ap (λ (p : PriceEntry). p.anchored) c.at.ensures) ∙ c.if-at.true in
    (left_raised-one c.args.net.now c.loop-e.self c.raise_left.new.self c.loop-e.e inv.entries inv.feasible e_in flag c.raise_left.ensures).entries

pub raise_right-requires-clause-feasible : goal.raise_right-requires-clause-feasible
raise_right-requires-clause-feasible c =
    let inv = c.loop-e.invariant in
    let e_in : c.loop-e.e < length c.args.net.now.edges = let l = c.loop-e-test.true in let is = c.edges-e-end.ensures.value in omega (arith, l, is) in
    let flag = sym (ap (λ (p : PriceEntry). p.anchored) c.at.ensures) ∙ c.if-at.true in
    (left_raised-one c.args.net.now c.loop-e.self c.raise_left.new.self c.loop-e.e inv.entries inv.feasible e_in flag c.raise_left.ensures).risen.feasible

pub loop-e-preserved : goal.loop-e-preserved
loop-e-preserved c =
    let n = c.args.net.now in
    let es = c.args.self.now in
    let fs = c.loop-e.self in
    let e = c.loop-e.e in
    let sides = flat_map both_sides (anchored_edges n es) in
    let a = (edge_at n e).a in
    let b = (edge_at n e).b in
    let one_each = c.requires.entries.one_each in
    let e_in : e < length n.edges = let l = c.loop-e-test.true in let is = c.edges-e-end.ensures.value in omega (arith, l, is) in
    let is = ap (λ (p : PriceEntry). p.anchored) c.at.ensures in
    elim c.if-at.branch [
      | then-at w ↦
          let gs = w.raise_left.new.self in
          let hs = w.raise_right.new.self in
          let flag : (entry fs e).anchored ≡ true = sym is ∙ w.if-at.true in
          let flag_es : (entry es e).anchored ≡ true = sym (anchored-at fs es e c.loop-e.invariant.anchored) ∙ flag in
          let one = more_raised n es fs gs sides ((b, a) ∷ sides_from n es (e + 1)) a b
          (subst (λ (xs : List (ℕ × ℕ)). AreRaised n es fs sides xs) (sides_from-more n es e one_each e_in flag_es) c.loop-e.invariant)
          (left_raised-one n fs gs e c.loop-e.invariant.entries c.loop-e.invariant.feasible e_in flag w.raise_left.ensures) in
          let flag_gs : (entry gs e).anchored ≡ true = anchored-at gs es e one.anchored ∙ flag_es in
          let two = more_raised n es gs hs sides (sides_from n es (e + 1)) b a one
          (right_raised-one n gs hs e one.entries one.feasible e_in flag_gs w.raise_right.ensures) in
          subst (λ (xs : List PriceEntry). AreRaised n es xs sides (sides_from n es (e + 1))) (sym w.self-is) two
      | else-at w ↦
          let flag_es = sym (anchored-at fs es e c.loop-e.invariant.anchored) ∙ (sym is ∙ w.if-at.false) in
          subst (λ (xs : List PriceEntry). AreRaised n es xs sides (sides_from n es (e + 1))) (sym w.self-is)
          (subst (λ (xs : List (ℕ × ℕ)). AreRaised n es fs sides xs) (sides_from-skip n es e one_each e_in flag_es) c.loop-e.invariant)
    ]

pub returns : goal.returns
returns c =
    let n = c.args.net.now in
    let past : length n.edges ≤ c.loop-e.e = let l = c.loop-e-test.false in let is = c.edges-e-end.ensures.value in omega (arith, l, is) in
    subst (λ (xs : List (ℕ × ℕ)). AreRaised n c.args.self.now c.loop-e.self (flat_map both_sides (anchored_edges n c.args.self.now)) xs) (sides_from-none n c.args.self.now c.loop-e.e past) c.loop-e.invariant

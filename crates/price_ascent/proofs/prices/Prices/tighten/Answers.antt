use Rattle.std.proofs.Common.{sym, ◌∙◌, arith}
use Rattle.std.proofs.lemmas.Int.{ints}
use Rattle.price_ascent.specs.declared.entry.PriceEntry.{PriceEntry}
use Rattle.price_ascent.specs.Entries.{no_entry}
use Rattle.price_ascent.proofs.Kept.{get_or-mapped, value_is}
use Rattle.price_ascent.proofs.Narrow.{belong_kept}
use Rattle.price_ascent.proofs.Tightness.{AreTightened, tight, tightened}
use Rattle.price_ascent.proofs.prices.Prices.tighten.Goals as goal

-- both passes together
passes : (c : goal.After-tighten_inner) → AreTightened c.args.net.now c.args.self.now c.tighten_hull.new.self c.tighten_inner.new.self
passes c = record { entries = c.requires.entries; bare = c.requires.bare; hull = c.tighten_hull.ensures; inner = c.tighten_inner.ensures }

pub returns-clause-tighten : goal.returns-clause-tighten
returns-clause-tighten c = tightened c.args.net.now c.args.self.now c.tighten_hull.new.self c.tighten_inner.new.self (passes c)

pub returns-clause-tight : goal.returns-clause-tight
returns-clause-tight c = tight c.args.net.now c.args.self.now c.tighten_hull.new.self c.tighten_inner.new.self (passes c)

pub returns-clause-prices : goal.returns-clause-prices
returns-clause-prices c = λ e inner.
    value_is c.tighten_inner.new.self e ∙ (c.tighten_inner.ensures.prices e inner ∙ (c.tighten_hull.ensures.prices e inner ∙ sym (value_is c.args.self.now e)))

pub returns-clause-anchors : goal.returns-clause-anchors
returns-clause-anchors c = λ e hull.
    let a = c.tighten_hull.ensures.anchors e hull in
    let b = c.tighten_inner.ensures.anchors e hull in
    let old = value_is c.args.self.now e in
    let new = value_is c.tighten_inner.new.self e in
    omega (arith, ints, a, b, old, new)

pub returns-clause-lefts : goal.returns-clause-lefts
returns-clause-lefts c = λ e.
    let a = c.tighten_hull.ensures.lefts e in
    let b = c.tighten_inner.ensures.lefts e in
    let old = get_or-mapped (λ (p : PriceEntry). p.left) c.args.self.now e no_entry in
    let new = get_or-mapped (λ (p : PriceEntry). p.left) c.tighten_inner.new.self e no_entry in
    omega (arith, ints, a, b, old, new)

pub returns-clause-rights : goal.returns-clause-rights
returns-clause-rights c = λ e.
    let a = c.tighten_hull.ensures.rights e in
    let b = c.tighten_inner.ensures.rights e in
    let old = get_or-mapped (λ (p : PriceEntry). p.right) c.args.self.now e no_entry in
    let new = get_or-mapped (λ (p : PriceEntry). p.right) c.tighten_inner.new.self e no_entry in
    omega (arith, ints, a, b, old, new)

pub returns-clause-bare : goal.returns-clause-bare
returns-clause-bare c = c.tighten_inner.ensures.bare (c.tighten_hull.ensures.bare c.requires.bare)

pub returns-clause-belong : goal.returns-clause-belong
returns-clause-belong c = λ b.
    belong_kept c.args.net.now c.args.self.now c.tighten_inner.new.self b c.tighten_inner.ensures.entries
    (c.tighten_inner.ensures.bare (c.tighten_hull.ensures.bare c.requires.bare)) c.tighten_inner.ensures.feasible
    (λ k inner. let first = c.tighten_hull.ensures.prices k inner in let second = c.tighten_inner.ensures.prices k inner in omega (arith, ints, first, second))
    (λ k hull. let first = c.tighten_hull.ensures.anchors k hull in let second = c.tighten_inner.ensures.anchors k hull in omega (arith, ints, first, second))

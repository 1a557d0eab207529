use Rattle.std.proofs.Common.{arith}
use Rattle.std.proofs.lemmas.Int.{ints}
use Rattle.point_grid.proofs.Bits.{kept64}
use Rattle.point_grid.proofs.CellNumbers.{part_rises}
use Rattle.point_grid.proofs.search.parts_between.Goals as goal

pub returns-clause-first : goal.returns-clause-first
returns-clause-first c = λ x above below from.
    let l_in = c.requires.low_in in let h_in = c.requires.high_in in
    let low = kept64 c.args.low (omega arith) in
    let high = kept64 c.args.high (omega arith) in
    let at = kept64 c.args.from c.requires.from_in in
    let b_low = rw low at c.brought.ensures.above in
    let b_high = rw high at c.brought.ensures.below in
    let brought = kept64 c.brought.result (omega (arith, ints, b_low, b_high)) in
    let is = rw (low, high, brought) at c.part_at.ensures.is in
    let m = part_rises c.args.parts c.args.low c.args.high c.brought.result x b_low (c.brought.ensures.at_most x (rw low above) (rw at from)) in
    omega (arith, m, is)

pub returns-clause-end : goal.returns-clause-end
returns-clause-end c = λ x above below to.
    let l_in = c.requires.low_in in let h_in = c.requires.high_in in
    let low = kept64 c.args.low (omega arith) in
    let high = kept64 c.args.high (omega arith) in
    let at = kept64 c.args.to c.requires.to_in in
    let b_low = rw low at c.brought-2.ensures.above in
    let b_high = rw high at c.brought-2.ensures.below in
    let brought = kept64 c.brought-2.result (omega (arith, ints, b_low, b_high)) in
    let is = rw (low, high, brought) at c.part_at-2.ensures.is in
    let m = part_rises c.args.parts c.args.low c.args.high x c.brought-2.result above (c.brought-2.ensures.at_least x (rw high below) (rw at to)) in
    omega (arith, m, is)

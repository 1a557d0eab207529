use Rattle.std.proofs.Common.{arith}
use Rattle.std.proofs.lemmas.Int.{ints}
use Rattle.point_grid.proofs.Bits.{kept64}
use Rattle.point_grid.proofs.region.wider.Goals as goal

pub returns-clause-has : goal.returns-clause-has
returns-clause-has c =
    let l = c.lower.ensures.bound in let r = c.upper.ensures.bound in let b = c.lower-2.ensures.bound in let t = c.upper-2.ensures.bound in
    let left = c.requires.left in let right = c.requires.right in let low = c.requires.low in let high = c.requires.high in
    record {
      left = rw (kept64 c.lower.result (omega arith)) (omega (arith, ints, c.lower.ensures.second));
      right = rw (kept64 c.upper.result (omega arith)) (omega (arith, ints, c.upper.ensures.second));
      low = rw (kept64 c.lower-2.result (omega arith)) (omega (arith, ints, c.lower-2.ensures.second));
      high = rw (kept64 c.upper-2.result (omega arith)) (omega (arith, ints, c.upper-2.ensures.second));
    }

pub returns-clause-all : goal.returns-clause-all
returns-clause-all c = λ q h.
    let l = c.lower.ensures.bound in let r = c.upper.ensures.bound in let b = c.lower-2.ensures.bound in let t = c.upper-2.ensures.bound in
    let gl = c.args.bounds.now.left_in in let gr = c.args.bounds.now.right_in in let gb = c.args.bounds.now.low_in in let gt = c.args.bounds.now.high_in in
    let hl = h.left in let hr = h.right in let hb = h.low in let ht = h.high in
    record {
      left = rw (kept64 c.lower.result (omega arith)) (omega (arith, ints, c.lower.ensures.first));
      right = rw (kept64 c.upper.result (omega arith)) (omega (arith, ints, c.upper.ensures.first));
      low = rw (kept64 c.lower-2.result (omega arith)) (omega (arith, ints, c.lower-2.ensures.first));
      high = rw (kept64 c.upper-2.result (omega arith)) (omega (arith, ints, c.upper-2.ensures.first));
    }

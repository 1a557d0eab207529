use Rattle.std.proofs.Common.{arith}
use Rattle.std.proofs.lemmas.Int.{ints}
use Rattle.point_grid.proofs.Bits.{kept64}
use Rattle.point_grid.proofs.region.around.Goals as goal

pub returns-clause-first : goal.returns-clause-first
returns-clause-first c =
    let l = c.lower.ensures.bound in let r = c.upper.ensures.bound in let b = c.lower-2.ensures.bound in let t = c.upper-2.ensures.bound in
    let left = c.requires.p_in.left in let right = c.requires.p_in.right in let low = c.requires.p_in.low in let high = c.requires.p_in.high in
    record {
      left = rw (kept64 c.lower.result (omega arith)) (omega (arith, ints, c.lower.ensures.first));
      right = rw (kept64 c.upper.result (omega arith)) (omega (arith, ints, c.upper.ensures.first));
      low = rw (kept64 c.lower-2.result (omega arith)) (omega (arith, ints, c.lower-2.ensures.first));
      high = rw (kept64 c.upper-2.result (omega arith)) (omega (arith, ints, c.upper-2.ensures.first));
    }

pub returns-clause-second : goal.returns-clause-second
returns-clause-second c =
    let l = c.lower.ensures.bound in let r = c.upper.ensures.bound in let b = c.lower-2.ensures.bound in let t = c.upper-2.ensures.bound in
    let left = c.requires.q_in.left in let right = c.requires.q_in.right in let low = c.requires.q_in.low in let high = c.requires.q_in.high in
    record {
      left = rw (kept64 c.lower.result (omega arith)) (omega (arith, ints, c.lower.ensures.second));
      right = rw (kept64 c.upper.result (omega arith)) (omega (arith, ints, c.upper.ensures.second));
      low = rw (kept64 c.lower-2.result (omega arith)) (omega (arith, ints, c.lower-2.ensures.second));
      high = rw (kept64 c.upper-2.result (omega arith)) (omega (arith, ints, c.upper-2.ensures.second));
    }

use Rattle.std.proofs.Common.{arith}
use Rattle.std.proofs.lemmas.Int.{ints}
use Rattle.point_grid.proofs.Bits.{kept64}
use Rattle.point_grid.proofs.framing.extended.Goals as goal

pub returns : goal.returns
returns c =
    let left = c.requires.left in let right = c.requires.right in let low = c.requires.low in let high = c.requires.high in
    let l_in = c.lesser.ensures.bound in let r_in = c.greater.ensures.bound in let b_in = c.lesser-2.ensures.bound in let t_in = c.greater-2.ensures.bound in
    let fl = c.args.frame.left_in in let fr = c.args.frame.right_in in let fb = c.args.frame.low_in in let ft = c.args.frame.high_in in
    record {
      wider = λ p h.
          let l = h.left in let r = h.right in let b = h.low in let t = h.high in
          record {
            left = rw (kept64 c.lesser.result (omega arith)) (omega (arith, ints, c.lesser.ensures.first));
            right = rw (kept64 c.greater.result (omega arith)) (omega (arith, ints, c.greater.ensures.first));
            low = rw (kept64 c.lesser-2.result (omega arith)) (omega (arith, ints, c.lesser-2.ensures.first));
            high = rw (kept64 c.greater-2.result (omega arith)) (omega (arith, ints, c.greater-2.ensures.first));
          };
      has = record {
        left = rw (kept64 c.lesser.result (omega arith)) (omega (arith, ints, c.lesser.ensures.second));
        right = rw (kept64 c.greater.result (omega arith)) (omega (arith, ints, c.greater.ensures.second));
        low = rw (kept64 c.lesser-2.result (omega arith)) (omega (arith, ints, c.lesser-2.ensures.second));
        high = rw (kept64 c.greater-2.result (omega arith)) (omega (arith, ints, c.greater-2.ensures.second));
      };
      left = rw (kept64 c.lesser.result (omega arith)) (rw (kept64 c.args.frame.left (omega arith), kept64 c.args.p.now.x (omega (arith, ints))) at c.lesser.ensures.pick);
      right = rw (kept64 c.greater.result (omega arith)) (rw (kept64 c.args.frame.right (omega arith), kept64 c.args.p.now.x (omega (arith, ints))) at c.greater.ensures.pick);
      low = rw (kept64 c.lesser-2.result (omega arith)) (rw (kept64 c.args.frame.low (omega arith), kept64 c.args.p.now.y (omega (arith, ints))) at c.lesser-2.ensures.pick);
      high = rw (kept64 c.greater-2.result (omega arith)) (rw (kept64 c.args.frame.high (omega arith), kept64 c.args.p.now.y (omega (arith, ints))) at c.greater-2.ensures.pick);
    }

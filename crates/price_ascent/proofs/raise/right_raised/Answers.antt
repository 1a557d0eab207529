use Rattle.std.proofs.Common.{refl, arith}
use Rattle.std.proofs.lemmas.Int.{ints}
use Rattle.price_ascent.proofs.Equal.{same_entry}
use Rattle.price_ascent.proofs.raise.right_raised.Goals as goal

pub returns : goal.returns
returns c =
    let y0 = c.requires.anchor.0 in
    let y1 = c.requires.anchor.1 in
    let m0 = c.requires.m.0 in
    let m1 = c.requires.m.1 in
    let down_low = c.requires.shares.down.0 in
    let down_high = c.requires.shares.down.1 in
    same_entry _ _ (omega (arith, ints)) (omega (arith, ints)) (omega (arith, ints, y0, y1, m0, m1)) (omega (arith, ints)) (omega (arith, ints, down_low, down_high, m0, m1)) refl refl

use Rattle.std.proofs.Common.{refl, arith}
use Rattle.std.proofs.lemmas.Int.{ints}
use Rattle.price_ascent.proofs.Equal.{same_entry}
use Rattle.price_ascent.proofs.start.anchored.Goals as goal

pub returns : goal.returns
returns c = same_entry _ _ (omega (arith, ints)) (omega (arith, ints)) (omega (arith, ints)) (omega (arith, ints)) (omega (arith, ints)) refl refl

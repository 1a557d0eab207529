use Rattle.std.proofs.Common.{arith}
use Rattle.diamond_edges.proofs.Marks.{AreNumbersBetween-from}
use Rattle.diamond_edges.proofs.seen.numbers_after.Goals as goal

pub returns : goal.returns
returns c = AreNumbersBetween-from _ _ _ (omega (arith, c.loop-b.invariant.0)) (λ k d l. c.loop-b.invariant.1 k d (omega arith))

use Rattle.flip_finish.proofs.Shortening.{IsTried}
use Rattle.flip_finish.proofs.passes.pass.Given as goal

abbrev pub invariant-loop-slot : goal.invariant-loop-slot
invariant-loop-slot l = IsTried l.points.points l.initial.mesh l.mesh l.slot l.flipped

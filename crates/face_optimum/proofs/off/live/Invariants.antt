use Rattle.std.proofs.Common.{◌≡◌, take}
use Rattle.face_optimum.proofs.off.live.Given as goal

abbrev pub invariant-loop-e : goal.invariant-loop-e
invariant-loop-e l = l.live.items ≡ take l.e l.flags

use Rattle.std.proofs.Common.{◌<◌}
use Rattle.flip_finish.specs.Face.{face_tris}
use Rattle.flip_finish.proofs.Giving.{AreGiven}
use Rattle.flip_finish.proofs.build.attach_all.Given as goal

abbrev pub invariant-loop-p : goal.invariant-loop-p
invariant-loop-p l = AreGiven (face_tris l.initial.faces) l.faces l.slots (λ p x. p < l.p)

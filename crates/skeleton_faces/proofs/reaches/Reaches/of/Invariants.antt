use Rattle.std.proofs.Common.{length}
use Rattle.skeleton_faces.specs.Reaches.{AreReaches}
use Rattle.skeleton_faces.proofs.reaches.Reaches.of.Given as goal

abbrev pub invariant-loop-t : goal.invariant-loop-t
invariant-loop-t l = AreReaches l.net l.flags l.places (length l.order) l.t l.reaches

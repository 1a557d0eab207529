use Rattle.std.proofs.Common.{◌≡◌, length}
use Rattle.skeleton_faces.proofs.Links.{AreLinkedTo}
use Rattle.skeleton_faces.proofs.turns.nexts.Given as goal

abbrev pub invariant-loop-place : goal.invariant-loop-place
invariant-loop-place l = (length l.nexts.items ≡ length l.order) × AreLinkedTo l.edges l.order l.place l.nexts.items

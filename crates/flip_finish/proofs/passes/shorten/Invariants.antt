use Rattle.std.proofs.Common.{All, sum_by}
use Rattle.flip_finish.specs.Flipping.{IsShortened, slot_d2}
use Rattle.flip_finish.specs.Mesh.{IsWithin}
use Rattle.flip_finish.proofs.passes.shorten.Given as goal

abbrev pub invariant-loop : goal.invariant-loop
invariant-loop l = IsShortened l.points.points l.initial.mesh l.mesh × All (IsWithin l.points.points) l.mesh.tris

abbrev pub decreases-loop : goal.decreases-loop
decreases-loop l = sum_by (slot_d2 l.points.points) l.mesh.slots

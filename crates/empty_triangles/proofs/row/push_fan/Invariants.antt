use Rattle.empty_triangles.proofs.Lists.{IsFanAddedTo}
use Rattle.empty_triangles.proofs.row.push_fan.Given as goal

abbrev pub invariant-loop-i : goal.invariant-loop-i
invariant-loop-i l = IsFanAddedTo l.a l.b l.thirds l.i l.initial.tris.items l.tris.items

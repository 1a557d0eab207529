use Rattle.edge_marks.specs.Handles.{IsSameSeat, Belongs}
use Rattle.mark_seats.proofs.Supports.{LeftsBroken}
use Rattle.edge_marks.proofs.Loads.{marks_loaded}
use Rattle.edge_marks.proofs.handles.Marks.search.Given as goal

abbrev pub invariant-loop-l : goal.invariant-loop-l
invariant-loop-l l = IsSameSeat l.initial.seat l.seat × Belongs l.self l.seat × LeftsBroken marks_loaded l.self.net l.e l.l-items l.initial.seat.known l.seat.known l.l-index

use Rattle.edge_marks.specs.Handles.{IsSameSeat, Belongs}
use Rattle.mark_seats.proofs.Supports.{RightsBroken}
use Rattle.edge_marks.proofs.Loads.{marks_loaded}
use Rattle.edge_marks.proofs.handles.Marks.partner.Given as goal

abbrev pub invariant-loop-r : goal.invariant-loop-r
invariant-loop-r l = IsSameSeat l.initial.seat l.seat × Belongs l.self l.seat × RightsBroken marks_loaded l.self.net l.e l.l l.r-items l.initial.seat.known l.seat.known l.r-index

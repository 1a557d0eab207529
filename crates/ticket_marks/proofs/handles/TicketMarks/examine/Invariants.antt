use Rattle.ticket_marks.specs.Handles.{IsSameSeat, Belongs}
use Rattle.mark_seats.proofs.Supports.{LeftsBroken}
use Rattle.ticket_marks.proofs.Loads.{ranks_loaded}
use Rattle.ticket_marks.proofs.handles.TicketMarks.examine.Given as goal

abbrev pub invariant-loop-l : goal.invariant-loop-l
invariant-loop-l l = IsSameSeat l.initial.seat l.seat × Belongs l.self l.seat × LeftsBroken ranks_loaded l.self.net l.e l.l-items l.initial.seat.known l.seat.known l.l-index

use Rattle.ticket_marks.specs.Handles.{IsSameSeat, Belongs}
use Rattle.mark_seats.proofs.Supports.{SidesPassed}
use Rattle.ticket_marks.proofs.Loads.{ranks_loaded}
use Rattle.ticket_marks.proofs.handles.TicketMarks.has_live_sides.Given as goal

abbrev pub invariant-loop-k : goal.invariant-loop-k
invariant-loop-k l = IsSameSeat l.initial.seat l.seat × Belongs l.self l.seat × SidesPassed ranks_loaded l.self.net l.e l.t l.sides l.initial.seat.known l.seat.known l.k

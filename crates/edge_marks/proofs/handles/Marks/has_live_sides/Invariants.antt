use Rattle.edge_marks.specs.Handles.{IsSameSeat, Belongs}
use Rattle.mark_seats.proofs.Supports.{SidesPassed}
use Rattle.edge_marks.proofs.Loads.{marks_loaded}
use Rattle.edge_marks.proofs.handles.Marks.has_live_sides.Given as goal

abbrev pub invariant-loop-k : goal.invariant-loop-k
invariant-loop-k l = IsSameSeat l.initial.seat l.seat × Belongs l.self l.seat × SidesPassed marks_loaded l.self.net l.e l.t l.sides l.initial.seat.known l.seat.known l.k

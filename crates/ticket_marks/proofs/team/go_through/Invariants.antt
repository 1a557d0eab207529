use Rattle.ticket_marks.specs.Handles.{Belongs}
use Rattle.ticket_marks.proofs.team.go_through.Given as goal

abbrev pub invariant-passes : goal.invariant-passes
invariant-passes g l = Belongs l.marks l.ranker.seat

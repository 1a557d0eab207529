use Rattle.ticket_marks.specs.Handles.{Belongs}
use Rattle.ticket_marks.proofs.team.pass.Given as goal

abbrev pub invariant-loop-e : goal.invariant-loop-e
invariant-loop-e g l = Belongs l.marks l.seat

use Rattle.std.proofs.Common.{◌≡◌, ◌+◌, length, All}
use Rattle.ticket_marks.specs.Handles.{Belongs}
use Rattle.ticket_marks.proofs.team.recruits.Given as goal

abbrev pub invariant-loop-number : goal.invariant-loop-number
invariant-loop-number l = record {
  count : length l.team.items ≡ l.number;
  splits : l.seat.known.splits + l.number ≡ l.initial.seat.known.splits;
  belongs : Belongs l.marks l.seat;
  each : All (λ r. Belongs l.marks r.seat) l.team.items;
}

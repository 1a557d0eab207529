use Rattle.std.proofs.Common.{◌≡◌, ◌+◌, length}
use Rattle.edge_marks.specs.Handles.{IsSameSeat, Belongs}
use Rattle.edge_marks.specs.Told.{Remembers}
use Rattle.steal_workers.specs.Workers.{AreTeam}
use Rattle.steal_workers.proofs.team.strangers.Given as goal

abbrev pub invariant-loop-number : goal.invariant-loop-number
invariant-loop-number l = (length l.team.items ≡ l.number)
    × (l.seat.known.splits + l.number ≡ l.initial.seat.known.splits)
    × IsSameSeat l.initial.seat l.seat
    × Belongs l.marks l.seat
    × Remembers l.initial.seat.known l.seat.known
    × AreTeam l.marks l.team.items

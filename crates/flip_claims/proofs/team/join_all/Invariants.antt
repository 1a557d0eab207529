use Rattle.std.proofs.Common.{length}
use Rattle.flip_claims.specs.Handles.{Belongs}
use Rattle.flip_claims.proofs.Joining.{IsJoinedTo}
use Rattle.flip_claims.proofs.team.join_all.Given as goal

abbrev pub invariant-loop-other : goal.invariant-loop-other
invariant-loop-other l = record {
  belongs : Belongs l.claims l.seat;
  joined : IsJoinedTo l.initial.team.items l.initial.seat.known l.seat.known l.team.items;
}

abbrev pub decreases-loop-other : goal.decreases-loop-other
decreases-loop-other l = length l.team.items

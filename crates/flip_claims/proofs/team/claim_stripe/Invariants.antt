use Rattle.std.proofs.Common.{◌≡◌, ◌-◌, length}
use Rattle.flip_claims.specs.Handles.{Belongs}
use Rattle.flip_claims.proofs.Stripes.{IsStripedTo}
use Rattle.flip_claims.proofs.team.claim_stripe.Given as goal

abbrev pub invariant-loop-place : goal.invariant-loop-place
invariant-loop-place g l = record {
  belongs : Belongs l.claims l.seat;
  shares : l.seat.known.shares ≡ l.initial.seat.known.shares;
  striped : IsStripedTo l.mesh l.slots l.workers l.number l.seat.known l.place;
}

abbrev pub decreases-loop-place : goal.decreases-loop-place
decreases-loop-place g l = length l.slots - l.place

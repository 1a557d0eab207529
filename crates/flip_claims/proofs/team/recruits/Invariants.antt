use Rattle.std.proofs.Common.{◌≡◌, ◌+◌, [], length, All}
use Rattle.flip_claims.specs.Handles.{Belongs}
use Rattle.flip_claims.proofs.team.recruits.Given as goal

abbrev pub invariant-recruit : goal.invariant-recruit
invariant-recruit l = record {
  count : length l.team.items ≡ l.counter;
  splits : l.seat.known.splits + l.counter ≡ l.initial.seat.known.splits;
  shares : l.seat.known.shares + l.counter ≡ l.initial.seat.known.shares;
  claimed : l.seat.known.claimed ≡ l.initial.seat.known.claimed;
  belongs : Belongs l.claims l.seat;
  team : All (λ s. Belongs l.claims s × (s.known.claimed ≡ []) × (s.known.shares ≡ 1)) l.team.items;
}

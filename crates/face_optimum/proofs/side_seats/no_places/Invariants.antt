use Rattle.std.proofs.Common.{◌≡◌, None, replicate}
use Rattle.face_optimum.proofs.side_seats.no_places.Given as goal

abbrev pub invariant-loop-turn : goal.invariant-loop-turn
invariant-loop-turn l = l.seats.items ≡ replicate l._turn None

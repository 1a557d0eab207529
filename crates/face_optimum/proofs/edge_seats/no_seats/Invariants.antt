use Rattle.std.proofs.Common.{◌≡◌, None, replicate}
use Rattle.face_optimum.proofs.edge_seats.no_seats.Given as goal

abbrev pub invariant-loop-turn : goal.invariant-loop-turn
invariant-loop-turn l = l.seats.items ≡ replicate l._turn None

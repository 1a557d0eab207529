-- It does not go past the last.
use Rattle.std.proofs.Common.{◌+◌, sym, arith}
use Rattle.face_optimum.proofs.RingPlaces.{small}
use Rattle.face_optimum.proofs.links.next_place.Goals as goal

pub returns-then-place-places : goal.returns-then-place-places
returns-then-place-places c = sym (small (c.args.place + 1) c.args.places (omega arith))

use Rattle.std.proofs.Common.{◌≡◌, map, take}
use Rattle.face_optimum.specs.Decomposition.{bounded_faces}
use Rattle.face_optimum.proofs.bounded.bounded.Given as goal

abbrev pub invariant-loop-i : goal.invariant-loop-i
invariant-loop-i l = map (λ ring. ring.items) l.rings.items ≡ bounded_faces l.hull (take l.i l.faces)

use Rattle.std.proofs.Common.{◌≡◌, ◌-◌, ◌*◌, ◌≤◌, length, sum_by, take}
use Rattle.face_optimum.specs.Decomposition.{bounded_faces}
use Rattle.face_optimum.proofs.bounded.places_less_two.Given as goal

abbrev pub invariant-loop-i : goal.invariant-loop-i
invariant-loop-i l = (l.sum ≡ sum_by (λ c. length c - 2) (bounded_faces l.hull (take l.i l.faces))) × (l.sum ≤ 126 * l.i)

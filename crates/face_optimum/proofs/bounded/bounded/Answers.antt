-- The faces are few, and each has few places.
use Rattle.std.proofs.Common.{◌≡◌, ◌≤◌, List, ℕ, length, map, ap, ◌∙◌, arith}
use Rattle.std.proofs.lemmas.List.{length-map}
use Rattle.std.proofs.Common.{Vec, Global}
use Rattle.face_optimum.proofs.BoundedFaces.{All-items, bounded_all, length-bounded-le}
use Rattle.face_optimum.specs.Decomposition.{bounded_faces}
use Rattle.face_optimum.proofs.bounded.bounded.Goals as goal

pub invariant_of-result : goal.invariant_of-result
invariant_of-result c =
    let hull = c.args.hull.now in
    let faces = c.args.faces.now in
    let rings = c.loop-i.rings.items in
    let many = c.len-i-end.ensures in
    let all : map (λ (ring : Vec ℕ Global). ring.items) rings ≡ bounded_faces hull faces = c.loop-i.invariant ∙ bounded_all hull faces c.loop-i.i (omega (arith, c.loop-i-test.false, many)) in (
      omega (arith, length-map rings (λ (ring : Vec ℕ Global). ring.items), ap length all, length-bounded-le hull faces, many),
      All-items (λ (c : List ℕ). length c ≤ 128) rings (bounded_faces hull faces) all c.requires.few,
    )

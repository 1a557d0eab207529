-- After a flip the slots still have the edges of the triangulation.
use Rattle.std.proofs.Common.{◌≡◌, ℕ, ◌+◌, ◌<◌, List, [], ◌∷◌, sum_by, arith, ap, ◌∙◌, refl, ⊎_elim}
use Rattle.std.proofs.lemmas.Bool.{cases_lt}
use Rattle.std.proofs.lemmas.List.Sums.{sum_by-cons, sum_by-set}
use Rattle.exact_predicates.specs.declared.edge.Edge.{Edge}
use Rattle.exact_predicates.specs.declared.point.Point.{Point}
use Rattle.exact_predicates.specs.Candidates.{Joins}
use Rattle.exact_predicates.specs.Flip.{IsShortening}
use Rattle.exact_predicates.specs.Hull.{IsHull}
use Rattle.exact_predicates.specs.Triangulation.{IsTriangulation, edges, hit}
use Rattle.exact_predicates.proofs.Corners.{corners_differ}
use Rattle.exact_predicates.proofs.Equalities.{Joins-comm}
use Rattle.exact_predicates.proofs.Flips.{inner_diagonals}
use Rattle.exact_predicates.proofs.FlipSums.{sum_by-edges-flip}
use Rattle.exact_predicates.proofs.Pairs.{hit_none, hit_turned}
use Rattle.flip_finish.specs.declared.slot.Slot.{Slot}
use Rattle.flip_finish.specs.Face.{face_tris}
use Rattle.flip_finish.specs.Mesh.{edge_count}
use Rattle.flip_finish.specs.Slot.{with_left}
use Rattle.flip_finish.proofs.FlipSteps.{Step, at_uv, new_faces, new_slots, with_diagonal, with_ub}
use Rattle.flip_finish.proofs.Flipped.{IsFlip-step}

-- an edge, read both ways
abbrev both_ways_hit : ℕ → ℕ → ℕ × ℕ → ℕ
both_ways_hit x y e = hit x y e + hit y x e

edge_count_sum : (x y : ℕ) (es : List (ℕ × ℕ)) → sum_by (both_ways_hit x y) es ≡ edge_count es x y
edge_count_sum x y [] = refl
edge_count_sum x y (e ∷ es) =
    omega (arith, sum_by-cons (both_ways_hit x y) e es, sum_by-cons (hit x y) e es, sum_by-cons (hit y x) e es, edge_count_sum x y es)

-- the edge of a slot is read upwards
slot_hit : (x y u v : ℕ) (e : Edge) → x < y → Joins e u v → hit x y (e.a, e.b) ≡ both_ways_hit x y (u, v)
slot_hit x y u v e l j =
    let up = e.ascending in
    ⊎_elim
    (λ u_v.
    let a : e.a ≡ u = omega (arith, j.0) in
    let b : e.b ≡ v = omega (arith, j.1) in
    let down : hit y x (u, v) ≡ 0 = hit_none y x u v (λ k. let k0 = k.0 in let k1 = k.1 in absurd (omega arith)) in
    ap (λ n. hit x y (n, e.b)) a ∙ (ap (λ n. hit x y (u, n)) b ∙ omega arith))
    (λ v_u.
    let a : e.a ≡ v = omega (arith, j.0) in
    let b : e.b ≡ u = omega (arith, j.1) in
    let down : hit x y (u, v) ≡ 0 = hit_none x y u v (λ k. let k0 = k.0 in let k1 = k.1 in absurd (omega arith)) in
    ap (λ n. hit x y (n, e.b)) a ∙ (ap (λ n. hit x y (v, n)) b ∙ omega (arith, hit_turned x y v u)))
    (cases_lt u v)

pub each-step : (ps : List Point) (hull : List ℕ) (s : Step) → IsShortening ps s.u s.v s.a s.b → IsHull ps hull → IsTriangulation ps hull (face_tris s.faces)
    → ((x y : ℕ) → x < y → sum_by (λ (k : Slot). hit x y (k.edge.a, k.edge.b)) s.slots ≡ edge_count (edges hull (face_tris s.faces)) x y)
    → (x y : ℕ) → x < y → sum_by (λ (k : Slot). hit x y (k.edge.a, k.edge.b)) (new_slots s) ≡ edge_count (edges hull (face_tris (new_faces s))) x y
each-step ps hull s short h t each x y l =
    let flip = IsFlip-step s in
    let f = both_ways_hit x y in
    let g : Slot → ℕ = λ k. hit x y (k.edge.a, k.edge.b) in
    let uv = at_uv s in
    let (inner_uv, inner_ab) = inner_diagonals ps hull (face_tris s.faces) (face_tris (new_faces s)) s.u s.v s.a s.b h t flip short in
    omega (
      arith,
      each x y l,
      sum_by-set g s.slots s.slot s.diagonal uv.slot uv.slot_at.inside,
      sum_by-set g (with_diagonal s) s.ub (with_left s.ub_slot s.u s.b s.i) s.ub_slot s.ub_at.inside,
      sum_by-set g (with_ub s) s.va (with_left s.va_slot s.v s.a s.j) s.va_slot s.va_at.inside,
      ap g uv.slot_at.is,
      ap g s.ub_at.is,
      ap g s.va_at.is,
      slot_hit x y s.u s.v uv.slot.edge l uv.joins,
      slot_hit x y s.a s.b s.diagonal.edge l (Joins-comm s.diagonal.edge s.b s.a s.diagonal_is.joins),
      sum_by-edges-flip hull (face_tris s.faces) (face_tris (new_faces s)) f s.u s.v s.a s.b
          (λ p q. omega (arith, hit_turned x y p q, hit_turned y x p q)) inner_uv inner_ab
          (corners_differ flip.left s.u s.v s.a flip.left_is) s.apart flip,
      edge_count_sum x y (edges hull (face_tris s.faces)),
      edge_count_sum x y (edges hull (face_tris (new_faces s))),
    )

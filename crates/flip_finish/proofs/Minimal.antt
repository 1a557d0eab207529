-- A mesh in which no slot shortens is flip-minimal.
use Rattle.std.proofs.Common.{◌≡◌, ℕ, ◌<◌, Bool, true, false, cond, List, [], ◌∷◌, length, get_or, All, filter, Option, Some, None, arith, refl, ◌∙◌, subst, ⊎_elim, inl, inr}
use Rattle.std.proofs.lemmas.Bool.{cases_lt}
use Rattle.std.proofs.lemmas.List.{get_or_default}
use Rattle.std.proofs.lemmas.List.Elements.{All-cons, All-head, All-tail}
use Rattle.exact_predicates.specs.declared.point.Point.{Point}
use Rattle.exact_predicates.specs.declared.tri.Tri.{Tri}
use Rattle.exact_predicates.specs.Flip.{IsFlipMinimal, IsMinimalBetween, IsMinimalIn}
use Rattle.exact_predicates.specs.Hull.{IsHullPair}
use Rattle.exact_predicates.specs.Plane.{d2}
use Rattle.exact_predicates.specs.PointSet.{point_at}
use Rattle.exact_predicates.specs.Triangulation.{HasCorners, is_inner, sides}
use Rattle.exact_predicates.proofs.Equalities.{Joins-comm}
use Rattle.exact_predicates.proofs.Pairs.{is_inner_decides}
use Rattle.exact_predicates.proofs.Reordered.{All-pieces}
use Rattle.flip_finish.specs.Flipping.{HasQuad, Shortens}
use Rattle.flip_finish.specs.Mesh.{HasLeft, IsMeshOf, IsWhole, Parts}
use Rattle.flip_finish.specs.Places.{IsAt}
use Rattle.flip_finish.proofs.Slots.{left_down}

-- what holds of each element that passes holds of those that a filter keeps
All-filter_passing : {X : Type 0} (p : X → Bool) (P : X → Type 0) (xs : List X) → All (λ x. p x ≡ true → P x) xs → All P (filter p xs)
All-filter_passing p P [] h = λ k d l. absurd (omega arith)
All-filter_passing {X} p P (x ∷ xs) h = at (p x) refl (All-filter_passing p P xs (All-tail (λ y. p y ≡ true → P y) x xs h))
  where
    at : (b : Bool) → p x ≡ b → All P (filter p xs) → All P (cond b (x ∷ filter p xs) (filter p xs))
    at true e rest = All-cons P x (filter p xs) (All-head (λ y. p y ≡ true → P y) x xs h e) rest
    at false e rest = rest

-- a slot that does not shorten is locally minimal
minimal_quad : (ps : List Point) (m : Parts) (p u v a b : ℕ) → HasQuad m p u v a b → ¬ Shortens ps m p → IsMinimalBetween ps u v a b
minimal_quad ps m p u v a b q still =
    ⊎_elim
    (λ l. inl (λ c. still (record { u = u; v = v; a = a; b = b; quad = q; shortening = record { convex = c; shorter = l } })))
    (λ l. inr l)
    (cases_lt (d2 (point_at ps a) (point_at ps b)) (d2 (point_at ps u) (point_at ps v)))

-- an inner side has its two triangles at one slot, and is minimal between them
minimal_side : (ps : List Point) (hull : List ℕ) (m : Parts) (t : ℕ) (tri : Tri) (x y w : ℕ) → IsWhole m → IsMeshOf ps hull m
    → ((p : ℕ) → p < length m.slots → ¬ Shortens ps m p) → IsAt m.tris t tri → HasCorners tri x y w → is_inner hull (x, y) ≡ true
    → IsMinimalIn ps m.tris x y
minimal_side ps hull m t tri x y w whole of_hull still at_t corners inner =
    let (up, no_pair) = (is_inner_decides hull x y).0 inner in
    let (p, h) = whole.of_side t tri x y w at_t corners in
    two p h up no_pair h.slot.right refl
  where
    two : (p : ℕ) (h : HasLeft m.slots p x y t) → x < y → ¬ IsHullPair hull x y → (o : Option ℕ) → h.slot.right ≡ o → IsMinimalIn ps m.tris x y
    two p h up no_pair None e =
        let j = h.joins in
        let a : h.slot.edge.a ≡ x = omega (arith, j.0) in
        let b : h.slot.edge.b ≡ y = omega (arith, j.1) in
        absurd (no_pair (subst (λ n. IsHullPair hull x n) b (subst (λ n. IsHullPair hull n h.slot.edge.b) a (of_hull.outer_right p h.slot h.slot_at e))))
    two p h up no_pair (Some j) e =
        let right : HasLeft m.slots p y x j = record {
          slot = h.slot;
          slot_at = h.slot_at;
          joins = Joins-comm h.slot.edge x y h.joins;
          left = left_down h.slot y x (omega arith) ∙ e;
        } in
        let (other, z, at_j, other_corners) = whole.of_slot p y x j right in
        let quad : HasQuad m p x y w z = record {
          up = up;
          i = t;
          j = j;
          left = h;
          right = right;
          left_tri = tri;
          right_tri = other;
          left_at = at_t;
          right_at = at_j;
          left_is = corners;
          right_is = other_corners;
        } in
        record {
          a = w;
          b = z;
          on_left = (t, tri, at_t.inside, at_t.is, corners);
          on_right = (j, other, at_j.inside, at_j.is, other_corners);
          minimal = minimal_quad ps m p x y w z quad (still p h.slot_at.inside);
        }

pub IsFlipMinimal-still : (ps : List Point) (hull : List ℕ) (m : Parts) → IsWhole m → IsMeshOf ps hull m
    → ((p : ℕ) → p < length m.slots → ¬ Shortens ps m p) → IsFlipMinimal ps hull m.tris
IsFlipMinimal-still ps hull m whole of_hull still =
    let P : ℕ × ℕ → Type 0 = λ e. IsMinimalIn ps m.tris e.0 e.1 in
    let Q : ℕ × ℕ → Type 0 = λ e. is_inner hull e ≡ true → P e in
    All-pieces P (is_inner hull) sides m.tris
    (λ t d l.
    let tri = get_or m.tris t d in
    let here : IsAt m.tris t tri = record { inside = l; is = get_or_default m.tris t tri d l } in
    let side : (x y w : ℕ) → HasCorners tri x y w → Q (x, y) = λ x y w c. minimal_side ps hull m t tri x y w whole of_hull still here c in
    All-filter_passing (is_inner hull) P (sides tri)
    (All-cons Q (tri.a, tri.b) ((tri.b, tri.c) ∷ (tri.c, tri.a) ∷ []) (side tri.a tri.b tri.c (inl (refl, refl, refl)))
    (All-cons Q (tri.b, tri.c) ((tri.c, tri.a) ∷ []) (side tri.b tri.c tri.a (inr (inl (refl, refl, refl))))
    (All-cons Q (tri.c, tri.a) [] (side tri.c tri.a tri.b (inr (inr (refl, refl, refl)))) (λ k e f. absurd (omega arith))))))

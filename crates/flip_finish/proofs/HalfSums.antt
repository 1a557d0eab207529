-- Halves by what they weigh: both lists have the same edges, and a side of a triangle is there just once.
use Rattle.std.proofs.Common.{◌≡◌, ◌≢◌, ℕ, zero, suc, ◌+◌, ◌<◌, ◌≤◌, Bool, true, false, cond, ◌&&◌, nat_eq, List, [], ◌∷◌, sum_by, filter, map, Option, Some, None, arith, ap, sym, ◌∙◌, refl, ⊎_elim}
use Rattle.std.proofs.lemmas.Bool.{cases_Bool, cases_eq, cases_lt}
use Rattle.std.proofs.lemmas.Bool.Decides.{Decides-eqb}
use Rattle.std.proofs.lemmas.List.Sorted.{sum_by-IsPermutation}
use Rattle.std.proofs.lemmas.List.Sums.{get_or-le-sum_by, sum_by-cons}
use Rattle.std.specs.List.Sorted.{IsPermutation}
use Rattle.exact_predicates.specs.declared.tri.Tri.{Tri}
use Rattle.exact_predicates.specs.Hull.{ring_pairs}
use Rattle.exact_predicates.specs.Triangulation.{hit, is_side, side_count}
use Rattle.exact_predicates.proofs.Elements.{sum_by-some}
use Rattle.exact_predicates.proofs.Pairs.{is_side_decides}
use Rattle.flip_finish.specs.declared.halves.Half.{Half}
use Rattle.flip_finish.specs.Halves.{AreSplit, all_sides, goes_up, half_key, turned_side}
use Rattle.flip_finish.specs.Places.{IsAt}
use Rattle.flip_finish.specs.Slotted.{IsMet}
use Rattle.flip_finish.proofs.HullSums.{weight_all}
use Rattle.flip_finish.proofs.PairedHalves.{HaveSame, edge_hit}
use Rattle.flip_finish.proofs.SideSums.{any_face, is_face, sum_by-map, sum_by-same, weight, weight_any, weight_not_up, weight_turned, weight_up}

-- the halves of a split, sorted in any way
pub record AreMoved (sides : List ((ℕ × ℕ) × Option ℕ)) (ups downs : List Half) : Type 0 where
  pub old_ups : List Half
  pub old_downs : List Half
  pub split : AreSplit sides old_ups old_downs
  pub ups_moved : IsPermutation old_ups ups
  pub downs_moved : IsPermutation old_downs downs

-- what a half weighs
abbrev pub half_weight : (Option ℕ → Bool) → ℕ → ℕ → Half → ℕ
half_weight test x y h = weight test x y (half_key h)

ups_kept : (sides : List ((ℕ × ℕ) × Option ℕ)) (ups downs : List Half) (test : Option ℕ → Bool) (x y : ℕ) → AreMoved sides ups downs
    → sum_by (half_weight test x y) ups ≡ sum_by (weight test x y) (filter goes_up sides)
ups_kept sides ups downs test x y m =
    sum_by-IsPermutation (half_weight test x y) m.old_ups ups m.ups_moved
    ∙ (sym (sum_by-map (weight test x y) half_key m.old_ups) ∙ ap (λ l. sum_by (weight test x y) l) m.split.ups_are)

downs_kept : (sides : List ((ℕ × ℕ) × Option ℕ)) (ups downs : List Half) (test : Option ℕ → Bool) (x y : ℕ) → AreMoved sides ups downs
    → sum_by (half_weight test x y) downs ≡ sum_by (weight test x y) (filter goes_up (map turned_side sides))
downs_kept sides ups downs test x y m =
    sum_by-IsPermutation (half_weight test x y) m.old_downs downs m.downs_moved
    ∙ (sym (sum_by-map (weight test x y) half_key m.old_downs) ∙ ap (λ l. sum_by (weight test x y) l) m.split.downs_are)

-- ups weigh what all sides weigh that way, and downs the other way
pub ups_weigh : (sides : List ((ℕ × ℕ) × Option ℕ)) (ups downs : List Half) (test : Option ℕ → Bool) (x y : ℕ) → AreMoved sides ups downs → x < y
    → sum_by (half_weight test x y) ups ≡ sum_by (weight test x y) sides
ups_weigh sides ups downs test x y m l = ups_kept sides ups downs test x y m ∙ weight_up test x y l sides

pub downs_weigh : (sides : List ((ℕ × ℕ) × Option ℕ)) (ups downs : List Half) (test : Option ℕ → Bool) (x y : ℕ) → AreMoved sides ups downs → x < y
    → sum_by (half_weight test x y) downs ≡ sum_by (weight test y x) sides
downs_weigh sides ups downs test x y m l =
    downs_kept sides ups downs test x y m ∙ (weight_up test x y l (map turned_side sides) ∙ weight_turned test x y sides)

-- the edges of halves alone
edge_weight : (x y : ℕ) (hs : List Half) → sum_by (edge_hit x y) hs ≡ sum_by (half_weight any_face x y) hs
edge_weight x y hs = sum_by-same (edge_hit x y) (half_weight any_face x y) (λ h. sym (weight_any x y h.edge.a h.edge.b h.face)) hs

-- how often an edge is among the ups
pub edge_count : (hull : List ℕ) (tris : List Tri) (ups downs : List Half) (x y : ℕ) → AreMoved (all_sides hull tris) ups downs → x < y
    → sum_by (edge_hit x y) ups ≡ side_count tris x y + sum_by (hit y x) (ring_pairs hull)
edge_count hull tris ups downs x y m l =
    edge_weight x y ups ∙ (ups_weigh (all_sides hull tris) ups downs any_face x y m l ∙ weight_all hull tris x y)

pub have_same : (hull : List ℕ) (tris : List Tri) (ups downs : List Half) → AreMoved (all_sides hull tris) ups downs
    → ((x y : ℕ) → x ≢ y → IsMet hull tris x y) → HaveSame ups downs
have_same hull tris ups downs m met = λ x y.
    let all = all_sides hull tris in
    ⊎_elim
    (λ l.
    edge_count hull tris ups downs x y m l
    ∙ ((met x y (λ e. absurd (omega arith))).met
    ∙ (sym (weight_all hull tris y x) ∙ (sym (downs_weigh all ups downs any_face x y m l) ∙ sym (edge_weight x y downs)))))
    (λ l.
    edge_weight x y ups
    ∙ (ups_kept all ups downs any_face x y m
    ∙ (weight_not_up any_face x y l all
    ∙ (sym (weight_not_up any_face x y l (map turned_side all))
    ∙ (sym (downs_kept all ups downs any_face x y m) ∙ sym (edge_weight x y downs))))))
    (cases_lt x y)

-- the half p has the edge from a up to b, and the triangle t
pub record IsHalfAt (hs : List Half) (p a b t : ℕ) : Type 0 where
  pub half : Half
  pub half_at : IsAt hs p half
  pub a_is : half.edge.a ≡ a
  pub b_is : half.edge.b ≡ b
  pub face_is : half.face ≡ Some t

-- what weighs something is the half that is meant
half_from_weight : (a b t : ℕ) (h : Half) → 1 ≤ half_weight (is_face t) a b h → (h.edge.a ≡ a) × (h.edge.b ≡ b) × (h.face ≡ Some t)
half_from_weight a b t h l = at (is_side a b (h.edge.a, h.edge.b)) h.face refl refl l
  where
    at : (s : Bool) (o : Option ℕ) → is_side a b (h.edge.a, h.edge.b) ≡ s → h.face ≡ o → 1 ≤ cond {A = ℕ} (s && is_face t o) 1 0
        → (h.edge.a ≡ a) × (h.edge.b ≡ b) × (h.face ≡ Some t)
    at false o e f l = absurd (omega arith)
    at true None e f l = absurd (omega arith)
    at true (Some s) e f l =
        let ends = (is_side_decides a b h.edge.a h.edge.b).0 e in
        ⊎_elim
        (λ same. (ends.0, ends.1, f ∙ ap Some ((Decides-eqb s t).0 same)))
        (λ other. absurd (omega (arith, l, ap (λ k. cond {A = ℕ} k 1 0) other)))
        (cases_Bool (nat_eq s t))

weight_from_half : (hs : List Half) (p a b t : ℕ) → (h : IsHalfAt hs p a b t) → half_weight (is_face t) a b h.half ≡ 1
weight_from_half hs p a b t h =
    let same = (is_side_decides a b h.half.edge.a h.half.edge.b).1 (h.a_is, h.b_is) in
    ap (λ s. cond {A = ℕ} (s && is_face t h.half.face) 1 0) same
    ∙ (ap (λ o. cond {A = ℕ} (is_face t o) 1 0) h.face_is ∙ ap (λ k. cond {A = ℕ} k 1 0) ((Decides-eqb t t).1 refl))

-- where halves weigh one, one is there
pub half_there : (hs : List Half) (a b t : ℕ) → sum_by (half_weight (is_face t) a b) hs ≡ 1 → (p : ℕ) × IsHalfAt hs p a b t
half_there hs a b t e =
    let (p, h, p_in, at_p, some) = sum_by-some (half_weight (is_face t) a b) hs (omega arith) in
    let k = half_from_weight a b t h some in
    (p, record { half = h; half_at = record { inside = p_in; is = at_p }; a_is = k.0; b_is = k.1; face_is = k.2 })

-- two places of a list weigh no more than all
two_places : {X : Type 0} (f : X → ℕ) (xs : List X) (p q : ℕ) (x y : X) → p ≢ q → IsAt xs p x → IsAt xs q y → f x + f y ≤ sum_by f xs
two_places f [] p q x y ne h k = absurd (omega (arith, h.inside))
two_places f (z ∷ xs) zero zero x y ne h k = absurd (ne refl)
two_places f (z ∷ xs) zero (suc q) x y ne h k =
    omega (arith, sum_by-cons f z xs, ap f h.is, get_or-le-sum_by f xs q y (omega (arith, k.inside)), ap f k.is)
two_places f (z ∷ xs) (suc p) zero x y ne h k =
    omega (arith, sum_by-cons f z xs, ap f k.is, get_or-le-sum_by f xs p x (omega (arith, h.inside)), ap f h.is)
two_places f (z ∷ xs) (suc p) (suc q) x y ne h k =
    omega (
      arith,
      sum_by-cons f z xs,
      two_places f xs p q x y (λ e. ne (ap suc e)) (record { inside = omega (arith, h.inside); is = h.is }) (record { inside = omega (arith, k.inside); is = k.is }),
    )

-- and only one
pub half_only : (hs : List Half) (a b t p q : ℕ) → sum_by (half_weight (is_face t) a b) hs ≡ 1 → IsHalfAt hs p a b t → IsHalfAt hs q a b t → p ≡ q
half_only hs a b t p q e h k =
    ⊎_elim
    (λ same. same)
    (λ ne. absurd (omega (
      arith,
      two_places (half_weight (is_face t) a b) hs p q h.half k.half ne h.half_at k.half_at,
      weight_from_half hs p a b t h,
      weight_from_half hs q a b t k,
    )))
    (cases_eq p q)

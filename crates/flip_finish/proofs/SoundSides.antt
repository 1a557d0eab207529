-- Each of all sides is one of its triangle, or is the outer side of a pair of the hull.
use Rattle.std.proofs.Common.{◌≡◌, ℕ, suc, ◌+◌, ◌*◌, ◌≤◌, List, [], ◌∷◌, length, get_or, map, All, Option, Some, None, arith, ap, sym, refl, subst, inl, inr}
use Rattle.std.proofs.lemmas.List.{get_or_default, length-append, length-map}
use Rattle.std.proofs.lemmas.List.Elements.{All-append, All-cons, All-filter, All-map}
use Rattle.std.proofs.lemmas.List.Sorted.{All-permutation}
use Rattle.std.proofs.lemmas.Option.{none-some, same_Some}
use Rattle.std.specs.List.Sorted.{IsPermutation}
use Rattle.exact_predicates.specs.declared.tri.Tri.{Tri}
use Rattle.exact_predicates.specs.Hull.{IsHullPair, ring_pairs}
use Rattle.exact_predicates.specs.Triangulation.{HasCorners}
use Rattle.exact_predicates.proofs.ListFacts.{length-filter-le}
use Rattle.exact_predicates.proofs.Rings.{length-ring}
use Rattle.flip_finish.specs.declared.halves.Half.{Half}
use Rattle.flip_finish.specs.Halves.{AreSplit, all_sides, goes_up, half_key, numbered_sides, outer_sides, turned_side}
use Rattle.flip_finish.specs.Places.{IsAt}

-- what a side says is so
pub record IsSound (hull : List ℕ) (tris : List Tri) (s : (ℕ × ℕ) × Option ℕ) : Type 0 where
  pub inner : (t : ℕ) → s.1 ≡ Some t → (tri : Tri) × (w : ℕ) × IsAt tris t tri × HasCorners tri s.0.0 s.0.1 w
  pub outer : s.1 ≡ None → IsHullPair hull s.0.1 s.0.0

-- a fact on each image is one on each element
pub All-map_back : {X Y : Type 0} (P : Y → Type 0) (f : X → Y) (xs : List X) → All P (map f xs) → All (λ x. P (f x)) xs
All-map_back P f [] h = λ k d l. absurd (omega arith)
All-map_back P f (x ∷ xs) h = All-cons (λ y. P (f y)) x xs (h 0 (f x) (omega arith)) (All-map_back P f xs (λ k d l. h (suc k) d (omega arith)))

side_sound : (hull : List ℕ) (tris : List Tri) (n x y w : ℕ) (tri : Tri) → IsAt tris n tri → HasCorners tri x y w → IsSound hull tris ((x, y), Some n)
side_sound hull tris n x y w tri h c =
    record {
      inner = λ t e. let same = same_Some n t e in (tri, w, subst (λ m. IsAt tris m tri) same h, c);
      outer = λ e. absurd (none-some n (sym e));
    }

numbered_sound : (hull : List ℕ) (tris : List Tri) (n : ℕ) (ts : List Tri) → ((k : ℕ) (t : Tri) → IsAt ts k t → IsAt tris (n + k) t)
    → All (IsSound hull tris) (numbered_sides n ts)
numbered_sound hull tris n [] h = λ k d l. absurd (omega arith)
numbered_sound hull tris n (t ∷ ts) h =
    let P = IsSound hull tris in
    let zeroth : n + 0 ≡ n = omega arith in
    let here = subst (λ m. IsAt tris m t) zeroth (h 0 t (record { inside = omega arith; is = refl })) in
    let rest = numbered_sides (suc n) ts in
    All-cons P ((t.a, t.b), Some n) (((t.b, t.c), Some n) ∷ ((t.c, t.a), Some n) ∷ rest) (side_sound hull tris n t.a t.b t.c t here (inl (refl, refl, refl)))
    (All-cons P ((t.b, t.c), Some n) (((t.c, t.a), Some n) ∷ rest) (side_sound hull tris n t.b t.c t.a t here (inr (inl (refl, refl, refl))))
    (All-cons P ((t.c, t.a), Some n) rest (side_sound hull tris n t.c t.a t.b t here (inr (inr (refl, refl, refl))))
    (numbered_sound hull tris (suc n) ts
    (λ k u at_k.
    let next : n + suc k ≡ suc n + k = omega arith in
    subst (λ m. IsAt tris m u) next (h (suc k) u (record { inside = omega (arith, at_k.inside); is = at_k.is }))))))

outer_sound : (hull : List ℕ) (tris : List Tri) → All (IsSound hull tris) (outer_sides (ring_pairs hull))
outer_sound hull tris =
    All-map (IsSound hull tris) (λ p. ((p.1, p.0), None)) (ring_pairs hull)
    (λ k d l.
    let p = get_or (ring_pairs hull) k d in
    record {
      inner = λ t e. absurd (none-some t e);
      outer = λ e. (k, l, get_or_default (ring_pairs hull) k (p.0, p.1) d l);
    })

pub all_sound : (hull : List ℕ) (tris : List Tri) → All (IsSound hull tris) (all_sides hull tris)
all_sound hull tris =
    All-append (IsSound hull tris) (numbered_sides 0 tris) (outer_sides (ring_pairs hull))
    (numbered_sound hull tris 0 tris (λ k t h. let e : k ≡ 0 + k = omega arith in subst (λ m. IsAt tris m t) e h))
    (outer_sound hull tris)

-- the halves of a split are sound, in any order; those that go down are turned round
pub ups_sound : (hull : List ℕ) (tris : List Tri) (ups downs hs : List Half) → AreSplit (all_sides hull tris) ups downs → IsPermutation ups hs
    → All (λ h. IsSound hull tris (half_key h)) hs
ups_sound hull tris ups downs hs split moved =
    let P = IsSound hull tris in
    All-permutation (λ h. P (half_key h)) ups hs moved
    (All-map_back P half_key ups (subst (All P) (sym split.ups_are) (All-filter goes_up P (all_sides hull tris) (all_sound hull tris))))

pub downs_sound : (hull : List ℕ) (tris : List Tri) (ups downs hs : List Half) → AreSplit (all_sides hull tris) ups downs → IsPermutation downs hs
    → All (λ h. IsSound hull tris (turned_side (half_key h))) hs
downs_sound hull tris ups downs hs split moved =
    let P : (ℕ × ℕ) × Option ℕ → Type 0 = λ s. IsSound hull tris (turned_side s) in
    let all = all_sides hull tris in
    All-permutation (λ h. P (half_key h)) downs hs moved
    (All-map_back P half_key downs (subst (All P) (sym split.downs_are) (All-filter goes_up P (map turned_side all) (All-map P turned_side all (all_sound hull tris)))))

length-numbered : (n : ℕ) (ts : List Tri) → length (numbered_sides n ts) ≡ 3 * length ts
length-numbered n [] = refl
length-numbered n (t ∷ ts) = omega (arith, length-numbered (suc n) ts)

-- there are no more ups than sides
pub few_ups : (hull : List ℕ) (tris : List Tri) (ups downs : List Half) → AreSplit (all_sides hull tris) ups downs → length ups ≤ 3 * length tris + length hull
few_ups hull tris ups downs split =
    omega (
      arith,
      length-map ups half_key,
      ap (λ (l : List ((ℕ × ℕ) × Option ℕ)). length l) split.ups_are,
      length-filter-le goes_up (all_sides hull tris),
      length-append (numbered_sides 0 tris) (outer_sides (ring_pairs hull)),
      length-numbered 0 tris,
      length-map {B = (ℕ × ℕ) × Option ℕ} (ring_pairs hull) (λ p. ((p.1, p.0), None)),
      length-ring hull,
    )

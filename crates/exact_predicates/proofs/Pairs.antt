-- Tests on sides and pairs of the hull.
use Rattle.std.proofs.Common.{◌≡◌, ℕ, ◌<◌, ◌≤◌, true, cond, List, length, get_or, sum_by, Decides, arith, ap, ◌∙◌, refl, ⊎_elim, ◌⊎◌, inl, inr}
use Rattle.std.proofs.lemmas.Bool.{both_ways, cases_Bool}
use Rattle.std.proofs.lemmas.Bool.Decides.{Decides-eqb, Decides-and, Decides-not, Decides-ltb, Decides-by_or, Decides-like, same_from_decides}
use Rattle.std.proofs.lemmas.List.Sums.{get_or-le-sum_by}
use Rattle.std.proofs.lemmas.List.Elements.{Decides-contains}
use Rattle.std.specs.List.{list_any}
use Rattle.exact_predicates.specs.declared.tri.Tri.{Tri}
use Rattle.exact_predicates.specs.Hull.{ring_pairs, IsHullPair}
use Rattle.exact_predicates.specs.Triangulation.{sides, is_side, hit, side_count, is_inner, HasCorners}
use Rattle.exact_predicates.proofs.Sides.{sum_by-flat_map, sum_by-sides}

pub is_side_decides : (x y s t : ℕ) → Decides (is_side x y (s, t)) ((s ≡ x) × (t ≡ y))
is_side_decides x y s t = Decides-and _ _ (Decides-eqb s x) (Decides-eqb t y)

pub is_side_turned : (x y s t : ℕ) → is_side x y (s, t) ≡ is_side y x (t, s)
is_side_turned x y s t =
    same_from_decides _ _ (is_side_decides x y s t) (Decides-like _ (λ (e, f). (f, e)) (λ (e, f). (f, e)) (is_side_decides y x t s))

pub is_side_same : (x y : ℕ) → is_side x y (x, y) ≡ true
is_side_same x y = (is_side_decides x y x y).1 (refl, refl)

pub hit_turned : (x y s t : ℕ) → hit x y (s, t) ≡ hit y x (t, s)
unfolding hit
hit_turned x y s t = ap (λ b. cond b 1 0) (is_side_turned x y s t)

pub hit_none : (x y s t : ℕ) → ¬ ((s ≡ x) × (t ≡ y)) → hit x y (s, t) ≡ 0
unfolding hit
hit_none x y s t away = ⊎_elim (λ yes. absurd (away ((is_side_decides x y s t).0 yes))) (λ no. ap (λ b. cond b 1 0) no) (cases_Bool (is_side x y (s, t)))

pub hit_same : (x y : ℕ) → hit x y (x, y) ≡ 1
unfolding hit
hit_same x y = ap (λ b. cond b 1 0) (is_side_same x y)

pub is_pair_decides : (hull : List ℕ) (x y : ℕ) → Decides (list_any (is_side x y) (ring_pairs hull)) (IsHullPair hull x y)
is_pair_decides hull x y =
    let same : (s : ℕ × ℕ) → Decides (is_side x y s) (s ≡ (x, y)) = λ s. Decides-like _ (λ (e, f). ap (λ z. (z, s.1)) e ∙ ap (λ z. (x, z)) f) (λ e. (ap (λ (p : ℕ × ℕ). p.0) e, ap (λ (p : ℕ × ℕ). p.1) e)) (is_side_decides x y s.0 s.1) in
    Decides-contains (ring_pairs hull) (x, y) _ (Decides-by_or (is_side x y) (λ s. s ≡ (x, y)) (list_any (is_side x y)) same refl (λ _ _. refl) (ring_pairs hull))

pub pair_or_not : (hull : List ℕ) (x y : ℕ) → IsHullPair hull x y ⊎ (¬ IsHullPair hull x y)
pair_or_not hull x y =
    let d = is_pair_decides hull x y in
    ⊎_elim (λ t. inl (d.0 t)) (λ f. inr (λ p. both_ways _ f (d.1 p))) (cases_Bool (list_any (is_side x y) (ring_pairs hull)))

pub is_inner_decides : (hull : List ℕ) (x y : ℕ) → Decides (is_inner hull (x, y)) ((x < y) × (¬ IsHullPair hull x y))
is_inner_decides hull x y = Decides-and _ _ (Decides-ltb x y) (Decides-not _ (is_pair_decides hull x y))

-- a triangle's sides are counted
pub side_of_member : (tris : List Tri) (i : ℕ) (t : Tri) (u v w : ℕ) → i < length tris → get_or tris i t ≡ t → HasCorners t u v w → 1 ≤ side_count tris u v
side_of_member tris i t u v w i_in at_i h =
    let g : Tri → ℕ = λ t. sum_by (hit u v) (sides t) in
    omega (arith, get_or-le-sum_by g tris i t i_in, ap g at_i, sum_by-sides (hit u v) t u v w h, hit_same u v, sum_by-flat_map (hit u v) sides tris)

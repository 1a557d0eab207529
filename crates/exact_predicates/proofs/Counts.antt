-- How often a side occurs in a list of triangles.
use Rattle.std.proofs.Common.{◌≡◌, ℕ, ◌+◌, ◌≤◌, List, [], ◌∷◌, ◌++◌, sum_by, arith, ap, sym, ◌∙◌, refl, ⊎_elim, inl, inr}
use Rattle.std.proofs.lemmas.Bool.{cases_lt, cases_eq}
use Rattle.std.proofs.lemmas.List.Sorted.{sum_by-IsPermutation}
use Rattle.std.proofs.lemmas.List.Sums.{sum_by_push, sum_by-append}
use Rattle.std.specs.List.Sorted.{IsPermutation}
use Rattle.exact_predicates.specs.declared.tri.Tri.{Tri}
use Rattle.exact_predicates.specs.Triangulation.{IsCorner, sides, hit, side_count}
use Rattle.exact_predicates.proofs.Pairs.{hit_none}
use Rattle.exact_predicates.proofs.Sides.{sum_by-flat_map, sum_by-sides}

-- a side that is u to v has these ends
pub hit-some : (u v s t : ℕ) → 1 ≤ hit u v (s, t) → (s ≡ u) × (t ≡ v)
hit-some u v s t l =
    ⊎_elim
    (λ e. ⊎_elim (λ f. (e, f)) (λ f. absurd (omega (arith, hit_none u v s t (λ x. f x.1)))) (cases_eq t v))
    (λ e. absurd (omega (arith, hit_none u v s t (λ x. e x.0))))
    (cases_eq s u)

-- both ends of a side are corners
pub corners_of_side : (u v : ℕ) (t : Tri) → 1 ≤ sum_by (hit u v) (sides t) → IsCorner t u × IsCorner t v
corners_of_side u v t l =
    let sum = sum_by-sides (hit u v) t t.a t.b t.c (inl (refl, refl, refl)) in
    ⊎_elim
    (λ no_ab. ⊎_elim
    (λ no_bc. let e = hit-some u v t.c t.a (omega arith) in (inr (inr (sym e.0)), inl (sym e.1)))
    (λ bc. let e = hit-some u v t.b t.c bc in (inr (inl (sym e.0)), inr (inr (sym e.1))))
    (cases_lt (hit u v (t.b, t.c)) 1))
    (λ ab. let e = hit-some u v t.a t.b ab in (inl (sym e.0), inr (inl (sym e.1))))
    (cases_lt (hit u v (t.a, t.b)) 1)

-- two lists of triangles end to end
pub side_count-append : (ts us : List Tri) (u v : ℕ) → side_count (ts ++ us) u v ≡ side_count ts u v + side_count us u v
side_count-append ts us u v =
    omega (
      arith,
      sum_by-flat_map (hit u v) sides (ts ++ us),
      sum_by-append (λ t. sum_by (hit u v) (sides t)) ts us,
      sum_by-flat_map (hit u v) sides ts,
      sum_by-flat_map (hit u v) sides us,
    )

-- one more triangle
pub side_count-push : (ts : List Tri) (t : Tri) (u v : ℕ) → side_count (ts ++ t ∷ []) u v ≡ side_count ts u v + sum_by (hit u v) (sides t)
side_count-push ts t u v =
    sum_by-flat_map (hit u v) sides (ts ++ t ∷ []) ∙ (sum_by_push (λ x. sum_by (hit u v) (sides x)) ts t ∙ ap (λ n. n + sum_by (hit u v) (sides t)) (sym (sum_by-flat_map (hit u v) sides ts)))

-- the order of the triangles is free
pub side_count-permutation : (ts us : List Tri) (u v : ℕ) → IsPermutation ts us → side_count us u v ≡ side_count ts u v
side_count-permutation ts us u v p =
    sum_by-flat_map (hit u v) sides us ∙ (sum_by-IsPermutation (λ x. sum_by (hit u v) (sides x)) ts us p ∙ sym (sum_by-flat_map (hit u v) sides ts))

-- How often a pair of the hull occurs.
use Rattle.std.proofs.Common.{◌≡◌, ◌≢◌, ℕ, ◌<◌, ◌≤◌, cond, nat_eq, List, [], ◌∷◌, ◌++◌, length, get_or, sum_by, zip, AllPairs, arith, ap, sym, ◌∙◌, subst, ⊎_elim}
use Rattle.std.proofs.lemmas.Bool.{cases_Bool, cases_eq, cases_lt}
use Rattle.std.proofs.lemmas.Bool.Decides.{Decides-eqb}
use Rattle.std.proofs.lemmas.List.{get_or_default}
use Rattle.std.proofs.lemmas.List.Sums.{get_or-le-sum_by, sum_by-cons}
use Rattle.exact_predicates.specs.Hull.{IsHullPair, ring_pairs}
use Rattle.exact_predicates.specs.Triangulation.{hit}
use Rattle.exact_predicates.proofs.Counts.{hit-some}
use Rattle.exact_predicates.proofs.Elements.{sum_by-none, sum_by-some}
use Rattle.exact_predicates.proofs.ListFacts.{AllPairs-head, AllPairs-tail}
use Rattle.exact_predicates.proofs.Pairs.{hit_none, hit_same}

-- 1 where z is u, else 0
abbrev is_it : ℕ → ℕ → ℕ
is_it u z = cond (nat_eq z u) 1 0

is_it_none : (u z : ℕ) → z ≢ u → is_it u z ≡ 0
is_it_none u z ne =
    ⊎_elim (λ e. absurd (ne ((Decides-eqb z u).0 e))) (λ e. ap (λ b. cond {A = ℕ} b 1 0) e) (cases_Bool (nat_eq z u))

is_it_same : (u z : ℕ) → z ≡ u → is_it u z ≡ 1
is_it_same u z e = ap (λ b. cond {A = ℕ} b 1 0) ((Decides-eqb z u).1 e)

-- of distinct numbers one at most is u
once : (u : ℕ) (xs : List ℕ) → AllPairs (λ x y. x ≢ y) xs → sum_by (is_it u) xs ≤ 1
once u [] h = omega arith
once u (x ∷ xs) h =
    ⊎_elim
    (λ e. omega (
      arith,
      sum_by-cons (is_it u) x xs,
      is_it_same u x e,
      sum_by-none (is_it u) xs (λ k d l. is_it_none u _ (λ f. AllPairs-head (λ a b. a ≢ b) x xs h k d l (e ∙ sym f))),
    ))
    (λ ne. omega (arith, sum_by-cons (is_it u) x xs, is_it_none u x ne, once u xs (AllPairs-tail (λ a b. a ≢ b) x xs h)))
    (cases_eq x u)

hit_by_first : (u v x y : ℕ) → hit u v (x, y) ≤ is_it u x
hit_by_first u v x y =
    ⊎_elim
    (λ e. ⊎_elim
    (λ f. let one : hit u v (x, y) ≡ 1 = subst (λ n. hit u v (n, y) ≡ 1) (sym e) (subst (λ n. hit u v (u, n) ≡ 1) (sym f) (hit_same u v)) in omega (arith, is_it_same u x e))
    (λ ne. omega (arith, hit_none u v x y (λ k. ne k.1)))
    (cases_eq y v))
    (λ ne. omega (arith, hit_none u v x y (λ k. ne k.0)))
    (cases_eq x u)

-- pairs with distinct first ends
zip_once : (u v : ℕ) (xs ys : List ℕ) → sum_by (hit u v) (zip xs ys) ≤ sum_by (is_it u) xs
zip_once u v [] ys = omega arith
zip_once u v (x ∷ xs) [] = omega arith
zip_once u v (x ∷ xs) (y ∷ ys) =
    omega (arith, sum_by-cons (hit u v) (x, y) (zip xs ys), sum_by-cons (is_it u) x xs, hit_by_first u v x y, zip_once u v xs ys)

ring_once : (hull : List ℕ) (u v : ℕ) → AllPairs (λ x y. x ≢ y) hull → sum_by (hit u v) (ring_pairs hull) ≤ 1
ring_once [] u v h = omega arith
ring_once (x ∷ xs) u v h = omega (arith, zip_once u v (x ∷ xs) (xs ++ x ∷ []), once u (x ∷ xs) h)

-- a pair of the hull is there once
pub pair_once : (hull : List ℕ) (u v : ℕ) → AllPairs (λ x y. x ≢ y) hull → IsHullPair hull u v → sum_by (hit u v) (ring_pairs hull) ≡ 1
pair_once hull u v h (k, k_in, at_k) =
    omega (arith, ring_once hull u v h, get_or-le-sum_by (hit u v) (ring_pairs hull) k (u, v) k_in, ap (hit u v) at_k, hit_same u v)

-- and what is no pair is not there
pub pair_none : (hull : List ℕ) (u v : ℕ) → ¬ IsHullPair hull u v → sum_by (hit u v) (ring_pairs hull) ≡ 0
pair_none hull u v away =
    ⊎_elim
    (λ l. omega arith)
    (λ l.
    let (k, p, k_in, at_k, some) = sum_by-some (hit u v) (ring_pairs hull) l in
    let e = hit-some u v p.0 p.1 some in
    absurd (away (k, k_in, get_or-pair (ring_pairs hull) k p u v k_in at_k e.0 e.1)))
    (cases_lt (sum_by (hit u v) (ring_pairs hull)) 1)
  where
    get_or-pair : (ps : List (ℕ × ℕ)) (k : ℕ) (p : ℕ × ℕ) (u v : ℕ) → k < length ps → get_or ps k p ≡ p → p.0 ≡ u → p.1 ≡ v → get_or ps k (u, v) ≡ (u, v)
    get_or-pair ps k p u v l at_k e f = get_or_default ps k (u, v) p l ∙ (at_k ∙ (ap (λ n. (n, p.1)) e ∙ ap (λ n. (u, n)) f))

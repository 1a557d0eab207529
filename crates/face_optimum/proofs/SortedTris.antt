-- Triangles in ascending order are known by how often each of them is there.
use Rattle.std.proofs.Common.{◌≡◌, ◌⊎◌, ℕ, suc, ◌+◌, ◌≤◌, Bool, true, false, cond, ◌==◌, List, [], ◌∷◌, slice_index_or, Contains, sum_by, arith, refl, ap, sym, ◌∙◌, subst, ⊎_elim, inl, inr}
use Rattle.std.specs.List.Sorted.{IsPermutation, IsSorted}
use Rattle.std.specs.Ordering.{is_lt}
use Rattle.std.proofs.lemmas.Bool.{cases_eq, cases_order, cond-true, eq-eqb, eqb-true, false≢true}
use Rattle.std.proofs.lemmas.List.Sorted.{sum_by-IsPermutation}
use Rattle.std.proofs.lemmas.List.Sums.{sum_by-cons}
use Rattle.exact_predicates.specs.declared.tri.Tri.{Tri}
use Rattle.exact_predicates.specs.Candidates.{TriPrecedes}
use Rattle.exact_predicates.specs.Triangulation.{tri_cmp}
use Rattle.exact_predicates.proofs.Elements.{sum_by-some}
use Rattle.exact_predicates.proofs.Equalities.{Tri-equal}
use Rattle.exact_predicates.proofs.ListOrder.{tri_cmp-less}
use Rattle.lmt_network.proofs.Picked.{Contains-cases, Contains-nil}
use Rattle.std.proofs.lemmas.List.{get_or_default}

-- of two triangles one precedes the other, or they are the same
tri_cases : (s t : Tri) → TriPrecedes s t ⊎ ((s ≡ t) ⊎ TriPrecedes t s)
tri_cases s t =
    ⊎_elim
    (λ a. ⊎_elim
    (λ b. ⊎_elim
    (λ c. inr (inl (Tri-equal s t a b c)))
    (λ o. ⊎_elim (λ l. inl (inr (inr (a, b, l)))) (λ l. inr (inr (inr (inr (sym a, sym b, l))))) o)
    (cases_order s.c t.c))
    (λ o. ⊎_elim (λ l. inl (inr (inl (a, l)))) (λ l. inr (inr (inr (inl (sym a, l))))) o)
    (cases_order s.b t.b))
    (λ o. ⊎_elim (λ l. inl (inl l)) (λ l. inr (inr (inl l))) o)
    (cases_order s.a t.a)

precedes_then : (s t u : Tri) → TriPrecedes s t → TriPrecedes t u → TriPrecedes s u
precedes_then s t u h k =
    ⊎_elim
    (λ a. ⊎_elim (λ b. inl (omega arith)) (λ m. ⊎_elim (λ b. let e = b.0 in inl (omega arith)) (λ b. let e = b.0 in inl (omega arith)) m) k)
    (λ n. ⊎_elim
    (λ a. let e = a.0 in let l = a.1 in ⊎_elim
    (λ b. inl (omega arith))
    (λ m. ⊎_elim (λ b. let f = b.1 in inr (inl (e ∙ b.0, omega arith))) (λ b. let f = b.1 in inr (inl (e ∙ b.0, omega arith))) m)
    k)
    (λ a. let e = a.0 in let d = a.1 in let l = a.2 in ⊎_elim
    (λ b. inl (omega arith))
    (λ m. ⊎_elim (λ b. let f = b.1 in inr (inl (e ∙ b.0, omega arith))) (λ b. let f = b.2 in inr (inr (e ∙ b.0, d ∙ b.1, omega arith))) m)
    k)
    n)
    h

not_itself : (t : Tri) → ¬ TriPrecedes t t
not_itself t h = ⊎_elim (λ l. absurd (omega arith)) (λ n. ⊎_elim (λ k. let l = k.1 in absurd (omega arith)) (λ k. let l = k.2 in absurd (omega arith)) n) h

-- t does not precede s
abbrev Follows : Tri → Tri → Type 0
Follows s t = ¬ TriPrecedes t s

follows_then : (s t u : Tri) → Follows s t → Follows t u → Follows s u
follows_then s t u h k before =
    ⊎_elim
    (λ (l : TriPrecedes t u). h (precedes_then t u s l before))
    (λ m. ⊎_elim
    (λ (e : t ≡ u). h (subst (λ (x : Tri). TriPrecedes x s) (sym e) before))
    (λ (l : TriPrecedes u t). k l)
    m)
    (tri_cases t u)

both_follow : (s t : Tri) → Follows s t → Follows t s → s ≡ t
both_follow s t h k =
    ⊎_elim (λ (l : TriPrecedes s t). absurd (k l)) (λ m. ⊎_elim (λ (e : s ≡ t). e) (λ (l : TriPrecedes t s). absurd (h l)) m) (tri_cases s t)

follows_at : (s t : Tri) → is_lt (tri_cmp t s) ≡ false → Follows s t
follows_at s t h before = false≢true (sym h ∙ ap is_lt ((tri_cmp-less t s).1 before))

sorted_tail : (x : Tri) (xs : List Tri) → IsSorted tri_cmp (x ∷ xs) → IsSorted tri_cmp xs
sorted_tail x xs h k d low high =
    let same : suc k + 1 ≡ suc (k + 1) = omega arith in
    subst (λ (j : ℕ). is_lt (tri_cmp (slice_index_or (x ∷ xs) j d) (slice_index_or xs k d)) ≡ false) same (h (suc k) d (omega arith) (omega arith))

-- the first one precedes none
first_least : (x : Tri) (xs : List Tri) → IsSorted tri_cmp (x ∷ xs) → (y : Tri) → Contains xs y → Follows x y
first_least x [] h y has = absurd (Contains-nil y has)
first_least x (z ∷ zs) h y has =
    let next : Follows x z = follows_at x z (h 0 x (omega arith) (omega arith)) in
    ⊎_elim
    (λ (is : z ≡ y). subst (λ (w : Tri). Follows x w) is next)
    (λ later. follows_then x z y next (first_least z zs (sorted_tail x (z ∷ zs) h) y later))
    (Contains-cases z y zs has)

-- 1 where s is t, and else 0
abbrev one_if : Tri → Tri → ℕ
one_if t s = cond (s.a == t.a) (cond (s.b == t.b) (cond (s.c == t.c) 1 0) 0) 0

one_own : (t : Tri) → one_if t t ≡ 1
one_own t =
    cond-true (t.a == t.a) _ _ (eq-eqb t.a t.a refl)
    ∙ (cond-true (t.b == t.b) _ _ (eq-eqb t.b t.b refl) ∙ cond-true (t.c == t.c) _ _ (eq-eqb t.c t.c refl))

part_same : (x y n : ℕ) → 1 ≤ cond (x == y) n 0 → (x ≡ y) × (1 ≤ n)
part_same x y n h =
    ⊎_elim
    (λ e. (e, subst (λ (m : ℕ). 1 ≤ m) (cond-true (x == y) n 0 (eq-eqb x y e)) h))
    (λ ne. absurd (no_part (x == y) refl ne h))
    (cases_eq x y)
  where
    no_part : (b : Bool) → (x == y) ≡ b → ¬ (x ≡ y) → 1 ≤ cond b n 0 → ⊥
    no_part true e ne l = ne (eqb-true x y e)
    no_part false e ne l = absurd (omega arith)

one_only : (t s : Tri) → 1 ≤ one_if t s → s ≡ t
one_only t s h =
    let (a, rest) = part_same s.a t.a _ h in
    let (b, last) = part_same s.b t.b _ rest in
    let (c, end) = part_same s.c t.c _ last in
    Tri-equal s t a b c

counted_in : (t : Tri) (xs : List Tri) → 1 ≤ sum_by (one_if t) xs → Contains xs t
counted_in t xs h =
    let (k, s, k_in, at_k, more) = sum_by-some (one_if t) xs h in
    (k, k_in, get_or_default xs k t s k_in ∙ (at_k ∙ one_only t s more))

same_counts : (xs ys : List Tri) → IsSorted tri_cmp xs → IsSorted tri_cmp ys → ((t : Tri) → sum_by (one_if t) xs ≡ sum_by (one_if t) ys) → xs ≡ ys
same_counts [] [] h k same = refl
same_counts [] (y ∷ ys) h k same = let none : 0 ≡ sum_by (one_if y) (y ∷ ys) = same y in absurd (omega (arith, none, sum_by-cons (one_if y) y ys, one_own y))
same_counts (x ∷ xs) [] h k same = let none : sum_by (one_if x) (x ∷ xs) ≡ 0 = same x in absurd (omega (arith, none, sum_by-cons (one_if x) x xs, one_own x))
same_counts (x ∷ xs) (y ∷ ys) h k same =
    let there : Contains (y ∷ ys) x = counted_in x (y ∷ ys) (omega (arith, same x, sum_by-cons (one_if x) x xs, one_own x)) in
    let back : Contains (x ∷ xs) y = counted_in y (x ∷ xs) (omega (arith, same y, sum_by-cons (one_if y) y ys, one_own y)) in
    let first : x ≡ y =
    ⊎_elim
    (λ (e : y ≡ x). sym e)
    (λ later. ⊎_elim
    (λ (e : x ≡ y). e)
    (λ later_y. both_follow x y (first_least x xs h y later_y) (first_least y ys k x later))
    (Contains-cases x y xs back))
    (Contains-cases y x ys there) in
    let rest : (t : Tri) → sum_by (one_if t) xs ≡ sum_by (one_if t) ys
    = λ t. omega (arith, same t, sum_by-cons (one_if t) x xs, sum_by-cons (one_if t) y ys, ap (one_if t) first) in
    ap (λ z. z ∷ xs) first ∙ ap (λ (zs : List Tri). y ∷ zs) (same_counts xs ys (sorted_tail x xs h) (sorted_tail y ys k) rest)

-- so a list has one order that ascends
pub sorted_once : (ts xs ys : List Tri) → IsPermutation ts xs → IsPermutation ts ys → IsSorted tri_cmp xs → IsSorted tri_cmp ys → xs ≡ ys
sorted_once ts xs ys p q h k =
    same_counts xs ys h k (λ t. sum_by-IsPermutation (one_if t) ts xs p ∙ sym (sum_by-IsPermutation (one_if t) ts ys q))

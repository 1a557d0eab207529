-- How often a directed side is among the pairs of a chain.
use Rattle.std.proofs.Common.{◌≡◌, ◌≢◌, ℕ, zero, suc, ◌+◌, ◌<◌, ◌≤◌, List, length, slice_index, arith, ap, sym, ◌∙◌, refl, subst, ⊎_elim}
use Rattle.std.proofs.lemmas.Bool.{cases_eq}
use Rattle.exact_predicates.specs.declared.point.Point.{Point}
use Rattle.exact_predicates.specs.Triangulation.{hit}
use Rattle.exact_predicates.proofs.Pairs.{hit_none, hit_same}
use Rattle.hull_sweep.specs.declared.chain.Chain.{Chain}
use Rattle.hull_sweep.specs.declared.chain.Chain.TheVariants.{Lower, Upper}
use Rattle.hull_sweep.specs.Chain.{IsChain}
use Rattle.hull_sweep.specs.Join.{along, pair_count}
use Rattle.hull_sweep.proofs.Chains.{one_place}
use Rattle.hull_sweep.proofs.Tops.{topped, kept_at, top_at, length-topped}

-- one more place is one more pair
pub pair_count-more : (s : Chain) (f : ℕ → ℕ) (u v k kept less : ℕ) → k + 2 ≡ kept → k + 1 ≡ less
    → pair_count s f kept u v ≡ pair_count s f less u v + hit u v (along s (f k) (f (k + 1)))
pair_count-more s f u v k kept less e d =
    let e' : suc (suc k) ≡ kept = omega arith in
    let d' : suc k ≡ less = omega arith in
    let g : suc k ≡ k + 1 = omega arith in
    subst (λ x. pair_count s f x u v ≡ pair_count s f less u v + hit u v (along s (f k) (f (k + 1)))) e'
    (subst (λ x. pair_count s f (suc (suc k)) u v ≡ pair_count s f x u v + hit u v (along s (f k) (f (k + 1)))) d'
    (subst (λ x. pair_count s f (suc (suc k)) u v ≡ pair_count s f (suc k) u v + hit u v (along s (f k) (f x))) g refl))

-- chains that agree have the same pairs
pair_count-same : (s : Chain) (f g : ℕ → ℕ) (u v k : ℕ) → ((i : ℕ) → i < k → f i ≡ g i) → pair_count s f k u v ≡ pair_count s g k u v
pair_count-same s f g u v zero h = refl
pair_count-same s f g u v (suc zero) h = refl
pair_count-same s f g u v (suc (suc k)) h =
    rw (pair_count-same s f g u v (suc k) (λ i l. h i (omega arith)), h k (omega arith), h (suc k) (omega arith)) refl

-- a new point on top of k places makes a pair with the last of them
pub pair_count-topped : (s : Chain) (c : List ℕ) (k i q u v : ℕ) → k ≤ length c → i + 1 ≡ k
    → pair_count s (slice_index (topped c k q)) (length (topped c k q)) u v ≡ pair_count s (slice_index c) k u v + hit u v (along s (slice_index c i) q)
pair_count-topped s c k i q u v h e =
    let g = slice_index (topped c k q) in
    let more = pair_count-more s g u v i (length (topped c k q)) k (omega (arith, length-topped c k q h)) e in
    let top : g (i + 1) ≡ q = top_at c k (i + 1) q h e in
    let below : g i ≡ slice_index c i = kept_at c k i q h (omega arith) in
    more ∙ (ap (λ x. x + hit u v (along s (g i) (g (i + 1)))) (pair_count-same s g (slice_index c) u v k (λ j l. kept_at c k j q h l)) ∙ rw (top, below) refl)

-- a side that is no pair does not occur
pub pair_count-none : (s : Chain) (f : ℕ → ℕ) (u v count : ℕ) → ((i : ℕ) → i + 1 < count → hit u v (along s (f i) (f (i + 1))) ≡ 0) → pair_count s f count u v ≡ 0
pair_count-none s f u v zero h = refl
pair_count-none s f u v (suc zero) h = refl
pair_count-none s f u v (suc (suc k)) h =
    let e : k + 1 ≡ suc k = omega arith in
    let last : hit u v (along s (f k) (f (suc k))) ≡ 0 = subst (λ x. hit u v (along s (f k) (f x)) ≡ 0) e (h k (omega arith)) in
    omega (arith, pair_count-none s f u v (suc k) (λ i l. h i (omega arith)), last)

-- a side that is the pair at one place occurs once
pair_count-one : (s : Chain) (f : ℕ → ℕ) (u v count i : ℕ) → i + 1 < count → hit u v (along s (f i) (f (i + 1))) ≡ 1
    → ((j : ℕ) → j + 1 < count → j ≢ i → hit u v (along s (f j) (f (j + 1))) ≡ 0) → pair_count s f count u v ≡ 1
pair_count-one s f u v zero i l e h = absurd (omega arith)
pair_count-one s f u v (suc zero) i l e h = absurd (omega arith)
pair_count-one s f u v (suc (suc k)) i l e h =
    let g : k + 1 ≡ suc k = omega arith in
    ⊎_elim
    (λ same.
    let last : hit u v (along s (f k) (f (suc k))) ≡ 1 = subst (λ x. hit u v (along s (f k) (f x)) ≡ 1) g (subst (λ x. hit u v (along s (f x) (f (x + 1))) ≡ 1) same e) in
    let rest : pair_count s f (suc k) u v ≡ 0 = pair_count-none s f u v (suc k) (λ j m. h j (omega arith) (omega arith)) in
    omega arith)
    (λ other.
    let last : hit u v (along s (f k) (f (suc k))) ≡ 0 = subst (λ x. hit u v (along s (f k) (f x)) ≡ 0) g (h k (omega arith) (λ q. other (sym q))) in
    let rest : pair_count s f (suc k) u v ≡ 1 = pair_count-one s f u v (suc k) i (lower_place k i l other) e (λ j m. h j (omega arith)) in
    omega arith)
    (cases_eq i k)
  where
    lower_place : (k i : ℕ) → i + 1 < suc (suc k) → ¬ (i ≡ k) → i + 1 < suc k
    lower_place k i l n = omega (arith, n)

-- the pairs of a lower chain go up
pub falling_low : {P : ℕ → Point} {q count : ℕ} {f : ℕ → ℕ} → IsChain Lower P q count f → (u v : ℕ) → v ≤ u → pair_count Lower f count u v ≡ 0
falling_low {count = count} {f = f} c u v l =
    pair_count-none Lower f u v count (λ i i_in. hit_none u v (f i) (f (i + 1)) (λ e. absurd (omega (arith, c.rising i i_in, e.0, e.1))))

-- those of an upper chain down
pub rising_high : {P : ℕ → Point} {q count : ℕ} {f : ℕ → ℕ} → IsChain Upper P q count f → (u v : ℕ) → u ≤ v → pair_count Upper f count u v ≡ 0
rising_high {count = count} {f = f} c u v l =
    pair_count-none Upper f u v count (λ i i_in. hit_none u v (f (i + 1)) (f i) (λ e. absurd (omega (arith, c.rising i i_in, e.0, e.1))))

-- each pair of a chain occurs once
pub once_low : {P : ℕ → Point} {q count : ℕ} {f : ℕ → ℕ} → IsChain Lower P q count f → (i : ℕ) → i + 1 < count → pair_count Lower f count (f i) (f (i + 1)) ≡ 1
once_low {count = count} {f = f} c i i_in =
    pair_count-one Lower f _ _ count i i_in (hit_same (f i) (f (i + 1)))
    (λ j j_in other. hit_none (f i) (f (i + 1)) (f j) (f (j + 1)) (λ e. other (one_place c i j (omega arith) (omega arith) e.0)))

-- on the upper side turned round
pub once_high : {P : ℕ → Point} {q count : ℕ} {f : ℕ → ℕ} → IsChain Upper P q count f → (i : ℕ) → i + 1 < count → pair_count Upper f count (f (i + 1)) (f i) ≡ 1
once_high {count = count} {f = f} c i i_in =
    pair_count-one Upper f _ _ count i i_in (hit_same (f (i + 1)) (f i))
    (λ j j_in other. hit_none (f (i + 1)) (f i) (f (j + 1)) (f j) (λ e. other (one_place c i j (omega arith) (omega arith) e.1)))

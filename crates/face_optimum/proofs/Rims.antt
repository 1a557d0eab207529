-- The cycle that is left out, and how it goes round the hull.
use Rattle.std.proofs.Common.{◌≡◌, ◌≢◌, ℕ, ◌+◌, ◌<◌, ◌≤◌, Bool, true, cond, List, [], ◌∷◌, ◌++◌, Option, None, Some, length, get_or, slice_index, filter, map, sum_by, take, drop, AllPairs, Contains, ap, sym, ◌∙◌, subst, refl, ⊎_elim, inl, inr, arith, below_more}
use Rattle.std.specs.Option.{IfSome, is_some}
use Rattle.std.proofs.lemmas.Bool.{cases_lt, false≢true}
use Rattle.std.proofs.lemmas.List.{get_or_default, length-append, length-map, take-append-drop}
use Rattle.std.proofs.lemmas.List.Elements.{All-cons, Contains-get_or, filter-append, filter_more}
use Rattle.std.proofs.lemmas.List.Kept.{AllPairs-cons}
use Rattle.std.proofs.lemmas.List.Sums.{get_or-le-sum_by, sum_by-cons}
use Rattle.exact_predicates.specs.Hull.{IsHullPair, ring_pairs}
use Rattle.exact_predicates.specs.Triangulation.{hit}
use Rattle.exact_predicates.proofs.Counts.{hit-some}
use Rattle.exact_predicates.proofs.Elements.{sum_by-none, sum_by-some}
use Rattle.exact_predicates.proofs.Few.{length-le_from_distinct}
use Rattle.exact_predicates.proofs.ListFacts.{AllPairs-head, AllPairs-tail}
use Rattle.exact_predicates.proofs.Pairs.{hit_none, hit_same, pair_or_not}
use Rattle.exact_predicates.proofs.Rings.{length-ring, pair_at, pair_of_place, place_of_pair}
use Rattle.lmt_network.proofs.Entries.{contains_map}
use Rattle.face_optimum.specs.Decomposition.{IsRim, is_outer}
use Rattle.face_optimum.specs.Places.{next_point}
use Rattle.face_optimum.specs.Rims.{GoesBack, IsAlone, IsPlaceBefore}
use Rattle.face_optimum.proofs.RingPlaces.{next_is, next_only}

-- the cycles that are found, one at most
abbrev pub found_in : List (List ℕ) → Option ℕ → List (List ℕ)
found_in cycles None = []
found_in cycles (Some i) = get_or cycles i [] ∷ []

-- after the first k cycles
pub record IsFoundSoFar (hull : List ℕ) (cycles : List (List ℕ)) (k : ℕ) (found : Option ℕ) : Type 0 where
  pub within : IfSome found (λ i. i < length cycles)
  pub all : filter (is_outer hull) (take k cycles) ≡ found_in cycles found

pub found_two : (hull : List ℕ) (cycles : List (List ℕ)) (k i : ℕ) → k < length cycles → is_outer hull (get_or cycles k []) ≡ true
    → IsFoundSoFar hull cycles k (Some i) → IsAlone hull cycles None
found_two hull cycles k i k_in one_more so_far = λ c alone.
    let front : filter (is_outer hull) (take (k + 1) cycles) ≡ (get_or cycles i [] ∷ []) ++ get_or cycles k [] ∷ [] =
    filter_more (is_outer hull) cycles k [] k_in
    ∙ (ap (λ (b : Bool). filter (is_outer hull) (take k cycles) ++ cond b (get_or cycles k [] ∷ []) []) one_more
    ∙ ap (λ (xs : List (List ℕ)). xs ++ get_or cycles k [] ∷ []) so_far.all) in
    let whole = sym (filter-append (is_outer hull) (take (k + 1) cycles) (drop (k + 1) cycles)) ∙ ap (filter (is_outer hull)) (take-append-drop (k + 1) cycles) in
    omega (arith, ap length whole, ap length front, ap length alone, length-append (filter (is_outer hull) (take (k + 1) cycles)) (filter (is_outer hull) (drop (k + 1) cycles)))

pub found_another : (hull : List ℕ) (cycles : List (List ℕ)) (k : ℕ) (found : Option ℕ) → k < length cycles → is_outer hull (get_or cycles k []) ≡ true → is_some found ≡ true
    → IsFoundSoFar hull cycles k found → IsAlone hull cycles None
found_another hull cycles k None k_in one_more some so_far = absurd (false≢true some)
found_another hull cycles k (Some i) k_in one_more some so_far = found_two hull cycles k i k_in one_more so_far

-- places of distinct numbers
places_distinct : (xs : List ℕ) (a b : ℕ) → AllPairs (λ x y. x ≢ y) xs → a < length xs → b < length xs → slice_index xs a ≡ slice_index xs b → a ≡ b
places_distinct xs a b distinct a_in b_in same =
    ⊎_elim
    (λ l. absurd (distinct a b 0 l b_in same))
    (λ l. ⊎_elim (λ g. absurd (distinct b a 0 g a_in (sym same))) (λ g. omega arith) (cases_lt b a))
    (cases_lt a b)

-- the pair of the hull that ends at a place
pub pair_before : (hull : List ℕ) (k m : ℕ) → k < length hull → IsPlaceBefore hull k m → IsHullPair hull (slice_index hull m) (slice_index hull k)
pair_before hull k m k_in before =
    pair_of_place hull (slice_index hull m) (slice_index hull k) m before.0 refl
    (⊎_elim
    (λ (e : m + 1 ≡ k). inl (omega arith, ap (slice_index hull) e))
    (λ e. inr (e.1, ap (slice_index hull) (sym e.0)))
    before.1)

pub before_only : (hull : List ℕ) (u k m : ℕ) → AllPairs (λ x y. x ≢ y) hull → k < length hull → IsPlaceBefore hull k m → IsHullPair hull u (slice_index hull k) → u ≡ slice_index hull m
before_only hull u k m distinct k_in before pair =
    let (j, j_in, at_j, next) = place_of_pair hull u (slice_index hull k) pair in
    let j_is : j ≡ m = ⊎_elim
    (λ a. let e = places_distinct hull (j + 1) k distinct a.0 k_in a.1 in ⊎_elim (λ (b : m + 1 ≡ k). omega arith) (λ (b : (k ≡ 0) × (m + 1 ≡ length hull)). absurd (omega (arith, e, b.0))) before.1)
    (λ a. let e = places_distinct hull 0 k distinct (omega arith) k_in a.1 in ⊎_elim (λ (b : m + 1 ≡ k). absurd (omega (arith, e, b))) (λ (b : (k ≡ 0) × (m + 1 ≡ length hull)). omega (arith, a.0, b.1)) before.1)
    next in
    sym at_j ∙ ap (slice_index hull) j_is

-- a pair of the hull ends at a place of it
pub end_of_pair : (hull : List ℕ) (u v : ℕ) → IsHullPair hull u v → (k : ℕ) × (k < length hull) × (slice_index hull k ≡ v)
end_of_pair hull u v pair =
    let (j, j_in, at_j, next) = place_of_pair hull u v pair in
    ⊎_elim (λ a. (j + 1, a.0, a.1)) (λ a. (0, omega arith, a.1)) next

-- a side of a cycle, and all sides
pub side_at_place : (cycle : List ℕ) (k : ℕ) → k < length cycle → Contains (ring_pairs cycle) (slice_index cycle k, next_point cycle k)
side_at_place cycle k k_in = pair_of_place cycle (slice_index cycle k) (next_point cycle k) k k_in refl (next_is cycle k k_in)

pub goes_back_from : (hull cycle : List ℕ) → ((k : ℕ) → k < length cycle → IsHullPair hull (next_point cycle k) (slice_index cycle k)) → GoesBack hull cycle
goes_back_from hull cycle each = λ u v has.
    let (k, k_in, at_k, next) = place_of_pair cycle v u has in
    subst (λ (x : ℕ). IsHullPair hull x v) (next_only cycle k u next)
    (subst (λ (x : ℕ). IsHullPair hull (next_point cycle k) x) at_k (each k k_in))

-- distinct pairs, of which one is u to v, have it once
once_hit : (u v : ℕ) (xs : List (ℕ × ℕ)) → AllPairs (λ s t. s ≢ t) xs → sum_by (hit u v) xs ≤ 1
once_hit u v [] h = omega arith
once_hit u v (x ∷ xs) h =
    ⊎_elim
    (λ some.
    let is = hit-some u v x.0 x.1 some in
    let rest = sum_by-none (hit u v) xs (λ k d l. hit_none u v (get_or xs k d).0 (get_or xs k d).1 (λ e. AllPairs-head (λ s t. s ≢ t) x xs h k d l (pairs_one x (get_or xs k d) (is.0 ∙ sym e.0) (is.1 ∙ sym e.1)))) in
    omega (arith, sum_by-cons (hit u v) x xs, rest, hit-le x))
    (λ none. omega (arith, sum_by-cons (hit u v) x xs, none, once_hit u v xs (AllPairs-tail (λ s t. s ≢ t) x xs h)))
    (cases_lt 0 (hit u v x))
  where
    pairs_one : (s t : ℕ × ℕ) → s.0 ≡ t.0 → s.1 ≡ t.1 → s ≡ t
    pairs_one s t e f = ap (λ a. (a, s.1)) e ∙ ap (λ a. (t.0, a)) f

    hit-le : (s : ℕ × ℕ) → hit u v s ≤ 1
    hit-le s = ⊎_elim
        (λ some. let is = hit-some u v s.0 s.1 some in let one : hit u v (s.0, s.1) ≡ 1 = subst (λ a. hit u v (a, s.1) ≡ 1) (sym is.0) (subst (λ b. hit u v (u, b) ≡ 1) (sym is.1) (hit_same u v)) in omega (arith, one))
        (λ none. omega arith)
        (cases_lt 0 (hit u v s))

pub hit_one : (u v : ℕ) (xs : List (ℕ × ℕ)) → AllPairs (λ s t. s ≢ t) xs → Contains xs (u, v) → sum_by (hit u v) xs ≡ 1
hit_one u v xs distinct (k, k_in, at_k) =
    omega (arith, once_hit u v xs distinct, get_or-le-sum_by (hit u v) xs k (u, v) k_in, ap (hit u v) at_k, hit_same u v)

hit_has : (u v : ℕ) (xs : List (ℕ × ℕ)) → sum_by (hit u v) xs ≡ 1 → Contains xs (u, v)
hit_has u v xs one =
    let (k, p, k_in, at_k, some) = sum_by-some (hit u v) xs (omega arith) in
    let e = hit-some u v p.0 p.1 some in
    (k, k_in, get_or_default xs k (u, v) p k_in ∙ (at_k ∙ (ap (λ (n : ℕ). (n, p.1)) e.0 ∙ ap (λ (n : ℕ). (u, n)) e.1)))

abbrev swap : ℕ × ℕ → ℕ × ℕ
swap s = (s.1, s.0)

-- the pairs of distinct numbers are distinct
ring_distinct : (hull : List ℕ) → AllPairs (λ x y. x ≢ y) hull → AllPairs (λ s t. s ≢ t) (ring_pairs hull)
ring_distinct hull distinct i j d l j_in same =
    let j_place : j < length hull = omega (arith, length-ring hull) in
    let i_place : i < length hull = omega arith in
    let at_i = pair_at hull (slice_index hull i) (next_point hull i) i d i_place refl (next_is hull i i_place) in
    let at_j = pair_at hull (slice_index hull j) (next_point hull j) j d j_place refl (next_is hull j j_place) in
    distinct i j 0 l j_place (ap (λ (p : ℕ × ℕ). p.0) (sym at_i ∙ (same ∙ at_j)))

-- A cycle of distinct sides that are reversed pairs of the hull, as many as these, has each of them.
pub rim_from : (hull cycle : List ℕ) → AllPairs (λ s t. s ≢ t) (ring_pairs cycle) → length cycle ≡ length hull → GoesBack hull cycle → IsRim hull cycle
rim_from hull cycle distinct same back =
    record { once = λ u v pair. hit_one v u (ring_pairs cycle) distinct (has u v pair); only = back }
  where
    turned : List (ℕ × ℕ)
    turned = map swap (ring_pairs hull)

    has : (u v : ℕ) → IsHullPair hull u v → Contains (ring_pairs cycle) (v, u)
    has u v pair = ⊎_elim
        (λ yes_has. yes_has)
        (λ away.
        let more = length-le_from_distinct (map swap (ring_pairs hull)) ((v, u) ∷ ring_pairs cycle)
        (AllPairs-cons (λ s t. s ≢ t) (v, u) (ring_pairs cycle) (λ k d k_in e. away (k, k_in, get_or_default (ring_pairs cycle) k (v, u) d k_in ∙ sym e)) distinct)
        (All-cons (Contains (map swap (ring_pairs hull))) (v, u) (ring_pairs cycle) (contains_map swap (ring_pairs hull) (u, v) pair)
        (λ k d k_in. let s = get_or (ring_pairs cycle) k d in contains_map swap (ring_pairs hull) (s.1, s.0) (back s.1 s.0 (Contains-get_or (ring_pairs cycle) k d k_in)))) in
        absurd (omega (arith, more, length-map (ring_pairs hull) swap, length-ring hull, length-ring cycle)))
        (pair_or_not cycle v u)

-- and the other way round
pub length_rim : (hull cycle : List ℕ) → AllPairs (λ x y. x ≢ y) hull → AllPairs (λ s t. s ≢ t) (ring_pairs cycle) → IsRim hull cycle → length cycle ≡ length hull
length_rim hull cycle distinct once rim =
    let few = length-le_from_distinct (map swap (ring_pairs hull)) (ring_pairs cycle) once
    (λ k d k_in. let s = get_or (ring_pairs cycle) k d in contains_map swap (ring_pairs hull) (s.1, s.0) (rim.only s.1 s.0 (Contains-get_or (ring_pairs cycle) k d k_in))) in
    let many = length-le_from_distinct (map swap (ring_pairs cycle)) (ring_pairs hull) (ring_distinct hull distinct)
    (λ k d k_in. let s = get_or (ring_pairs hull) k d in contains_map swap (ring_pairs cycle) (s.1, s.0) (hit_has s.1 s.0 (ring_pairs cycle) (rim.once s.0 s.1 (Contains-get_or (ring_pairs hull) k d k_in)))) in
    omega (arith, few, many, length-map (ring_pairs hull) swap, length-map (ring_pairs cycle) swap, length-ring hull, length-ring cycle)

-- where a way back along the hull does not begin, and where it leaves the hull
pub not_on_hull : (hull cycle : List ℕ) → 0 < length cycle → ((k : ℕ) → k < length hull → slice_index hull k ≢ slice_index cycle 0) → ¬ GoesBack hull cycle
not_on_hull hull cycle some none back =
    let (k, k_in, at_k) = end_of_pair hull (next_point cycle 0) (slice_index cycle 0) (back (next_point cycle 0) (slice_index cycle 0) (side_at_place cycle 0 some)) in
    none k k_in at_k

pub not_back : (hull cycle : List ℕ) (at m k : ℕ) → AllPairs (λ x y. x ≢ y) hull → at < length hull → k < length cycle → IsPlaceBefore hull at m → slice_index hull at ≡ slice_index cycle k
    → next_point cycle k ≢ slice_index hull m → ¬ GoesBack hull cycle
not_back hull cycle at m k distinct at_in k_in before same other back =
    let pair = back (next_point cycle k) (slice_index cycle k) (side_at_place cycle k k_in) in
    other (before_only hull (next_point cycle k) at m distinct at_in before (subst (λ (x : ℕ). IsHullPair hull (next_point cycle k) x) (sym same) pair))

-- one place more
pub back_more : (hull cycle : List ℕ) (at m k : ℕ) → at < length hull → IsPlaceBefore hull at m → slice_index hull at ≡ slice_index cycle k → next_point cycle k ≡ slice_index hull m
    → ((j : ℕ) → j < k → IsHullPair hull (next_point cycle j) (slice_index cycle j)) → (j : ℕ) → j < k + 1 → IsHullPair hull (next_point cycle j) (slice_index cycle j)
back_more hull cycle at m k at_in before same next each =
    below_more (λ j. IsHullPair hull (next_point cycle j) (slice_index cycle j)) k each
    (subst (λ (x : ℕ). IsHullPair hull x (slice_index cycle k)) (sym next) (subst (λ (x : ℕ). IsHullPair hull (slice_index hull m) x) same (pair_before hull at m at_in before)))

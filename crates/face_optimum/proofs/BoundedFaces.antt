-- The bounded faces, cycle by cycle.
use Rattle.std.proofs.Common.{◌≡◌, ℕ, ◌+◌, ◌-◌, ◌<◌, ◌≤◌, Bool, true, false, not, cond, List, [], ◌∷◌, ◌++◌, length, get_or, slice_index, filter, map, sum_by, take, All, Vec, Global, ap, sym, ◌∙◌, subst, refl, ⊎_elim, arith}
use Rattle.std.proofs.lemmas.Bool.{cases_Bool}
use Rattle.std.proofs.lemmas.List.{append-nil, get_or_default, length-map, get_or-map, take_all}
use Rattle.std.proofs.lemmas.List.Elements.{filter_more}
use Rattle.std.proofs.lemmas.List.Sums.{sum_by-append, sum_by-cons}
use Rattle.exact_predicates.specs.Hull.{IsHullPair}
use Rattle.exact_predicates.proofs.ListFacts.{length-filter-le}
use Rattle.exact_predicates.proofs.Pairs.{is_pair_decides}
use Rattle.exact_predicates.proofs.Rings.{pair_of_place, place_of_pair}
use Rattle.face_optimum.specs.Decomposition.{bounded_faces, is_outer}
use Rattle.face_optimum.specs.Places.{next_point}
use Rattle.face_optimum.proofs.Filters.{All-filter_at, All-filter_from}
use Rattle.face_optimum.proofs.RingPlaces.{next_is, next_only}

-- the place of the side that is looked for
pub outer_yes : (hull cycle : List ℕ) (k : ℕ) → k < length cycle → slice_index cycle k ≡ slice_index hull 1 → next_point cycle k ≡ slice_index hull 0 → is_outer hull cycle ≡ true
outer_yes hull cycle k k_in from to =
    (is_pair_decides cycle (slice_index hull 1) (slice_index hull 0)).1
    (subst (λ (x : ℕ). IsHullPair cycle x (slice_index hull 0)) from
    (subst (λ (x : ℕ). IsHullPair cycle (slice_index cycle k) x) to
    (pair_of_place cycle (slice_index cycle k) (next_point cycle k) k k_in refl (next_is cycle k k_in))))

pub outer_no : (hull cycle : List ℕ) → ((k : ℕ) → k < length cycle → ¬ ((slice_index cycle k ≡ slice_index hull 1) × (next_point cycle k ≡ slice_index hull 0))) → is_outer hull cycle ≡ false
outer_no hull cycle none =
    ⊎_elim
    (λ h.
    let (k, k_in, at_k, next) = place_of_pair cycle (slice_index hull 1) (slice_index hull 0) ((is_pair_decides cycle (slice_index hull 1) (slice_index hull 0)).0 h) in
    absurd (none k k_in (at_k, next_only cycle k (slice_index hull 0) next)))
    (λ h. h)
    (cases_Bool (is_outer hull cycle))

abbrev pub is_bounded : List ℕ → List ℕ → Bool
is_bounded hull c = not (is_outer hull c)

bounded_from : (b : Bool) → not b ≡ true → b ≡ false
bounded_from true e = sym e
bounded_from false e = refl

-- what holds of each bounded face
pub All-bounded_from : (hull : List ℕ) (P : List ℕ → Type 0) (cycles : List (List ℕ)) → ((k : ℕ) → k < length cycles → is_outer hull (get_or cycles k []) ≡ false → P (get_or cycles k [])) → All P (bounded_faces hull cycles)
All-bounded_from hull P cycles each =
    All-filter_from (is_bounded hull) P cycles (λ k d k_in e.
    let same : get_or cycles k d ≡ get_or cycles k [] = get_or_default cycles k d [] k_in in
    subst P (sym same) (each k k_in (bounded_from (is_outer hull (get_or cycles k [])) (ap (is_bounded hull) (sym same) ∙ e))))

pub All-bounded_at : (hull : List ℕ) (P : List ℕ → Type 0) (cycles : List (List ℕ)) (k : ℕ) → All P (bounded_faces hull cycles) → k < length cycles → is_outer hull (get_or cycles k []) ≡ false → P (get_or cycles k [])
All-bounded_at hull P cycles k all k_in e = All-filter_at (is_bounded hull) P cycles k [] all k_in (ap not e)

-- one cycle more
pub bounded_more : (hull : List ℕ) (cycles : List (List ℕ)) (k : ℕ) → k < length cycles → is_outer hull (get_or cycles k []) ≡ false
    → bounded_faces hull (take (k + 1) cycles) ≡ bounded_faces hull (take k cycles) ++ get_or cycles k [] ∷ []
bounded_more hull cycles k k_in e =
    filter_more (is_bounded hull) cycles k [] k_in ∙ ap (λ (b : Bool). filter (is_bounded hull) (take k cycles) ++ cond (not b) (get_or cycles k [] ∷ []) []) e

pub bounded_same : (hull : List ℕ) (cycles : List (List ℕ)) (k : ℕ) → k < length cycles → is_outer hull (get_or cycles k []) ≡ true
    → bounded_faces hull (take (k + 1) cycles) ≡ bounded_faces hull (take k cycles)
bounded_same hull cycles k k_in e =
    filter_more (is_bounded hull) cycles k [] k_in
    ∙ (ap (λ (b : Bool). filter (is_bounded hull) (take k cycles) ++ cond (not b) (get_or cycles k [] ∷ []) []) e ∙ append-nil (filter (is_bounded hull) (take k cycles)))

pub bounded_all : (hull : List ℕ) (cycles : List (List ℕ)) (k : ℕ) → length cycles ≤ k → bounded_faces hull (take k cycles) ≡ bounded_faces hull cycles
bounded_all hull cycles k all = ap (bounded_faces hull) (take_all k cycles all)

pub length-bounded-le : (hull : List ℕ) (cycles : List (List ℕ)) → length (bounded_faces hull cycles) ≤ length cycles
length-bounded-le hull cycles = length-filter-le (is_bounded hull) cycles

-- a fact of each face, of the lists that hold them
pub All-items : (P : List ℕ → Type 0) (rings : List (Vec ℕ Global)) (faces : List (List ℕ)) → map (λ ring. ring.items) rings ≡ faces → All P faces → All (λ ring. P ring.items) rings
All-items P rings faces same all k d k_in =
    let there : k < length faces = omega (arith, length-map rings (λ (ring : Vec ℕ Global). ring.items), ap length same) in
    let at : get_or faces k [] ≡ (get_or rings k d).items = sym (ap (λ (xs : List (List ℕ)). get_or xs k []) same) ∙ get_or-map (λ (ring : Vec ℕ Global). ring.items) rings k d [] k_in in
    subst P at (all k [] there)

-- the places, each less two, with one cycle more
pub places_more : (hull : List ℕ) (cycles : List (List ℕ)) (k sum here : ℕ) → k < length cycles
    → (is_outer hull (get_or cycles k []) ≡ false → here ≡ length (get_or cycles k []) - 2) → (is_outer hull (get_or cycles k []) ≡ true → here ≡ 0)
    → sum ≡ sum_by (λ c. length c - 2) (bounded_faces hull (take k cycles)) → sum + here ≡ sum_by (λ c. length c - 2) (bounded_faces hull (take (k + 1) cycles))
places_more hull cycles k sum here k_in inside outside is =
    ⊎_elim
    (λ e. let same = ap (sum_by (λ c. length c - 2)) (bounded_same hull cycles k k_in e) in omega (arith, outside e, same))
    (λ e.
    let more = ap (sum_by (λ c. length c - 2)) (bounded_more hull cycles k k_in e) in
    let parts = sum_by-append (λ c. length c - 2) (bounded_faces hull (take k cycles)) (get_or cycles k [] ∷ []) in
    let last = sum_by-cons (λ c. length c - 2) (get_or cycles k []) [] in
    omega (arith, inside e, more, parts, last))
    (cases_Bool (is_outer hull (get_or cycles k [])))

-- The sides of faces: each side of the edges stands in one face, and there once.
use Rattle.std.proofs.Common.{◌≡◌, ℕ, zero, suc, ◌+◌, ◌%◌, ◌<◌, ◌≤◌, List, [], ◌∷◌, ◌++◌, length, get_or, slice_index, All, AllPairs, Contains, sum_by, arith, ap, sym, ◌∙◌, subst, ⊎_elim}
use Rattle.std.proofs.Math.Nat.{mod-eq_of_lt, mod_self}
use Rattle.std.proofs.lemmas.Bool.{cases_lt}
use Rattle.std.proofs.lemmas.List.{get_or_append_left, get_or_default, get_or_push, length_push}
use Rattle.std.proofs.lemmas.List.Elements.{All-contains, All-head, All-tail}
use Rattle.std.proofs.lemmas.List.Sums.{get_or-le-sum_by, sum_by-cons}
use Rattle.std.proofs.lemmas.Slice.Zip.{get_or-zip}
use Rattle.exact_predicates.specs.declared.edge.Edge.{Edge}
use Rattle.exact_predicates.specs.declared.point.Point.{Point}
use Rattle.exact_predicates.specs.Candidates.{HasEdge}
use Rattle.exact_predicates.specs.Hull.{ring_pairs}
use Rattle.exact_predicates.specs.Triangulation.{hit}
use Rattle.exact_predicates.proofs.Counts.{hit-some}
use Rattle.exact_predicates.proofs.Elements.{sum_by-some}
use Rattle.exact_predicates.proofs.Equalities.{HasEdge-comm}
use Rattle.exact_predicates.proofs.ListFacts.{AllPairs-head, AllPairs-tail}
use Rattle.exact_predicates.proofs.Pairs.{hit_same}
use Rattle.exact_predicates.proofs.Rings.{length-ring}
use Rattle.lmt_network.proofs.Filters.{count_from, count_to}
use Rattle.skeleton_faces.specs.Faces.{AreFaces, HasRoundSide, IsFace, round_at}
use Rattle.face_optimum.specs.Parts.{face_sides}

-- the member of a cycle at a place within it, and after the last
pub round_within : (c : List ℕ) (k : ℕ) → k < length c → round_at c k ≡ slice_index c k
round_within c k l = ap (slice_index c) (mod-eq_of_lt l)

pub round_end : (c : List ℕ) (k : ℕ) → k ≡ length c → round_at c k ≡ slice_index c 0
round_end c k e = ap (λ m. slice_index c (m % length c)) e ∙ ap (slice_index c) (mod_self (length c))

-- the pair of a ring at a place
ring_round : (c : List ℕ) (k : ℕ) (d : ℕ × ℕ) → k < length c → get_or (ring_pairs c) k d ≡ (round_at c k, round_at c (k + 1))
ring_round [] k d l = absurd (omega arith)
ring_round (x ∷ xs) k d l =
    let c : List ℕ = x ∷ xs in
    let first : get_or (x ∷ xs) k d.0 ≡ round_at (x ∷ xs) k = get_or_default (x ∷ xs) k d.0 0 l ∙ sym (round_within (x ∷ xs) k l) in
    let second : get_or (xs ++ x ∷ []) k d.1 ≡ round_at (x ∷ xs) (k + 1) = next in
    get_or-zip (x ∷ xs) (xs ++ x ∷ []) k d l (omega (arith, length_push xs x, l))
    ∙ (ap (λ z. (z, get_or (xs ++ x ∷ []) k d.1)) first ∙ ap (λ z. (round_at (x ∷ xs) k, z)) second)
  where
    step : (ys : List ℕ) (y : ℕ) (j : ℕ) → slice_index (y ∷ ys) (j + 1) ≡ slice_index ys j
    step ys y j = let e : j + 1 ≡ suc j = omega arith in ap (slice_index (y ∷ ys)) e

    next : get_or (xs ++ x ∷ []) k d.1 ≡ round_at (x ∷ xs) (k + 1)
    next =
        ⊎_elim
        (λ (less : k < length xs).
        let in_c : k + 1 < length (x ∷ xs) = omega arith in
        get_or_append_left xs (x ∷ []) d.1 k less ∙ (get_or_default xs k d.1 0 less ∙ (sym (step xs x k) ∙ sym (round_within (x ∷ xs) (k + 1) in_c))))
        (λ (more : length xs ≤ k).
        let at_end : k + 1 ≡ length (x ∷ xs) = omega arith in
        get_or_push xs x d.1 k (omega arith) ∙ sym (round_end (x ∷ xs) (k + 1) at_end))
        (cases_lt k (length xs))

-- a pair of the ring is a side of the cycle, and the other way round
pub pair_of_side : (c : List ℕ) (u v : ℕ) → HasRoundSide c u v → Contains (ring_pairs c) (u, v)
pair_of_side c u v (k, k_in, from, to) =
    (k, omega (arith, length-ring c), ring_round c k (u, v) k_in ∙ (ap (λ z. (z, round_at c (k + 1))) from ∙ ap (λ z. (u, z)) to))

pub side_of_pair : (c : List ℕ) (u v : ℕ) → Contains (ring_pairs c) (u, v) → HasRoundSide c u v
side_of_pair c u v (k, k_in, at_k) =
    let l : k < length c = omega (arith, length-ring c) in
    let e = sym (ring_round c k (u, v) l) ∙ at_k in
    (k, l, ap (λ (p : ℕ × ℕ). p.0) e, ap (λ (p : ℕ × ℕ). p.1) e)

-- what stands at no two places of a list is counted once at most
count_once : (xs : List (ℕ × ℕ)) (x y : ℕ)
    → ((i j : ℕ) → i < j → j < length xs → get_or xs i (x, y) ≡ (x, y) → get_or xs j (x, y) ≡ (x, y) → ⊥) → sum_by (hit x y) xs ≤ 1
count_once [] x y apart = omega arith
count_once (s ∷ xs) x y apart =
    ⊎_elim
    (λ (none : hit x y s < 1).
    omega (arith, sum_by-cons (hit x y) s xs, count_once xs x y (λ i j l j_in e f. apart (suc i) (suc j) (omega arith) (omega arith) e f)))
    (λ (some : 1 ≤ hit x y s).
    let e = hit-some x y s.0 s.1 some in
    let is : s ≡ (x, y) = ap (λ z. (z, s.1)) e.0 ∙ ap (λ z. (x, z)) e.1 in
    let one : hit x y s ≡ 1 = ap (hit x y) is ∙ hit_same x y in
    ⊎_elim
    (λ (rest : sum_by (hit x y) xs < 1). omega (arith, sum_by-cons (hit x y) s xs, one))
    (λ (rest : 1 ≤ sum_by (hit x y) xs). let (k, k_in, at_k) = count_to xs x y rest in absurd (apart zero (suc k) (omega arith) (omega arith) is at_k))
    (cases_lt (sum_by (hit x y) xs) 1))
    (cases_lt (hit x y s) 1)

-- a face has each side once at most
once_in_face : (ps : List Point) (es : List Edge) (c : List ℕ) (x y : ℕ) → IsFace ps es c → sum_by (hit x y) (ring_pairs c) ≤ 1
once_in_face ps es c x y face =
    count_once (ring_pairs c) x y (λ i j l j_in e f.
    let j_c : j < length c = omega (arith, length-ring c) in
    let i_c : i < length c = omega arith in
    let at_i = sym (ring_round c i (x, y) i_c) ∙ e in
    let at_j = sym (ring_round c j (x, y) j_c) ∙ f in
    face.once i j l j_c (
      ap (λ (p : ℕ × ℕ). p.0) at_i ∙ sym (ap (λ (p : ℕ × ℕ). p.0) at_j),
      ap (λ (p : ℕ × ℕ). p.1) at_i ∙ sym (ap (λ (p : ℕ × ℕ). p.1) at_j),
    ))

-- and so have all faces together
sum_once : (cs : List (List ℕ)) (x y : ℕ) → All (λ c. sum_by (hit x y) (ring_pairs c) ≤ 1) cs
    → AllPairs (λ c d. (u v : ℕ) → HasRoundSide c u v → ¬ HasRoundSide d u v) cs → face_sides cs x y ≤ 1
sum_once [] x y each apart = omega arith
sum_once (c ∷ cs) x y each apart =
    let f : List ℕ → ℕ = λ d. sum_by (hit x y) (ring_pairs d) in
    let sum = sum_by-cons f c cs in
    let here = All-head (λ d. f d ≤ 1) c cs each in
    let rest = sum_once cs x y (All-tail (λ d. f d ≤ 1) c cs each) (AllPairs-tail (λ c d. (u v : ℕ) → HasRoundSide c u v → ¬ HasRoundSide d u v) c cs apart) in
    ⊎_elim
    (λ (none : f c < 1). omega (arith, sum, rest))
    (λ (some : 1 ≤ f c). ⊎_elim
    (λ (others : face_sides cs x y < 1). omega (arith, sum, here))
    (λ (others : 1 ≤ face_sides cs x y).
    let (k, d, k_in, at_k, more) = sum_by-some f cs others in
    let far = All-contains (λ d. (u v : ℕ) → HasRoundSide c u v → ¬ HasRoundSide d u v) cs d
    (AllPairs-head (λ c d. (u v : ℕ) → HasRoundSide c u v → ¬ HasRoundSide d u v) c cs apart) (k, k_in, at_k) in
    absurd (far x y (side_of_pair c x y (count_to (ring_pairs c) x y some)) (side_of_pair d x y (count_to (ring_pairs d) x y more))))
    (cases_lt (face_sides cs x y) 1))
    (cases_lt (f c) 1)

module _ (ps : List Point) (es : List Edge) (cycles : List (List ℕ)) (are : AreFaces ps es cycles) where
  pub side_at_most_once : (x y : ℕ) → face_sides cycles x y ≤ 1
  side_at_most_once x y =
      sum_once cycles x y (λ k d k_in. once_in_face ps es (get_or cycles k d) x y (are.each k d k_in)) are.apart

  pub side_at_least_once : (x y : ℕ) → HasEdge es x y → 1 ≤ face_sides cycles x y
  side_at_least_once x y has =
      let (k, c, k_in, at_k, side) = are.all x y has in
      let f : List ℕ → ℕ = λ d. sum_by (hit x y) (ring_pairs d) in
      let some = count_from (ring_pairs c) x y (pair_of_side c x y side) in
      omega (arith, some, get_or-le-sum_by f cycles k c k_in, ap f at_k)

  -- a side of a face is one of an edge
  pub edge_of_side : (c : List ℕ) (x y : ℕ) → Contains cycles c → HasRoundSide c x y → HasEdge es x y
  edge_of_side c x y has (k, k_in, from, to) =
      let face = All-contains (IsFace ps es) cycles c are.each has in
      subst (λ (u : ℕ). HasEdge es u y) from (subst (λ (v : ℕ). HasEdge es (round_at c k) v) to (face.follows k k_in).side)

  -- so faces have a side as often one way as the other
  pub both_directions : (x y : ℕ) → face_sides cycles x y ≡ face_sides cycles y x
  both_directions x y =
      ⊎_elim
      (λ (none : face_sides cycles x y < 1). ⊎_elim
      (λ (back : face_sides cycles y x < 1). omega arith)
      (λ (back : 1 ≤ face_sides cycles y x). absurd (omega (arith, none, side_at_least_once x y (HasEdge-comm es y x (found y x back)))))
      (cases_lt (face_sides cycles y x) 1))
      (λ (some : 1 ≤ face_sides cycles x y).
      omega (arith, some, side_at_most_once x y, side_at_most_once y x, side_at_least_once y x (HasEdge-comm es x y (found x y some))))
      (cases_lt (face_sides cycles x y) 1)
    where
      found : (u v : ℕ) → 1 ≤ face_sides cycles u v → HasEdge es u v
      found u v some =
          let (k, c, k_in, at_k, more) = sum_by-some (λ d. sum_by (hit u v) (ring_pairs d)) cycles some in
          edge_of_side c u v (k, k_in, at_k) (side_of_pair c u v (count_to (ring_pairs c) u v more))

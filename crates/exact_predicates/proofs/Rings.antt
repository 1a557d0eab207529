-- The pairs of a ring of numbers, by their places.
use Rattle.std.proofs.Common.{◌≡◌, ◌≢◌, ℕ, zero, suc, ◌+◌, ◌<◌, List, [], ◌∷◌, ◌++◌, length, get_or, slice_index, arith, ap, sym, ◌∙◌, refl, subst, ⊎_elim, ◌⊎◌, inl, inr}
use Rattle.std.proofs.lemmas.Bool.{cases_lt}
use Rattle.std.proofs.lemmas.List.{length_push, get_or_append_left, get_or_push, get_or_default}
use Rattle.std.proofs.lemmas.Slice.Zip.{length-zip, get_or-zip}
use Rattle.exact_predicates.specs.declared.point.Point.{Point}
use Rattle.exact_predicates.specs.Hull.{IsHull, IsHullPair, ring_pairs}

-- what follows place k of a ring
abbrev pub IsNext : List ℕ → ℕ → ℕ → Type 0
IsNext h k v = ((k + 1 < length h) × (slice_index h (k + 1) ≡ v)) ⊎ ((k + 1 ≡ length h) × (slice_index h 0 ≡ v))

next_at : (x : ℕ) (xs : List ℕ) (k d : ℕ) → k < length (x ∷ xs) → IsNext (x ∷ xs) k (get_or (xs ++ x ∷ []) k d)
next_at x xs k d k_in =
    ⊎_elim
    (λ l. inl (omega arith, moved x xs k d l ∙ sym (get_or_append_left xs (x ∷ []) d k l)))
    (λ l. inr (omega arith, sym (get_or_push xs x d k (omega arith))))
    (cases_lt k (length xs))
  where
    moved : (x : ℕ) (xs : List ℕ) (k d : ℕ) → k < length xs → get_or (x ∷ xs) (k + 1) 0 ≡ get_or xs k d
    moved x [] k d l = absurd (omega arith)
    moved x (y ∷ ys) zero d l = refl
    moved x (y ∷ ys) (suc k) d l =
        let e : suc k + 1 ≡ suc (k + 1) = omega arith in
        rw e (moved y ys k d (omega arith))

-- a ring has as many pairs as members
pub length-ring : (h : List ℕ) → length (ring_pairs h) ≡ length h
length-ring [] = refl
length-ring (x ∷ xs) = omega (arith, length-zip (x ∷ xs) (xs ++ x ∷ []), length_push xs x)

-- the pair at a place
ring_at : (h : List ℕ) (k : ℕ) (d : ℕ × ℕ) → k < length h → ((get_or (ring_pairs h) k d).0 ≡ slice_index h k) × IsNext h k (get_or (ring_pairs h) k d).1
ring_at [] k d l = absurd (omega arith)
ring_at (x ∷ xs) k d l =
    rw (get_or-zip (x ∷ xs) (xs ++ x ∷ []) k d l (omega (arith, length_push xs x, l)))
    (get_or_default (x ∷ xs) k d.0 0 l, next_at x xs k d.1 l)

-- a pair of the hull stands at a place
pub place_of_pair : (h : List ℕ) (u v : ℕ) → IsHullPair h u v → (k : ℕ) × (k < length h) × (slice_index h k ≡ u) × IsNext h k v
place_of_pair h u v (k, k_in, at_k) =
    let l : k < length h = omega (arith, length-ring h, k_in) in
    let r = ring_at h k (u, v) l in
    let next : IsNext h k v = subst (λ (x : ℕ). IsNext h k x) (ap (λ (p : ℕ × ℕ). p.1) at_k) r.1 in
    (k, l, sym r.0 ∙ ap (λ (p : ℕ × ℕ). p.0) at_k, next)

-- the pair at a place, by what follows that place
pub pair_at : (h : List ℕ) (u v k : ℕ) (d : ℕ × ℕ) → k < length h → slice_index h k ≡ u → IsNext h k v → get_or (ring_pairs h) k d ≡ (u, v)
pair_at h u v k d l e next =
    let r = ring_at h k d l in
    let first = r.0 ∙ e in
    let second : (get_or (ring_pairs h) k d).1 ≡ v = ⊎_elim
    (λ a. ⊎_elim (λ b. sym a.1 ∙ b.1) (λ b. absurd (omega (arith, a.0, b.0))) next)
    (λ a. ⊎_elim (λ b. absurd (omega (arith, a.0, b.0))) (λ b. sym a.1 ∙ b.1) next)
    r.1 in
    ap (λ z. (z, (get_or (ring_pairs h) k d).1)) first ∙ ap (λ z. (u, z)) second

-- and each place has a pair
pub pair_of_place : (h : List ℕ) (u v k : ℕ) → k < length h → slice_index h k ≡ u → IsNext h k v → IsHullPair h u v
pair_of_place h u v k l e next = (k, omega (arith, length-ring h, l), pair_at h u v k (u, v) l e next)

-- the ends of a pair of the hull of some points are two of these
pub pair_ends : (ps : List Point) (h : List ℕ) (u v : ℕ) → IsHull ps h → IsHullPair h u v → (u < length ps) × (v < length ps) × (u ≢ v)
pair_ends ps h u v hull pair =
    let (k, k_in, at_k, next) = place_of_pair h u v pair in
    let three = hull.three in
    ⊎_elim
    (λ (l, at_next). (
      subst (λ (x : ℕ). x < length ps) at_k (hull.within k 0 k_in),
      subst (λ (x : ℕ). x < length ps) at_next (hull.within (k + 1) 0 l),
      λ e. hull.distinct k (k + 1) 0 (omega arith) l (at_k ∙ (e ∙ sym at_next)),
    ))
    (λ (l, at_next). (
      subst (λ (x : ℕ). x < length ps) at_k (hull.within k 0 k_in),
      subst (λ (x : ℕ). x < length ps) at_next (hull.within 0 0 (omega arith)),
      λ e. hull.distinct 0 k 0 (omega arith) k_in (at_next ∙ (sym e ∙ sym at_k)),
    ))
    next

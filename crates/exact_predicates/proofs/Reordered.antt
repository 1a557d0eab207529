-- The order of the triangles of a triangulation is free: for flip-minimality, and for lengths.
use Rattle.std.proofs.Common.{◌≡◌, ℕ, zero, suc, ◌+◌, ◌<◌, ◌≤◌, Bool, cond, List, [], ◌∷◌, ◌++◌, length, get_or, All, sum_by, filter, flat_map, arith, sym, ◌∙◌, subst, length-append}
use Rattle.std.proofs.lemmas.List.{get_or_append_left, get_or-append-add}
use Rattle.std.proofs.lemmas.List.Elements.{All-append, All-cons, All-weaker, filter-append}
use Rattle.std.proofs.lemmas.List.Sorted.{All-permutation, sum_by-IsPermutation}
use Rattle.std.proofs.lemmas.List.Sums.{sum_by-append}
use Rattle.std.specs.List.Sorted.{IsPermutation}
use Rattle.exact_predicates.specs.declared.point.Point.{Point}
use Rattle.exact_predicates.specs.declared.tri.Tri.{Tri}
use Rattle.exact_predicates.specs.Flip.{IsMinimalIn, IsFlipMinimal}
use Rattle.exact_predicates.specs.Hull.{ring_pairs}
use Rattle.exact_predicates.specs.Length.{length_up, length_down, IsNotLonger}
use Rattle.exact_predicates.specs.Triangulation.{sides, is_inner, edges, HasCorners}
use Rattle.exact_predicates.proofs.Elements.{Any-permutation}
use Rattle.exact_predicates.proofs.Sides.{sum_by-filter, sum_by-flat_map}

-- what each element of two lists end to end keeps, each of either keeps
All-left : {X : Type 0} (P : X → Type 0) (xs ys : List X) → All P (xs ++ ys) → All P xs
All-left P xs ys h = λ k d l. subst P (get_or_append_left xs ys d k l) (h k d (omega (arith, length-append xs ys)))

All-right : {X : Type 0} (P : X → Type 0) (xs ys : List X) → All P (xs ++ ys) → All P ys
All-right P xs ys h = λ k d l. subst P (get_or-append-add xs ys k d) (h (length xs + k) d (omega (arith, length-append xs ys)))

-- what each kept piece of each element keeps, each kept piece of all of them keeps; and the other way round
pub All-pieces : {X A : Type 0} (P : A → Type 0) (keep : A → Bool) (pieces : X → List A) (xs : List X)
    → All (λ x. All P (filter keep (pieces x))) xs → All P (filter keep (flat_map pieces xs))
All-pieces P keep pieces [] h = λ k d l. absurd (omega arith)
All-pieces P keep pieces (x ∷ xs) h =
    rw (filter-append keep (pieces x) (flat_map pieces xs))
    (All-append P _ _ (h 0 x (omega arith)) (All-pieces P keep pieces xs (λ k d l. h (suc k) d (omega arith))))

pub pieces-All : {X A : Type 0} (P : A → Type 0) (keep : A → Bool) (pieces : X → List A) (xs : List X)
    → All P (filter keep (flat_map pieces xs)) → All (λ x. All P (filter keep (pieces x))) xs
pieces-All P keep pieces [] h = λ k d l. absurd (omega arith)
pieces-All P keep pieces (x ∷ xs) h =
    let here = filter keep (pieces x) in
    let rest = filter keep (flat_map pieces xs) in
    let both : All P (here ++ rest) = subst (λ ys. All P ys) (filter-append keep (pieces x) (flat_map pieces xs)) h in
    All-cons (λ y. All P (filter keep (pieces y))) x xs (All-left P here rest both) (pieces-All P keep pieces xs (All-right P here rest both))

-- a flip-minimal triangulation is one in every order
pub IsFlipMinimal-permutation : (ps : List Point) (hull : List ℕ) (ts us : List Tri) → IsPermutation ts us → IsFlipMinimal ps hull ts → IsFlipMinimal ps hull us
IsFlipMinimal-permutation ps hull ts us p minimal =
    let In : List Tri → ℕ × ℕ → Type 0 = λ tris e. IsMinimalIn ps tris e.0 e.1 in
    let moved : (e : ℕ × ℕ) → In ts e → In us e = λ e m. record {
      a = m.a;
      b = m.b;
      on_left = Any-permutation (λ t. HasCorners t e.0 e.1 m.a) ts us p m.on_left;
      on_right = Any-permutation (λ t. HasCorners t e.1 e.0 m.b) ts us p m.on_right;
      minimal = m.minimal;
    } in
    All-pieces (In us) (is_inner hull) sides us
    (All-permutation (λ t. All (In us) (filter (is_inner hull) (sides t))) ts us p
    (pieces-All (In us) (is_inner hull) sides ts (All-weaker (In ts) (In us) moved (filter (is_inner hull) (flat_map sides ts)) minimal)))

-- a sum over the edges is one over what each triangle has of them
sum_by-edges : (f : ℕ × ℕ → ℕ) (hull : List ℕ) (ts : List Tri)
    → sum_by f (edges hull ts) ≡ sum_by f (ring_pairs hull) + sum_by (λ t. sum_by (λ s. cond (is_inner hull s) (f s) 0) (sides t)) ts
sum_by-edges f hull ts =
    omega (
      arith,
      sum_by-append f (ring_pairs hull) (filter (is_inner hull) (flat_map sides ts)),
      sum_by-filter f (is_inner hull) (flat_map sides ts),
      sum_by-flat_map (λ s. cond (is_inner hull s) (f s) 0) sides ts,
    )

pub sum_by-edges-permutation : (f : ℕ × ℕ → ℕ) (hull : List ℕ) (ts us : List Tri) → IsPermutation ts us → sum_by f (edges hull us) ≡ sum_by f (edges hull ts)
sum_by-edges-permutation f hull ts us p =
    omega (
      arith,
      sum_by-edges f hull ts,
      sum_by-edges f hull us,
      sum_by-IsPermutation (λ t. sum_by (λ s. cond (is_inner hull s) (f s) 0) (sides t)) ts us p,
    )

-- its length is the same in every order
pub IsNotLonger-permutation : (ps : List Point) (hull : List ℕ) (ts us first : List Tri) → IsPermutation ts us
    → IsNotLonger ps (edges hull ts) (edges hull first) → IsNotLonger ps (edges hull us) (edges hull first)
IsNotLonger-permutation ps hull ts us first p h = record {
  ups = λ m l. omega (arith, sum_by-edges-permutation (length_up ps m) hull ts us p, h.ups m l);
  downs = λ m l. omega (arith, sum_by-edges-permutation (length_down ps m) hull ts us p, h.downs m l);
}

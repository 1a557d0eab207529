-- The list of all sides, one after another, and the pairs of a hull among them.
use Rattle.std.proofs.Common.{◌≡◌, ◌≢◌, ℕ, suc, ◌+◌, ◌<◌, ◌≤◌, List, [], ◌∷◌, ◌++◌, length, get_or, take, map, AllPairs, Option, Some, None, arith, ap, sym, ◌∙◌, ⊎_elim, append_assoc}
use Rattle.std.proofs.lemmas.List.{length-take, map-append, take_more}
use Rattle.exact_predicates.specs.declared.tri.Tri.{Tri}
use Rattle.exact_predicates.specs.Hull.{IsHullPair}
use Rattle.exact_predicates.proofs.Rings.{place_of_pair}
use Rattle.flip_finish.specs.Halves.{numbered_sides, outer_sides}

-- the three sides of the triangle with the number n
abbrev three_sides : Tri → ℕ → List ((ℕ × ℕ) × Option ℕ)
three_sides t n = ((t.a, t.b), Some n) ∷ ((t.b, t.c), Some n) ∷ ((t.c, t.a), Some n) ∷ []

numbered_sides-push : (n : ℕ) (ts : List Tri) (t : Tri) → numbered_sides n (ts ++ t ∷ []) ≡ numbered_sides n ts ++ three_sides t (n + length ts)
numbered_sides-push n [] t = let e : n ≡ n + 0 = omega arith in ap (λ m. three_sides t m) e
numbered_sides-push n (s ∷ ts) t =
    let e : suc n + length ts ≡ n + suc (length ts) = omega arith in
    ap (λ l. ((s.a, s.b), Some n) ∷ ((s.b, s.c), Some n) ∷ ((s.c, s.a), Some n) ∷ l)
    (numbered_sides-push (suc n) ts t ∙ ap (λ m. numbered_sides (suc n) ts ++ three_sides t m) e)

-- those of one more triangle
pub numbered_sides-more : (ts : List Tri) (i : ℕ) (t : Tri) → i < length ts → t ≡ get_or ts i t
    → numbered_sides 0 (take (i + 1) ts)
    ≡ ((numbered_sides 0 (take i ts) ++ ((t.a, t.b), Some i) ∷ []) ++ ((t.b, t.c), Some i) ∷ []) ++ ((t.c, t.a), Some i) ∷ []
numbered_sides-more ts i t l e =
    let front = numbered_sides 0 (take i ts) in
    let n : 0 + length (take i ts) ≡ i = omega (arith, length-take i ts) in
    ap (λ l. numbered_sides 0 l) (take_more ts i t l ∙ ap (λ u. take i ts ++ u ∷ []) (sym e))
    ∙ (numbered_sides-push 0 (take i ts) t
    ∙ (ap (λ m. front ++ three_sides t m) n
    ∙ (sym (append_assoc front (((t.a, t.b), Some i) ∷ []) (((t.b, t.c), Some i) ∷ ((t.c, t.a), Some i) ∷ []))
    ∙ sym (append_assoc (front ++ ((t.a, t.b), Some i) ∷ []) (((t.b, t.c), Some i) ∷ []) (((t.c, t.a), Some i) ∷ [])))))

-- that of one more pair of the hull
pub outer_sides-more : (sides : List ((ℕ × ℕ) × Option ℕ)) (pairs : List (ℕ × ℕ)) (k u v : ℕ) → k < length pairs → get_or pairs k (u, v) ≡ (u, v)
    → sides ++ outer_sides (take (k + 1) pairs) ≡ (sides ++ outer_sides (take k pairs)) ++ ((v, u), None) ∷ []
outer_sides-more sides pairs k u v l e =
    let outer : ℕ × ℕ → (ℕ × ℕ) × Option ℕ = λ p. ((p.1, p.0), None) in
    ap (λ ps. sides ++ map outer ps) (take_more pairs k (u, v) l ∙ ap (λ p. take k pairs ++ p ∷ []) e)
    ∙ (ap (λ ps. sides ++ ps) (map-append outer (take k pairs) ((u, v) ∷ []))
    ∙ sym (append_assoc sides (outer_sides (take k pairs)) (((v, u), None) ∷ [])))

-- the two ends of a pair of distinct numbers differ
pub ring_apart : (hull : List ℕ) (u v : ℕ) → 2 ≤ length hull → AllPairs (λ x y. x ≢ y) hull → IsHullPair hull u v → u ≢ v
ring_apart hull u v some distinct pair e =
    let (k, k_in, at_k, next) = place_of_pair hull u v pair in
    ⊎_elim
    (λ (l, at_next). distinct k (k + 1) 0 (omega arith) l (at_k ∙ (e ∙ sym at_next)))
    (λ (l, at_next). distinct 0 k 0 (omega arith) k_in (at_next ∙ (sym e ∙ sym at_k)))
    next

-- A list in strictly ascending order is known by its members.
use Rattle.std.proofs.Common.{◌≡◌, ◌⊎◌, ℕ, zero, suc, ◌+◌, ◌<◌, List, [], ◌∷◌, length, get_or, All, AllPairs, Contains, inl, inr, ⊎_elim, refl, arith, sym, ap, ◌∙◌, subst}
use Rattle.exact_predicates.specs.declared.diamond.Diamond.{Diamond}
use Rattle.exact_predicates.specs.declared.edge.Edge.{Edge}
use Rattle.exact_predicates.specs.declared.point.Point.{Point}
use Rattle.exact_predicates.specs.declared.tri.Tri.{Tri}
use Rattle.exact_predicates.specs.Candidates.{EdgePrecedes, TriPrecedes, IsCandidate, AreCandidates, IsEmptyOver, AreTrianglesOver}
use Rattle.exact_predicates.proofs.ListFacts.{AllPairs-head, AllPairs-tail}

-- a member is the first or a later one
Contains-cases : {X : Type 0} (x : X) (xs : List X) (y : X) → Contains (x ∷ xs) y → (x ≡ y) ⊎ Contains xs y
Contains-cases x xs y (zero, k_in, at_k) = inl at_k
Contains-cases x xs y (suc k, k_in, at_k) = inr (k, omega arith, at_k)

Contains-later : {X : Type 0} (x : X) (xs : List X) (y : X) → Contains xs y → Contains (x ∷ xs) y
Contains-later x xs y (k, k_in, at_k) = (suc k, omega arith, at_k)

-- what follows the first
All-member : {X : Type 0} (P : X → Type 0) (xs : List X) (y : X) → All P xs → Contains xs y → P y
All-member P xs y h (k, k_in, at_k) = subst P at_k (h k y k_in)

-- two ascending lists with the same members are one
pub ascending-only : {X : Type 0} (R : X → X → Type 0) → ((x y : X) → R x y → R y x → ⊥) → (xs ys : List X) → AllPairs R xs → AllPairs R ys
    → ((z : X) → Contains xs z → Contains ys z) → ((z : X) → Contains ys z → Contains xs z) → xs ≡ ys
ascending-only R apart [] [] up rise there back = refl
ascending-only R apart [] (y ∷ ys) up rise there back = let (k, k_in, at_k) = back y (0, omega arith, refl) in absurd (omega arith)
ascending-only R apart (x ∷ xs) [] up rise there back = let (k, k_in, at_k) = there x (0, omega arith, refl) in absurd (omega arith)
ascending-only {X} R apart (x ∷ xs) (y ∷ ys) up rise there back =
    let same = heads in
    ap (λ z. z ∷ xs) same ∙ ap (λ zs. y ∷ zs) (ascending-only R apart xs ys (AllPairs-tail R x xs up) (AllPairs-tail R y ys rise) (tail_there same) (tail_back same))
  where
    heads : x ≡ y
    heads =
        ⊎_elim
        (λ e. sym e)
        (λ later. ⊎_elim
        (λ e. e)
        (λ after. absurd (apart y x (All-member (R y) ys x (AllPairs-head R y ys rise) later) (All-member (R x) xs y (AllPairs-head R x xs up) after)))
        (Contains-cases x xs y (back y (0, omega arith, refl))))
        (Contains-cases y ys x (there x (0, omega arith, refl)))

    tail_there : x ≡ y → (z : X) → Contains xs z → Contains ys z
    tail_there e z h =
        ⊎_elim
        (λ f. let r = All-member (R x) xs z (AllPairs-head R x xs up) h in
        let s = subst (λ (w : X). R x w) (sym (e ∙ f)) r in absurd (apart x x s s))
        (λ k. k)
        (Contains-cases y ys z (there z (Contains-later x xs z h)))

    tail_back : x ≡ y → (z : X) → Contains ys z → Contains xs z
    tail_back e z h =
        ⊎_elim
        (λ f. let r = All-member (R y) ys z (AllPairs-head R y ys rise) h in
        let s = subst (λ (w : X). R y w) (sym (sym e ∙ f)) r in absurd (apart y y s s))
        (λ k. k)
        (Contains-cases x xs z (back z (Contains-later y ys z h)))

-- no edge comes before one that comes before it
pub EdgePrecedes-not : (e f : Edge) → EdgePrecedes e f → EdgePrecedes f e → ⊥
EdgePrecedes-not e f h k =
    ⊎_elim
    (λ l. ⊎_elim (λ m. omega arith) (λ r. let r0 = r.0 in omega arith) k)
    (λ d. let d0 = d.0 in let d1 = d.1 in ⊎_elim (λ m. omega arith) (λ r. let r1 = r.1 in omega arith) k)
    h

TriPrecedes-not : (s t : Tri) → TriPrecedes s t → TriPrecedes t s → ⊥
TriPrecedes-not s t h k =
    ⊎_elim
    (λ l. ⊎_elim (λ m. omega arith) (⊎_elim (λ m. let m0 = m.0 in omega arith) (λ m. let m0 = m.0 in omega arith)) k)
    (⊎_elim
    (λ l. let l0 = l.0 in let l1 = l.1 in ⊎_elim (λ m. omega arith) (⊎_elim (λ m. let m1 = m.1 in omega arith) (λ m. let m1 = m.1 in omega arith)) k)
    (λ l. let l0 = l.0 in let l1 = l.1 in let l2 = l.2 in ⊎_elim (λ m. omega arith) (⊎_elim (λ m. let m1 = m.1 in omega arith) (λ m. let m2 = m.2 in omega arith)) k))
    h

-- there is one list of candidate edges
pub AreCandidates-only : (ps : List Point) (hull : List ℕ) (diamond : Diamond) (es fs : List Edge) → AreCandidates ps hull diamond es → AreCandidates ps hull diamond fs → es ≡ fs
AreCandidates-only ps hull diamond es fs h k =
    ascending-only EdgePrecedes EdgePrecedes-not es fs h.ascending k.ascending
    (λ e m. k.all e (All-member (IsCandidate ps hull diamond) es e h.each m))
    (λ e m. h.all e (All-member (IsCandidate ps hull diamond) fs e k.each m))

-- and one of empty triangles over them
pub AreTrianglesOver-only : (ps : List Point) (es : List Edge) (ts us : List Tri) → AreTrianglesOver ps es ts → AreTrianglesOver ps es us → ts ≡ us
AreTrianglesOver-only ps es ts us h k =
    ascending-only TriPrecedes TriPrecedes-not ts us h.ascending k.ascending
    (λ t m. k.all t (All-member (IsEmptyOver ps es) ts t h.each m))
    (λ t m. h.all t (All-member (IsEmptyOver ps es) us t k.each m))

-- A list that ascends from each item to the next ascends between any two, and the other way round.
use Rattle.std.proofs.Common.{zero, suc, List, [], ◌∷◌, get_or, All, AllPairs, Option, Some, None, arith}
use Rattle.std.specs.Prelude.{⊤}
use Rattle.std.proofs.lemmas.List.Kept.{AllPairs-cons}

-- each is R after the one before it, and the first after the last one, if there is one
abbrev pub IsChain : {X : Type 0} → (X → X → Type 0) → Option X → List X → Type 0
IsChain R last [] = ⊤
IsChain R None (x ∷ xs) = IsChain R (Some x) xs
IsChain R (Some last) (x ∷ xs) = R last x × IsChain R (Some x) xs

abbrev pub IsTransitive : {X : Type 0} → (X → X → Type 0) → Type 0
IsTransitive {X} R = (x y z : X) → R x y → R y z → R x z

-- after y, and so after what is before it
all_behind : {X : Type 0} (R : X → X → Type 0) → IsTransitive R → (x y : X) (ys : List X) → R x y → AllPairs R (y ∷ ys) → All (R x) (y ∷ ys)
all_behind R t x y ys h pairs zero d inside = h
all_behind R t x y ys h pairs (suc k) d inside = t x y (get_or ys k d) h (pairs zero (suc k) d (omega arith) inside)

pub AllPairs-chain : {X : Type 0} (R : X → X → Type 0) → IsTransitive R → (xs : List X) → IsChain R None xs → AllPairs R xs
AllPairs-chain R t [] c = λ i j d l m. absurd (omega arith)
AllPairs-chain R t (x ∷ []) c = λ i j d l m. absurd (omega arith)
AllPairs-chain R t (x ∷ y ∷ ys) c =
    let pairs = AllPairs-chain R t (y ∷ ys) c.1 in
    AllPairs-cons R x (y ∷ ys) (all_behind R t x y ys c.0 pairs) pairs

tail_pairs : {X : Type 0} (R : X → X → Type 0) (x : X) (xs : List X) → AllPairs R (x ∷ xs) → AllPairs R xs
tail_pairs R x xs pairs i j d l m = pairs (suc i) (suc j) d (omega arith) (omega arith)

pub IsChain-pairs : {X : Type 0} (R : X → X → Type 0) (xs : List X) → AllPairs R xs → IsChain R None xs
IsChain-pairs R [] pairs = tt
IsChain-pairs R (x ∷ []) pairs = tt
IsChain-pairs R (x ∷ y ∷ ys) pairs = (pairs 0 1 x (omega arith) (omega arith), IsChain-pairs R (y ∷ ys) (tail_pairs R x (y ∷ ys) pairs))

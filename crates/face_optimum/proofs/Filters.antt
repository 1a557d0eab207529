-- What holds of each element that a filter keeps.
use Rattle.std.proofs.Common.{◌≡◌, ℕ, zero, suc, ◌<◌, List, [], ◌∷◌, Bool, true, false, cond, filter, length, get_or, All, subst, refl, arith}
use Rattle.std.proofs.lemmas.List.Elements.{All-cons, All-head, All-nil, All-tail}

pub All-filter_from : {X : Type 0} (p : X → Bool) (P : X → Type 0) (xs : List X) → ((k : ℕ) (d : X) → k < length xs → p (get_or xs k d) ≡ true → P (get_or xs k d)) → All P (filter p xs)
All-filter_from p P [] h = All-nil P
All-filter_from {X} p P (x ∷ xs) h =
    cases (All-filter_from p P xs (λ k d l. h (suc k) d (omega arith))) (p x) refl
  where
    cases : All P (filter p xs) → (b : Bool) → p x ≡ b → All P (cond b (x ∷ filter p xs) (filter p xs))
    cases rest true e = All-cons P x (filter p xs) (h 0 x (omega arith) e) rest
    cases rest false e = rest

pub All-filter_at : {X : Type 0} (p : X → Bool) (P : X → Type 0) (xs : List X) (k : ℕ) (d : X) → All P (filter p xs) → k < length xs → p (get_or xs k d) ≡ true → P (get_or xs k d)
All-filter_at p P [] k d h l e = absurd (omega arith)
All-filter_at {X} p P (x ∷ xs) zero d h l e =
    All-head P x (filter p xs) (subst (λ (b : Bool). All P (cond b (x ∷ filter p xs) (filter p xs))) e h)
All-filter_at {X} p P (x ∷ xs) (suc k) d h l e =
    All-filter_at p P xs k d (rest (p x) h) (omega arith) e
  where
    rest : (b : Bool) → All P (cond b (x ∷ filter p xs) (filter p xs)) → All P (filter p xs)
    rest true a = All-tail P x (filter p xs) a
    rest false a = a

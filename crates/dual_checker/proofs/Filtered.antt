-- The part of a list that passes a test, where it stands together.
use Rattle.std.proofs.Common.{◌≡◌, ℕ, zero, suc, ◌-◌, ◌<◌, ◌≤◌, Bool, true, false, List, [], ◌∷◌, length, get_or, take, drop, filter, refl, sym, ap, arith}

-- none passes
filter_none : {X : Type 0} (p : X → Bool) (xs : List X) → ((k : ℕ) (d : X) → k < length xs → p (get_or xs k d) ≡ false) → filter p xs ≡ []
filter_none p [] none = refl
filter_none p (x ∷ xs) none = let here : p x ≡ false = none 0 x (omega arith) in rw here (filter_none p xs (λ k d l. none (suc k) d (omega arith)))

-- the first j pass, and no others
filter_front : {X : Type 0} (p : X → Bool) (xs : List X) (j : ℕ) → j ≤ length xs
    → ((k : ℕ) (d : X) → k < j → p (get_or xs k d) ≡ true)
    → ((k : ℕ) (d : X) → j ≤ k → k < length xs → p (get_or xs k d) ≡ false) → take j xs ≡ filter p xs
filter_front p xs zero l pass fail = sym (filter_none p xs (λ k d m. fail k d (omega arith) m))
filter_front p [] (suc j) l pass fail = absurd (omega arith)
filter_front {X = X} p (x ∷ xs) (suc j) l pass fail =
    let here : p x ≡ true = pass 0 x (omega arith) in
    rw here (ap (λ (ys : List X). x ∷ ys) (filter_front p xs j (omega arith) (λ k d m. pass (suc k) d (omega arith)) (λ k d m n. fail (suc k) d (omega arith) (omega arith))))

-- those from i on to before j pass, and no others
pub filter_part : {X : Type 0} (p : X → Bool) (xs : List X) (i j : ℕ) → i ≤ j → j ≤ length xs
    → ((k : ℕ) (d : X) → k < i → p (get_or xs k d) ≡ false) → ((k : ℕ) (d : X) → i ≤ k → k < j → p (get_or xs k d) ≡ true)
    → ((k : ℕ) (d : X) → j ≤ k → k < length xs → p (get_or xs k d) ≡ false) → take (j - i) (drop i xs) ≡ filter p xs
filter_part p xs zero j l m below between above =
    let all : j - 0 ≡ j = omega arith in
    rw all (filter_front p xs j m (λ k d n. between k d (omega arith) n) above)
filter_part p [] (suc i) j l m below between above = absurd (omega arith)
filter_part p (x ∷ xs) (suc i) zero l m below between above = absurd (omega arith)
filter_part p (x ∷ xs) (suc i) (suc j) l m below between above =
    let here : p x ≡ false = below 0 x (omega arith) in
    let left : suc j - suc i ≡ j - i = omega arith in
    rw (here, left) (filter_part p xs i j (omega arith) (omega arith) (λ k d n. below (suc k) d (omega arith)) (λ k d n o. between (suc k) d (omega arith) (omega arith)) (λ k d n o. above (suc k) d (omega arith) (omega arith)))

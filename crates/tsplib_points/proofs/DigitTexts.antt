-- Whole numbers written as digits.
use Rattle.std.proofs.Common.{◌≡◌, ℕ, fold, ◌++◌, append_assoc, ◌+◌, ◌-◌, ◌*◌, ◌<◌, List, [], ◌∷◌, length, get_or, take, refl, sym, ap, ◌∙◌}
use Rattle.std.proofs.lemmas.List.{take_more}
use Rattle.length_enclosure.specs.Number.{number}

-- a fold with one more element
fold_push : {X Y : Type 0} (f : Y → X → Y) (a : Y) (xs : List X) (y : X) → fold f a (xs ++ y ∷ []) ≡ f (fold f a xs) y
fold_push f a [] y = refl
fold_push f a (x ∷ xs) y = fold_push f (f a x) xs y

-- a digit behind a text
pub number_push : (t : List ℕ) (b : ℕ) → number (t ++ b ∷ []) ≡ 10 * number t + (b - 48)
unfolding number
number_push t b = fold_push (λ n b. 10 * n + (b - 48)) 0 t b

-- one more digit of a text behind another
pub number_more_behind : (s t : List ℕ) (i : ℕ) → i < length t → number (s ++ take (i + 1) t) ≡ 10 * number (s ++ take i t) + (get_or t i 0 - 48)
number_more_behind s t i h =
    ap number (ap (λ u. s ++ u) (take_more t i 0 h) ∙ sym (append_assoc s (take i t) (get_or t i 0 ∷ []))) ∙ number_push (s ++ take i t) (get_or t i 0)

-- What a source in memory gives of its bytes.
use Rattle.std.proofs.Common.{◌≡◌, ℕ, ◌+◌, ◌-◌, List, [], ◌++◌, length, take, drop, sym, ap, ◌∙◌, arith, length-drop}
use Rattle.std.proofs.lemmas.List.{take-append-drop, take_all, drop-drop}
use Rattle.std.proofs.Math.ListN.{drop_of_length-le}

-- all that is left, as a slice from this place gives it
rest_is : (bytes : List ℕ) (at : ℕ) → take (length bytes - at) (drop at bytes) ≡ drop at bytes
rest_is bytes at = take_all (length bytes - at) (drop at bytes) (omega (arith, length-drop at bytes))

-- What was left is what a read gave, and what is left then.
pub gives_front : (bytes piece : List ℕ) (at k : ℕ)
    → take k piece ≡ take k (take (length bytes - at) (drop at bytes)) → drop at bytes ≡ take k piece ++ drop (at + k) bytes
gives_front bytes piece at k e =
    sym (take-append-drop k (drop at bytes))
    ∙ ap (λ s. take k (drop at bytes) ++ s) (drop-drop k at bytes)
    ∙ ap (λ s. s ++ drop (at + k) bytes) (ap (take k) (sym (rest_is bytes at)) ∙ sym e)

-- A read that gave nothing where there is room has seen the end.
pub sees_end : (bytes : List ℕ) (at k : ℕ)
    → length (take (length bytes - at) (drop at bytes)) ≡ 0 → drop (at + k) bytes ≡ []
sees_end bytes at k e =
    let none : length (drop at bytes) ≡ 0 = ap length (sym (rest_is bytes at)) ∙ e in
    drop_of_length-le bytes (omega (arith, length-drop at bytes))

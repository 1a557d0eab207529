-- What stands at a place of a list, and what a write there changes.
use Rattle.std.proofs.Common.{◌≡◌, ◌≢◌, ℕ, zero, suc, ◌<◌, List, [], ◌∷◌, length, get_or, set, map, arith, ap, sym, ◌∙◌, refl, ⊎_elim, ◌⊎◌, inl, inr}
use Rattle.std.proofs.lemmas.Bool.{cases_eq}
use Rattle.std.proofs.lemmas.List.{get_or-map, get_or-set_other, get_or-set_same, get_or_default, length-map, length-set}
use Rattle.flip_finish.specs.Places.{IsAt}

-- something stands at each place
pub some_at : {X : Type 0} (xs : List X) (i : ℕ) → i < length xs → (x : X) × IsAt xs i x
some_at [] i l = absurd (omega arith)
some_at (x ∷ xs) zero l = (x, record { inside = l; is = refl })
some_at (x ∷ xs) (suc i) l = let (y, h) = some_at xs i (omega arith) in (y, record { inside = l; is = h.is })

-- and only one thing
pub IsAt-only : {X : Type 0} (xs : List X) (i : ℕ) (x y : X) → IsAt xs i x → IsAt xs i y → x ≡ y
IsAt-only xs i x y h k = sym h.is ∙ (get_or_default xs i x y h.inside ∙ k.is)

pub IsAt-set_here : {X : Type 0} (xs : List X) (i : ℕ) (x : X) → i < length xs → IsAt (set xs i x) i x
IsAt-set_here xs i x l = record { inside = omega (arith, length-set xs i x); is = get_or-set_same xs i x x l }

pub IsAt-set_other : {X : Type 0} (xs : List X) (i k : ℕ) (x y : X) → k ≢ i → IsAt xs k y → IsAt (set xs i x) k y
IsAt-set_other xs i k x y ne h =
    record { inside = omega (arith, length-set xs i x, h.inside); is = get_or-set_other xs i k x y ne ∙ h.is }

-- after a write there stands what was written, and elsewhere what stood there
pub IsAt-set : {X : Type 0} (xs : List X) (i k : ℕ) (x y : X) → IsAt (set xs i x) k y → ((k ≡ i) × (y ≡ x)) ⊎ ((k ≢ i) × IsAt xs k y)
IsAt-set xs i k x y h =
    let in_old : k < length xs = omega (arith, length-set xs i x, h.inside) in
    ⊎_elim
    (λ e. inl (e, sym h.is ∙ (ap (λ n. get_or (set xs i x) n y) e ∙ get_or-set_same xs i x y (omega arith))))
    (λ ne. inr (ne, record { inside = in_old; is = sym (get_or-set_other xs i k x y ne) ∙ h.is }))
    (cases_eq k i)

pub IsAt-map : {X Y : Type 0} (f : X → Y) (xs : List X) (i : ℕ) (x : X) → IsAt xs i x → IsAt (map f xs) i (f x)
IsAt-map f xs i x h =
    record { inside = omega (arith, length-map xs f, h.inside); is = get_or-map f xs i x (f x) h.inside ∙ ap f h.is }

-- what stands in a mapped list is mapped
pub IsAt-unmap : {X Y : Type 0} (f : X → Y) (xs : List X) (i : ℕ) (y : Y) → IsAt (map f xs) i y → (x : X) × IsAt xs i x × (f x ≡ y)
IsAt-unmap f xs i y h =
    let (x, at_i) = some_at xs i (omega (arith, length-map xs f, h.inside)) in
    (x, at_i, IsAt-only (map f xs) i (f x) y (IsAt-map f xs i x at_i) h)

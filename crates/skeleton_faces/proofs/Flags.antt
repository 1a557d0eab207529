-- Flags that fall, and what flags choose.
use Rattle.std.proofs.Common.{◌≡◌, ℕ, zero, suc, ◌+◌, ◌<◌, ◌≤◌, Bool, true, false, List, [], ◌∷◌, ◌++◌, length, get_or, set, take, refl, ap, sym, add-one, arith}
use Rattle.std.proofs.lemmas.Bool.{false≢true}
use Rattle.std.specs.List.{items_where_true}

-- a flag that falls is down
pub is_down : (flags : List Bool) (i : ℕ) → get_or (set flags i false) i false ≡ false
is_down [] i = refl
is_down (b ∷ bs) zero = refl
is_down (b ∷ bs) (suc i) = is_down bs i

module _ {X : Type 0} where
  -- what is chosen from nothing
  pub items_where_true-none : (flags : List Bool) → items_where_true {X = X} flags [] ≡ []
  items_where_true-none [] = refl
  items_where_true-none (b ∷ bs) = refl

  -- no more are chosen than there are
  pub length-items_where_true : (flags : List Bool) (xs : List X) → length (items_where_true flags xs) ≤ length xs
  length-items_where_true [] xs = omega arith
  length-items_where_true (b ∷ bs) [] = omega arith
  length-items_where_true (true ∷ bs) (x ∷ xs) = let h = length-items_where_true bs xs in omega arith
  length-items_where_true (false ∷ bs) (x ∷ xs) = let h = length-items_where_true bs xs in omega arith

  -- one item more, with its flag up
  pub items_where_true-take_up : (flags : List Bool) (xs : List X) (k : ℕ) (d : X) → k < length xs → get_or flags k false ≡ true
      → items_where_true flags (take (k + 1) xs) ≡ items_where_true flags (take k xs) ++ get_or xs k d ∷ []
  items_where_true-take_up flags xs k d k_in h = rw (add-one) (at flags xs k k_in h)
    where
      at : (bs : List Bool) (ys : List X) (j : ℕ) → j < length ys → get_or bs j false ≡ true → items_where_true bs (take (suc j) ys) ≡ items_where_true bs (take j ys) ++ get_or ys j d ∷ []
      at [] ys j l e = absurd (false≢true e)
      at (b ∷ bs) [] j l e = absurd (omega arith)
      at (true ∷ bs) (y ∷ ys) zero l e = ap (λ zs. y ∷ zs) (items_where_true-none bs)
      at (false ∷ bs) (y ∷ ys) zero l e = absurd (false≢true e)
      at (true ∷ bs) (y ∷ ys) (suc j) l e = ap (λ zs. y ∷ zs) (at bs ys j (omega arith) e)
      at (false ∷ bs) (y ∷ ys) (suc j) l e = at bs ys j (omega arith) e

  -- and with its flag down
  pub items_where_true-take_down : (flags : List Bool) (xs : List X) (k : ℕ) → get_or flags k false ≡ false
      → items_where_true flags (take (k + 1) xs) ≡ items_where_true flags (take k xs)
  items_where_true-take_down flags xs k h = rw (add-one) (at flags xs k h)
    where
      at : (bs : List Bool) (ys : List X) (j : ℕ) → get_or bs j false ≡ false → items_where_true bs (take (suc j) ys) ≡ items_where_true bs (take j ys)
      at [] ys j e = refl
      at (b ∷ bs) [] zero e = refl
      at (b ∷ bs) [] (suc j) e = refl
      at (true ∷ bs) (y ∷ ys) zero e = absurd (false≢true (sym e))
      at (false ∷ bs) (y ∷ ys) zero e = items_where_true-none bs
      at (true ∷ bs) (y ∷ ys) (suc j) e = ap (λ zs. y ∷ zs) (at bs ys j e)
      at (false ∷ bs) (y ∷ ys) (suc j) e = at bs ys j e

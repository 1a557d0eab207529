-- Rows that threads made, one for each number of a range.
use Rattle.std.proofs.Common.{◌≡◌, ℕ, zero, suc, ◌+◌, ◌-◌, ◌<◌, ◌≤◌, Result, Ok, Err, IfOk, MatchResult, Vec, Global, List, [], ◌∷◌, ◌++◌, length, get_or, map, Contains, refl, ap, sym, subst, arith}
use Rattle.std.specs.List.{AllZip, range_with_len}
use Rattle.point_grid.specs.Listing.{IsListing, AreRows}
use Rattle.point_grid.proofs.Listings.{listing_next_row}

-- one more in front
at_front : {X : Type 0} (P : ℕ → X → Type 0) (a : ℕ) (y : X) (ys : List X) → P a y → ((k : ℕ) (d : X) → k < length ys → P (a + 1 + k) (get_or ys k d)) → (k : ℕ) (d : X) → k < suc (length ys) → P (a + k) (get_or (y ∷ ys) k d)
at_front P a y ys first rest zero d l = let e : a ≡ a + 0 = omega arith in subst (λ (b : ℕ). P b y) e first
at_front P a y ys first rest (suc k) d l = let e : a + 1 + k ≡ a + suc k = omega arith in subst (λ (b : ℕ). P b (get_or ys k d)) e (rest k d (omega arith))

-- a list of successes, made from the numbers of a range one by one
zipped : {X : Type 0} (E : Type 0) (P : ℕ → X → Type 0) (a m : ℕ) (ys : List X) → AllZip (λ b (u : Result X E). IfOk u (P b)) (range_with_len a m) (map Ok ys) → (length ys ≡ m) × ((k : ℕ) (d : X) → k < length ys → P (a + k) (get_or ys k d))
zipped E P a zero [] h = (refl, λ k d l. absurd (omega arith))
zipped E P a zero (y ∷ ys) h = absurd h
zipped E P a (suc m) [] h = absurd h
zipped E P a (suc m) (y ∷ ys) h = let rest = zipped E P (a + 1) m ys h.1 in (ap suc rest.0, at_front P a y ys h.0 rest.1)

module _ (X : Type 0) (Before : X → X → Type 0) (K : X → Type 0) (first : X → ℕ) where
  -- what threads made of a range of first numbers
  pub rows_made : (E : Type 0) (a n : ℕ) (us : List (Result (Vec X Global) E)) (r : Result (Vec (Vec X Global) Global) E) → a ≤ n
      → AllZip (λ b u. IfOk u (λ row. IsListing Before K (λ x. first x ≡ b) row.items)) (range_with_len a (n - a)) us
      → MatchResult r (λ c. (ys : List (Vec X Global)) × (us ≡ map Ok ys) × (c.items ≡ ys)) (λ e. Contains us (Err e)) → IfOk r (λ rows. AreRows Before K first a n rows.items)
  rows_made E a n us (Err e) l zip h = tt
  rows_made E a n us (Ok rows) l zip (ys, all, is) =
      let made = zipped E (λ b row. IsListing Before K (λ x. first x ≡ b) row.items) a (n - a) ys (rw all at zip) in
      let count = made.0 in
      rw is (record { count = omega arith; each = made.1 })

  -- the row at a place comes after all before
  pub row_appended : (a n : ℕ) (rows : List (Vec X Global)) (i : ℕ) (row : Vec X Global) (xs ys : List X) → ((x y : X) → first x < first y → Before x y) → AreRows Before K first a n rows → i < length rows → row ≡ get_or rows i row → ys ≡ row.items
      → IsListing Before K (λ x. first x < a + i) xs → IsListing Before K (λ x. first x < a + (i + 1)) (xs ++ ys)
  row_appended a n rows i row xs ys last r i_in at is h =
      let one : IsListing Before K (λ x. first x ≡ a + i) row.items = subst (λ (v : Vec X Global). IsListing Before K (λ x. first x ≡ a + i) v.items) (sym at) (r.each i row i_in) in
      let e : a + i + 1 ≡ a + (i + 1) = omega arith in
      subst (λ (b : ℕ). IsListing Before K (λ x. first x < b) (xs ++ ys)) e (listing_next_row X Before K first (a + i) xs ys last h (rw is one))

-- Sums of integers over lists.
use Rattle.std.proofs.Common.{◌≡◌, ℕ, List, [], ◌∷◌, ◌++◌, map, fold, sum_by, Contains, ℤ, pos, ◌+ℤ◌, ◌≤ℤ◌, arith, refl, ap, ⊎_elim}
use Rattle.std.proofs.lemmas.Int.{ints}
use Rattle.std.proofs.lemmas.List.Sums.{sum_by-cons}
use Rattle.lmt_network.specs.Prices.{int_sum_by}
use Rattle.lmt_network.proofs.Picked.{Contains-cases, Contains-here, Contains-later, Contains-nil}

module _ {X : Type 0} where
  int_sum_by-from : (f : X → ℤ) (a : ℤ) (xs : List X) → fold (λ s x. s +ℤ f x) a xs ≡ a +ℤ int_sum_by f xs
  int_sum_by-from f a [] = omega (arith, ints)
  int_sum_by-from f a (x ∷ xs) =
      omega (arith, ints, int_sum_by-from f (a +ℤ f x) xs, int_sum_by-from f (pos 0 +ℤ f x) xs)

  pub int_sum_by-cons : (f : X → ℤ) (x : X) (xs : List X) → int_sum_by f (x ∷ xs) ≡ f x +ℤ int_sum_by f xs
  int_sum_by-cons f x xs = omega (arith, ints, int_sum_by-from f (pos 0 +ℤ f x) xs)

  pub int_sum_by-append : (f : X → ℤ) (xs ys : List X) → int_sum_by f (xs ++ ys) ≡ int_sum_by f xs +ℤ int_sum_by f ys
  int_sum_by-append f [] ys = omega (arith, ints)
  int_sum_by-append f (x ∷ xs) ys =
      omega (arith, ints, int_sum_by-append f xs ys, int_sum_by-cons f x xs, int_sum_by-cons f x (xs ++ ys))

  -- measures that agree on each member
  pub int_sum_by-same : (f g : X → ℤ) (xs : List X) → ((x : X) → Contains xs x → f x ≡ g x) → int_sum_by f xs ≡ int_sum_by g xs
  int_sum_by-same f g [] same = refl
  int_sum_by-same f g (x ∷ xs) same =
      omega (
        arith,
        ints,
        int_sum_by-cons f x xs,
        int_sum_by-cons g x xs,
        same x (Contains-here x xs),
        int_sum_by-same f g xs (λ y h. same y (Contains-later x y xs h)),
      )

  -- two measures together
  pub int_sum_by-plus : (f g : X → ℤ) (xs : List X) → int_sum_by (λ x. f x +ℤ g x) xs ≡ int_sum_by f xs +ℤ int_sum_by g xs
  int_sum_by-plus f g [] = refl
  int_sum_by-plus f g (x ∷ xs) =
      omega (
        arith,
        ints,
        int_sum_by-cons (λ y. f y +ℤ g y) x xs,
        int_sum_by-cons f x xs,
        int_sum_by-cons g x xs,
        int_sum_by-plus f g xs,
      )

  -- a sum of naturals
  pub int_sum_by-pos : (f : X → ℕ) (xs : List X) → int_sum_by (λ x. pos (f x)) xs ≡ pos (sum_by f xs)
  int_sum_by-pos f [] = refl
  int_sum_by-pos f (x ∷ xs) =
      omega (arith, ints, int_sum_by-cons (λ y. pos (f y)) x xs, sum_by-cons f x xs, int_sum_by-pos f xs)

  -- a sum of what is not negative
  pub int_sum_by-not_negative : (f : X → ℤ) (xs : List X) → ((x : X) → Contains xs x → pos 0 ≤ℤ f x) → pos 0 ≤ℤ int_sum_by f xs
  int_sum_by-not_negative f [] h = omega (arith, ints)
  int_sum_by-not_negative f (x ∷ xs) h =
      omega (
        arith,
        ints,
        int_sum_by-cons f x xs,
        h x (Contains-here x xs),
        int_sum_by-not_negative f xs (λ y m. h y (Contains-later x y xs m)),
      )

  -- what stands before and after a member
  pub around : (xs : List X) (x : X) → Contains xs x → (front : List X) × (back : List X) × (xs ≡ front ++ x ∷ back)
  around [] x h = absurd (Contains-nil x h)
  around (y ∷ ys) x h =
      ⊎_elim
      (λ (e : y ≡ x). ([], ys, ap (λ z. z ∷ ys) e))
      (λ (later : Contains ys x). let r = around ys x later in (y ∷ r.0, r.1, ap (λ zs. y ∷ zs) r.2))
      (Contains-cases y x ys h)

pub int_sum_by-map : {X Y : Type 0} (f : Y → ℤ) (g : X → Y) (xs : List X) → int_sum_by f (map g xs) ≡ int_sum_by (λ x. f (g x)) xs
int_sum_by-map f g [] = refl
int_sum_by-map f g (x ∷ xs) =
    omega (arith, ints, int_sum_by-cons f (g x) (map g xs), int_sum_by-cons (λ y. f (g y)) x xs, int_sum_by-map f g xs)

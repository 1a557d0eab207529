-- Facts on lists of any elements: pairs, filters, and tests of every element.
use Rattle.std.proofs.Common.{◌≡◌, ℕ, suc, ◌<◌, ◌≤◌, Bool, true, false, ◌&&◌, ◌||◌, cond, Decides, List, [], ◌∷◌, ◌++◌, length, get_or, filter, All, AllPairs, IsPermutation, refl, ap, ◌∙◌, arith}
use Rattle.std.specs.List.{list_all, list_any}
use Rattle.std.proofs.lemmas.Bool.{cond-true, cond-false}
use Rattle.std.proofs.lemmas.Bool.Decides.{Decides-by_and}
use Rattle.std.proofs.lemmas.Map.Keys.{apart_from_distinct, IsDistinct-IsPermutation, IsDistinct-from_apart}
use Rattle.std.proofs.lemmas.List.Folds.{list_any-append}
use Rattle.std.proofs.lemmas.List.Elements.{All-head, All-tail, All-cons}

-- the first element, and each later one
pub AllPairs-head : {X : Type 0} (R : X → X → Type 0) (x : X) (xs : List X) → AllPairs R (x ∷ xs) → All (R x) xs
AllPairs-head R x xs h = λ k d l. h 0 (suc k) d (omega arith) (omega arith)

-- each two elements after the first
pub AllPairs-tail : {X : Type 0} (R : X → X → Type 0) (x : X) (xs : List X) → AllPairs R (x ∷ xs) → AllPairs R xs
AllPairs-tail R x xs h = λ i j d l k. h (suc i) (suc j) d (omega arith) (omega arith)

-- a filter that every element passes
pub filter-all : {X : Type 0} (p : X → Bool) (xs : List X) → All (λ x. p x ≡ true) xs → filter p xs ≡ xs
filter-all p [] h = refl
filter-all p (x ∷ xs) h =
    cond-true (p x) (x ∷ filter p xs) (filter p xs) (All-head (λ y. p y ≡ true) x xs h)
    ∙ ap (λ ys. x ∷ ys) (filter-all p xs (All-tail (λ y. p y ≡ true) x xs h))

-- a filter keeps at most as many as there are
pub length-filter-le : {X : Type 0} (p : X → Bool) (xs : List X) → length (filter p xs) ≤ length xs
length-filter-le p [] = omega arith
length-filter-le p (x ∷ xs) = at (p x) (length-filter-le p xs)
  where
    at : (b : Bool) → length (filter p xs) ≤ length xs → length (cond b (x ∷ filter p xs) (filter p xs)) ≤ suc (length xs)
    at true h = omega arith
    at false h = omega arith

-- a test of every element, where the test decides P
pub Decides-list_all : {X : Type 0} (p : X → Bool) (P : X → Type 0) → ((x : X) → Decides (p x) (P x)) → (xs : List X) → Decides (list_all p xs) (All P xs)
Decides-list_all p P each xs = Decides-by_and p P (list_all p) each refl (λ _ _. refl) xs

-- where a test of every element fails
pub list_all-fails : {X : Type 0} (p : X → Bool) (xs : List X) → list_all p xs ≡ false → (k : ℕ) × (k < length xs) × ((d : X) → p (get_or xs k d) ≡ false)
list_all-fails p [] h = absurd (cc)
list_all-fails {X} p (x ∷ xs) h = at (p x) refl h (list_all-fails p xs)
  where
    at : (b : Bool) → p x ≡ b → (b && list_all p xs) ≡ false → (list_all p xs ≡ false → (k : ℕ) × (k < length xs) × ((d : X) → p (get_or xs k d) ≡ false))
        → (k : ℕ) × (k < length (x ∷ xs)) × ((d : X) → p (get_or (x ∷ xs) k d) ≡ false)
    at true e f rest = let r = rest f in (suc r.0, omega (arith, r.1), λ d. r.2 d)
    at false e f rest = (0, omega arith, λ d. e)

-- a filter of a filter, where the third test is both
pub filter-filter : {X : Type 0} (p q r : X → Bool) → ((x : X) → r x ≡ (p x && q x)) → (xs : List X) → filter p (filter q xs) ≡ filter r xs
filter-filter p q r both [] = refl
filter-filter {X} p q r both (x ∷ xs) = at (p x) (q x) (r x) refl (both x) (filter-filter p q r both xs)
  where
    at : (a b t : Bool) → p x ≡ a → t ≡ (a && b) → filter p (filter q xs) ≡ filter r xs → filter p (cond b (x ∷ filter q xs) (filter q xs)) ≡ cond t (x ∷ filter r xs) (filter r xs)
    at true true t e f rest = rw f (cond-true (p x) (x ∷ filter p (filter q xs)) (filter p (filter q xs)) e ∙ ap (λ ys. x ∷ ys) rest)
    at false true t e f rest = rw f (cond-false (p x) (x ∷ filter p (filter q xs)) (filter p (filter q xs)) e ∙ rest)
    at true false t e f rest = rw f rest
    at false false t e f rest = rw f rest

-- elements that a test tells apart stay so when they change places
pub AllPairs-IsPermutation : {X : Type 0} (e : X → X → Bool) → ((x y : X) → e x y ≡ e y x) → (xs ys : List X) → IsPermutation xs ys → AllPairs (λ x y. e x y ≡ false) xs → AllPairs (λ x y. e x y ≡ false) ys
AllPairs-IsPermutation e flips xs ys moved h = λ i j d l k. apart_from_distinct e ys i j d (IsDistinct-IsPermutation e flips xs ys moved (IsDistinct-from_apart e xs h)) l k

-- whether some element passes, with one more
pub list_any-push : {X : Type 0} (test : X → Bool) (xs : List X) (x : X) → list_any test (xs ++ x ∷ []) ≡ cond (test x) true (list_any test xs)
list_any-push test xs x = list_any-append test xs (x ∷ []) ∙ at (test x) (list_any test xs)
  where
    at : (a b : Bool) → (b || (a || false)) ≡ cond a true b
    at true true = refl
    at true false = refl
    at false true = refl
    at false false = refl

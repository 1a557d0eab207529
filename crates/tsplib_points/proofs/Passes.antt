-- One more line after those of a pass.
use Rattle.std.proofs.Common.{◌≡◌, ℕ, suc, ◌+◌, Bool, true, false, ◌||◌, List, [], ◌∷◌, ◌++◌, take, drop, Option, Some, None, inl, inr, refl, sym, ap, ◌∙◌, arith, find}
use Rattle.std.specs.List.{AllZip, list_any, position_or_len, after_first, before_first}
use Rattle.std.specs.Option.{option_or}
use Rattle.std.proofs.lemmas.Bool.{cases_Bool, or_right}
use Rattle.std.proofs.lemmas.List.Folds.{list_any-append, find-append}
use Rattle.tsplib_points.proofs.Pieces.{one_suc}

-- before and after the first that passes, where the list begins with it and where it does not
before_yes : {X : Type 0} (p : X → Bool) (y : X) (ys : List X) → p y ≡ true → before_first p (y ∷ ys) ≡ []
before_yes p y ys e = rw e refl

before_no : {X : Type 0} (p : X → Bool) (y : X) (ys : List X) → p y ≡ false → before_first p (y ∷ ys) ≡ y ∷ before_first p ys
before_no p y ys e = rw e (ap (λ k. take k (y ∷ ys)) (one_suc (position_or_len p ys)))

after_yes : {X : Type 0} (p : X → Bool) (y : X) (ys : List X) → p y ≡ true → after_first p (y ∷ ys) ≡ ys
after_yes p y ys e = rw e refl

after_no : {X : Type 0} (p : X → Bool) (y : X) (ys : List X) → p y ≡ false → after_first p (y ∷ ys) ≡ after_first p ys
after_no p y ys e = rw e (shifts (position_or_len p ys)) where
  shifts : (n : ℕ) → drop (1 + n + 1) (y ∷ ys) ≡ drop (n + 1) ys
  shifts n = let s : 1 + n + 1 ≡ suc (n + 1) = omega arith in ap (λ k. drop k (y ∷ ys)) s

-- nothing is added to a test by one that fails
pub or_false : (b : Bool) → (b || false) ≡ b
or_false true = refl
or_false false = refl

-- where none passes
pub before_none : {X : Type 0} (p : X → Bool) (xs : List X) → list_any p xs ≡ false → before_first p xs ≡ xs
before_none p [] h = refl
before_none p (y ∷ ys) h = elim (cases_Bool (p y)) [
  | inl e ↦ absurd (let g = rw e at h in cc)
  | inr e ↦ before_no p y ys e ∙ ap (λ u. y ∷ u) (before_none p ys (rw e at h))
]

pub after_none : {X : Type 0} (p : X → Bool) (xs : List X) → list_any p xs ≡ false → after_first p xs ≡ []
after_none p [] h = refl
after_none p (y ∷ ys) h = elim (cases_Bool (p y)) [
  | inl e ↦ absurd (let g = rw e at h in cc)
  | inr e ↦ after_no p y ys e ∙ after_none p ys (rw e at h)
]

-- where one passes, what comes after changes nothing before it
pub before_some : {X : Type 0} (p : X → Bool) (xs ys : List X) → list_any p xs ≡ true → before_first p (xs ++ ys) ≡ before_first p xs
before_some p [] ys h = absurd (cc)
before_some p (x ∷ xs) ys h = elim (cases_Bool (p x)) [
  | inl e ↦ before_yes p x (xs ++ ys) e ∙ sym (before_yes p x xs e)
  | inr e ↦ before_no p x (xs ++ ys) e ∙ ap (λ u. x ∷ u) (before_some p xs ys (rw e at h)) ∙ sym (before_no p x xs e)
]

pub after_some : {X : Type 0} (p : X → Bool) (xs ys : List X) → list_any p xs ≡ true → after_first p (xs ++ ys) ≡ after_first p xs ++ ys
after_some p [] ys h = absurd (cc)
after_some p (x ∷ xs) ys h = elim (cases_Bool (p x)) [
  | inl e ↦ after_yes p x (xs ++ ys) e ∙ ap (λ u. u ++ ys) (sym (after_yes p x xs e))
  | inr e ↦ after_no p x (xs ++ ys) e ∙ after_some p xs ys (rw e at h) ∙ ap (λ u. u ++ ys) (sym (after_no p x xs e))
]

-- where the last one is the first that passes
pub before_last : {X : Type 0} (p : X → Bool) (xs : List X) (x : X) → list_any p xs ≡ false → p x ≡ true → before_first p (xs ++ x ∷ []) ≡ xs
before_last p [] x h e = before_yes p x [] e
before_last p (y ∷ ys) x h e = elim (cases_Bool (p y)) [
  | inl i ↦ absurd (let g = rw i at h in cc)
  | inr i ↦ before_no p y (ys ++ x ∷ []) i ∙ ap (λ u. y ∷ u) (before_last p ys x (rw i at h) e)
]

pub after_last : {X : Type 0} (p : X → Bool) (xs : List X) (x : X) → list_any p xs ≡ false → p x ≡ true → after_first p (xs ++ x ∷ []) ≡ []
after_last p [] x h e = after_yes p x [] e
after_last p (y ∷ ys) x h e = elim (cases_Bool (p y)) [
  | inl i ↦ absurd (let g = rw i at h in cc)
  | inr i ↦ after_no p y (ys ++ x ∷ []) i ∙ after_last p ys x (rw i at h) e
]

-- whether one passes, with one element more
pub any_push : {X : Type 0} (p : X → Bool) (xs : List X) (x : X) → list_any p (xs ++ x ∷ []) ≡ (list_any p xs || p x)
any_push p xs x = list_any-append p xs (x ∷ []) ∙ ap (λ b. list_any p xs || b) (or_false (p x))

pub any_push_no : {X : Type 0} (p : X → Bool) (xs : List X) (x : X) → p x ≡ false → list_any p (xs ++ x ∷ []) ≡ list_any p xs
any_push_no p xs x e = any_push p xs x ∙ ap (λ b. list_any p xs || b) e ∙ or_false (list_any p xs)

pub any_push_yes : {X : Type 0} (p : X → Bool) (xs : List X) (x : X) → p x ≡ true → list_any p (xs ++ x ∷ []) ≡ true
any_push_yes p xs x e = any_push p xs x ∙ ap (λ b. list_any p xs || b) e ∙ or_right (list_any p xs) true refl

-- the first that passes, with one element more
pub find_push_no : {X : Type 0} (p : X → Bool) (xs : List X) (x : X) → p x ≡ false → find p (xs ++ x ∷ []) ≡ find p xs
find_push_no p xs x e = find-append p xs (x ∷ []) ∙ rw e (or_none (find p xs)) where
  or_none : {X : Type 0} (o : Option X) → option_or o None ≡ o
  or_none None = refl
  or_none (Some y) = refl

pub find_push_yes : {X : Type 0} (p : X → Bool) (xs : List X) (x : X) → list_any p xs ≡ false → p x ≡ true → find p (xs ++ x ∷ []) ≡ Some x
find_push_yes p [] x h e = rw e refl
find_push_yes p (y ∷ ys) x h e = elim (cases_Bool (p y)) [
  | inl i ↦ absurd (let g = rw i at h in cc)
  | inr i ↦ rw i (find_push_yes p ys x (rw i at h) e)
]

-- two lists that agree place by place, each with one element more
pub all_zip_push : {X Y : Type 0} (R : X → Y → Type 0) (xs : List X) (ys : List Y) (x : X) (y : Y) → AllZip R xs ys → R x y → AllZip R (xs ++ x ∷ []) (ys ++ y ∷ [])
all_zip_push R [] [] x y h r = (r, tt)
all_zip_push R [] (v ∷ vs) x y h r = absurd h
all_zip_push R (u ∷ us) [] x y h r = absurd h
all_zip_push R (u ∷ us) (v ∷ vs) x y h r = (h.0, all_zip_push R us vs x y h.1 r)

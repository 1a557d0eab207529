-- Kinds of lines: what is read of one is spelled so, and what is spelled so is read.
use Rattle.std.proofs.Common.{◌≡◌, ◌⊎◌, ℕ, ◌<◌, Bool, true, false, cond, List, ◌∷◌, length, Result, Ok, Err, inl, inr, refl, ap, bytes_eq}
use Rattle.std.specs.List.{list_all}
use Rattle.std.proofs.lemmas.Slice.Eq.{bytes_eq-Decides}
use Rattle.cert_text.specs.declared.found.Flaw.TheVariants.{NotSpelled, Outside}
use Rattle.cert_text.specs.Found.{◌>>=◌, Found, both}
use Rattle.cert_text.proofs.Cutting.{is_plain}
use Rattle.cert_text.proofs.Shapes.{value_is}

-- lines of this kind say the values that are In, each spelled in one way
pub record IsKind {X : Type 0} (says : List (List ℕ) → Found X) (spell : X → List (List ℕ)) (In : X → Type 0) : Type 0 where
  pub takes : (fs : List (List ℕ)) (x : X) → says fs ≡ Ok x → (fs ≡ spell x) × In x
  pub found : (x : X) → In x → says (spell x) ≡ Ok x
  pub plain : (x : X) → In x → list_all is_plain (spell x) ≡ true
  pub some : (x : X) → 0 < length (spell x)

-- values that are found in two places
pub both_ok : {A B : Type 0} (a : Found A) (b : Found B) (v : A × B) → both a b ≡ Ok v → (a ≡ Ok v.0) × (b ≡ Ok v.1)
both_ok (Err NotSpelled) b v e = absurd cc
both_ok (Err Outside) (Err g) v e = absurd cc
both_ok (Err Outside) (Ok y) v e = absurd cc
both_ok (Ok x) (Err g) v e = absurd cc
both_ok {A = A} {B = B} (Ok x) (Ok y) v e =
    let same = value_is (x, y) v e in (ap (λ (w : A × B). Ok w.0) same, ap (λ (w : A × B). Ok w.1) same)

-- a value that is made of another
pub bind_ok : {A B E : Type 0} (r : Result A E) (f : A → Result B E) (y : B) → (r >>= f) ≡ Ok y → (x : A) × (r ≡ Ok x) × (f x ≡ Ok y)
bind_ok (Ok x) f y e = (x, refl, e)
bind_ok (Err d) f y e = absurd cc

-- which way a test went
pub chosen : {A : Type 0} (b : Bool) (x y z : A) → cond b x y ≡ z → ((b ≡ true) × (x ≡ z)) ⊎ ((b ≡ false) × (y ≡ z))
chosen true x y z e = inl (refl, e)
chosen false x y z e = inr (refl, e)

-- what is found after a test
pub tested : {A : Type 0} (b : Bool) (f : Found A) (y : A) → cond b f (Err NotSpelled) ≡ Ok y → (b ≡ true) × (f ≡ Ok y)
tested true f y e = (refl, e)
tested false f y e = absurd cc

-- a word is known by its bytes
pub word_is : (w k : List ℕ) → bytes_eq w k ≡ true → w ≡ k
word_is w k e = (bytes_eq-Decides w k).0 e

pub word_same : (k : List ℕ) → bytes_eq k k ≡ true
word_same k = (bytes_eq-Decides k k).1 refl

-- lists of fields that are the same
infixr 20 ◌∷≡◌
pub ◌∷≡◌ : {f g : List ℕ} {fs gs : List (List ℕ)} → f ≡ g → fs ≡ gs → f ∷ fs ≡ g ∷ gs
p ∷≡ q = cc

-- Equations between integer polynomials. Each integer is the difference of two natural parts, so that linear arithmetic decides them.
use Rattle.std.proofs.Common.{ℕ, zero, suc, ℤ, pos, ◌+◌, ◌*◌, ◌+ℤ◌, ◌-ℤ◌, ◌*ℤ◌, ◌≡◌, arith, ap, List, [], ◌∷◌}
use Rattle.std.proofs.lemmas.Int.{ints}
use borrow.Author.Differences.{up, down, same_in}
use Rattle.exact_predicates.proofs.Products.{product_parts}

-- a polynomial over the integers of a list
pub data Term : Type 0 where
  var : ℕ → Term
  num : ℤ → Term
  plus : Term → Term → Term
  less : Term → Term → Term
  times : Term → Term → Term

abbrev pub at : List ℤ → ℕ → ℤ
at [] k = pos 0
at (x ∷ xs) zero = x
at (x ∷ xs) (suc k) = at xs k

-- what a polynomial is at these integers
abbrev pub value : List ℤ → Term → ℤ
value e (var k) = at e k
value e (num z) = z
value e (plus s t) = value e s +ℤ value e t
value e (less s t) = value e s -ℤ value e t
value e (times s t) = value e s *ℤ value e t

-- two natural numbers whose difference the value is
abbrev mutual
  pub ups : List ℤ → Term → ℕ
  ups e (var k) = up (at e k)
  ups e (num z) = up z
  ups e (plus s t) = ups e s + ups e t
  ups e (less s t) = ups e s + downs e t
  ups e (times s t) = ups e s * ups e t + downs e s * downs e t

  pub downs : List ℤ → Term → ℕ
  downs e (var k) = down (at e k)
  downs e (num z) = down z
  downs e (plus s t) = downs e s + downs e t
  downs e (less s t) = downs e s + ups e t
  downs e (times s t) = ups e s * downs e t + downs e s * ups e t

-- the parts of a product, from any parts of its factors
product_of : (a b : ℤ) (p q r s : ℕ) → up a + q ≡ down a + p → up b + s ≡ down b + r → up (a *ℤ b) + (p * s + q * r) ≡ down (a *ℤ b) + (p * r + q * s)
product_of a b p q r s f g =
    omega (arith, product_parts a b, ap (λ x. x * up b) f, ap (λ x. x * down b) f, ap (λ x. p * x) g, ap (λ x. q * x) g)

-- the two parts do make the value
sound : (e : List ℤ) (t : Term) → up (value e t) + downs e t ≡ down (value e t) + ups e t
sound e (var k) = omega arith
sound e (num z) = omega arith
sound e (plus s t) = omega (arith, ints, sound e s, sound e t)
sound e (less s t) = omega (arith, ints, sound e s, sound e t)
sound e (times s t) = product_of (value e s) (value e t) (ups e s) (downs e s) (ups e t) (downs e t) (sound e s) (sound e t)

-- two polynomials are equal at these integers where their parts are
pub ring : (e : List ℤ) (s t : Term) → ups e s + downs e t ≡ ups e t + downs e s → value e s ≡ value e t
ring e s t h = same_in (value e s) (value e t) (omega (arith, sound e s, sound e t))

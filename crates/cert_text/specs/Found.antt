-- What is found in the place of a field or a line.
use Rattle.std.specs.Prelude.{Result, Ok, Err}
use Rattle.cert_text.specs.declared.found.Flaw.{Flaw}
use Rattle.cert_text.specs.declared.found.Flaw.TheVariants.{NotSpelled, Outside}

-- a value, or what is wrong
abbrev pub Found : Type 0 → Type 0
Found A = Result A Flaw

-- what is made of a value, if there is one
infixl 10 ◌>>=◌
abbrev pub ◌>>=◌ : {A B E : Type 0} → Result A E → (A → Result B E) → Result B E
(Ok x) >>= f = f x
(Err e) >>= f = Err e

-- what is found in two places: a wrong spelling in any comes before a range
abbrev pub both : {A B : Type 0} → Found A → Found B → Found (A × B)
both (Ok a) (Ok b) = Ok (a, b)
both (Ok a) (Err g) = Err g
both (Err NotSpelled) y = Err NotSpelled
both (Err Outside) (Ok b) = Err Outside
both (Err Outside) (Err g) = Err g

-- What is read of a text is a number exactly where it is an amount in range.
use Rattle.std.proofs.Common.{◌≡◌, ◌↔◌, ℕ, ℤ, ◌<◌, ◌≤◌, Bool, true, false, not, leb, cond, List, unsigned_abs, sym, ap, ◌∙◌, refl}
use Rattle.std.proofs.lemmas.Bool.{leb-true, leb-false, le-leb, lt-leb}
use Rattle.mwt_base.specs.Limits.{most_amount}
use Rattle.length_enclosure.specs.declared.units.Units.{Units}
use Rattle.length_enclosure.specs.declared.units.Units.TheVariants.{Value, Outside, NoAmount}
use Rattle.length_enclosure.specs.Amount.{amount, is_amount, amount_in}
use Rattle.length_enclosure.specs.Units.{units_in}
use Rattle.length_enclosure.proofs.Amounts.{amount_spelled, amount_again}

-- a choice of what is read, by its two tests
abbrev choice : Bool → Bool → ℤ → Units
choice fits low n = cond (not fits) NoAmount (cond low (Value n) Outside)

choice_value : (fits low : Bool) (n m : ℤ) → choice fits low n ≡ Value m → (fits ≡ true) × (low ≡ true) × (n ≡ m)
choice_value true true n m e = (refl, refl, cc)
choice_value true false n m e = absurd cc
choice_value false low n m e = absurd cc

choice_none : (fits low : Bool) (n : ℤ) → (choice fits low n ≡ NoAmount) ↔ (fits ≡ false)
choice_none true true n = (λ e. absurd cc, λ e. absurd cc)
choice_none true false n = (λ e. absurd cc, λ e. absurd cc)
choice_none false low n = (λ e. refl, λ e. refl)

choice_outside : (fits low : Bool) (n : ℤ) → (choice fits low n ≡ Outside) ↔ ((fits ≡ true) × (low ≡ false))
choice_outside true true n = (λ e. absurd cc, λ e. absurd (let l = e.1 in cc))
choice_outside true false n = (λ e. (refl, refl), λ e. refl)
choice_outside false low n = (λ e. absurd cc, λ e. absurd (let l = e.0 in cc))

pub units_value : (t : List ℕ) (n : ℤ) → (units_in t ≡ Value n) ↔ ((unsigned_abs n ≤ most_amount) × (t ≡ amount n))
unfolding units_in
units_value t n = (
  λ e.
      let p = choice_value _ _ _ _ e in
      let low = leb-true _ _ p.1 in
      (rw p.2 at low, sym (amount_spelled t p.0 low) ∙ ap amount p.2),
  λ h.
      let again = amount_again n h.0 in
      rw (h.1, again.0, again.1, le-leb _ _ h.0) refl,
)

pub units_none : (t : List ℕ) → (units_in t ≡ NoAmount) ↔ (is_amount t ≡ false)
unfolding units_in
units_none t = choice_none (is_amount t) _ (amount_in t)

pub units_outside : (t : List ℕ) → (units_in t ≡ Outside) ↔ ((is_amount t ≡ true) × (most_amount < unsigned_abs (amount_in t)))
unfolding units_in
units_outside t =
    let both = choice_outside (is_amount t) (leb (unsigned_abs (amount_in t)) most_amount) (amount_in t) in (
      λ e. let p = both.0 e in (p.0, leb-false _ _ p.1),
      λ h. both.1 (h.0, lt-leb _ _ h.1),
    )

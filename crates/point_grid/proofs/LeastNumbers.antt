-- The least number of a kind, put together from parts.
use Rattle.std.proofs.Common.{◌≡◌, ◌⊎◌, ℕ, ◌<◌, min, Option, Some, None, inl, inr, ⊎_elim, arith, subst}
use Rattle.std.proofs.lemmas.Bool.{cases_lt}
use Rattle.point_grid.specs.First.{IsFirst, lesser_of}

-- another way to say which numbers are meant
pub IsFirst-same : (n : ℕ) (P Q : ℕ → Type 0) (a : Option ℕ) → ((r : ℕ) → r < n → P r → Q r) → ((r : ℕ) → r < n → Q r → P r) → IsFirst n P a → IsFirst n Q a
IsFirst-same n P Q None there back h = λ r l q. h r l (back r l q)
IsFirst-same n P Q (Some i) there back h =
    let i_in = h.within in
    record { within = h.within; holds = there i h.within h.holds; least = λ j l q. h.least j l (back j (omega arith) q) }

-- of two kinds
pub IsFirst-either : (n : ℕ) (P Q : ℕ → Type 0) (a b : Option ℕ) → IsFirst n P a → IsFirst n Q b → IsFirst n (λ r. P r ⊎ Q r) (lesser_of a b)
IsFirst-either n P Q None None h k = λ r l. ⊎_elim (h r l) (k r l)
IsFirst-either n P Q None (Some j) h k =
    let j_in = k.within in
    record { within = k.within; holds = inr k.holds; least = λ r l. ⊎_elim (h r (omega arith)) (k.least r l) }
IsFirst-either n P Q (Some i) None h k =
    let i_in = h.within in
    record { within = h.within; holds = inl h.holds; least = λ r l. ⊎_elim (h.least r l) (k r (omega arith)) }
IsFirst-either n P Q (Some i) (Some j) h k =
    let i_in = h.within in
    let j_in = k.within in
    record {
      within = omega arith;
      holds = ⊎_elim
          (λ l. let e : i ≡ min i j = omega arith in subst (λ (r : ℕ). P r ⊎ Q r) e (inl h.holds))
          (λ l. let e : j ≡ min i j = omega arith in subst (λ (r : ℕ). P r ⊎ Q r) e (inr k.holds))
          (cases_lt i j);
      least = λ r l. ⊎_elim (h.least r (omega arith)) (k.least r (omega arith));
    }

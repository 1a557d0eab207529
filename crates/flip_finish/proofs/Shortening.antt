-- Rows of shortening flips, and what holds when none is left.
use Rattle.std.proofs.Common.{◌≡◌, ℕ, ◌+◌, ◌<◌, ◌≤◌, Bool, true, false, List, sum_by, All, arith, refl, ◌∙◌, subst, ⊎_elim}
use Rattle.std.proofs.lemmas.Bool.{cases_lt}
use Rattle.std.specs.Bool.{OnFalse, OnTrue}
use Rattle.exact_predicates.specs.declared.point.Point.{Point}
use Rattle.exact_predicates.specs.Triangulation.{edges}
use Rattle.exact_predicates.proofs.Flips.{IsNotLonger-refl, IsNotLonger-trans}
use Rattle.flip_finish.specs.Flipping.{IsShortened, Shortens, slot_d2}
use Rattle.flip_finish.specs.Mesh.{IsWhole, IsWithin, Parts}

pub IsShortened-refl : (ps : List Point) (m : Parts) → IsShortened ps m m
IsShortened-refl ps m =
    record {
      slots = refl;
      within = λ h. h;
      kept = λ hull h k. k;
      not_longer = λ hull h k. IsNotLonger-refl ps (edges hull m.tris);
    }

pub IsShortened-trans : (ps : List Point) (l m n : Parts) → IsShortened ps l m → IsShortened ps m n → IsShortened ps l n
IsShortened-trans ps l m n h k =
    record {
      slots = k.slots ∙ h.slots;
      within = λ w. k.within (h.within w);
      kept = λ hull o t. k.kept hull o (h.kept hull o t);
      not_longer = λ hull o t. IsNotLonger-trans ps (edges hull n.tris) (edges hull m.tris) (edges hull l.tris) (k.not_longer hull o (h.kept hull o t)) (h.not_longer hull o t);
    }

-- the slots below n were tried in order from the mesh old on, and now is what it has become; where none was flipped it is the same,
-- and none of these shortens
pub record IsTried (ps : List Point) (old now : Parts) (n : ℕ) (flipped : Bool) : Type 0 where
  pub shortened : IsShortened ps old now
  pub within : All (IsWithin ps) now.tris
  pub whole : IsWhole now
  pub not_more : sum_by (slot_d2 ps) now.slots ≤ sum_by (slot_d2 ps) old.slots
  pub falls : flipped ≡ true → sum_by (slot_d2 ps) now.slots < sum_by (slot_d2 ps) old.slots
  pub none : flipped ≡ false → (p : ℕ) → p < n → ¬ Shortens ps now p

pub IsTried-start : (ps : List Point) (m : Parts) → All (IsWithin ps) m.tris → IsWhole m → IsTried ps m m 0 false
IsTried-start ps m h w =
    record {
      shortened = IsShortened-refl ps m;
      within = h;
      whole = w;
      not_more = omega arith;
      falls = λ e. absurd (cc);
      none = λ e p l. absurd (omega arith);
    }

-- a slot that shortens is flipped
pub IsTried-flip : (ps : List Point) (old now new : Parts) (n : ℕ) (flipped : Bool) → IsTried ps old now n flipped
    → IsShortened ps now new → IsWhole new → sum_by (slot_d2 ps) new.slots < sum_by (slot_d2 ps) now.slots → IsTried ps old new (n + 1) true
IsTried-flip ps old now new n flipped h s w l =
    let before = h.not_more in
    record {
      shortened = IsShortened-trans ps old now new h.shortened s;
      within = s.within h.within;
      whole = w;
      not_more = omega arith;
      falls = λ e. omega arith;
      none = λ e. absurd (cc);
    }

-- and one that does not is left
pub IsTried-skip : (ps : List Point) (old now : Parts) (n : ℕ) (flipped : Bool) → IsTried ps old now n flipped → ¬ Shortens ps now n
    → IsTried ps old now (n + 1) flipped
IsTried-skip ps old now n flipped h not_n =
    record {
      shortened = h.shortened;
      within = h.within;
      whole = h.whole;
      not_more = h.not_more;
      falls = h.falls;
      none = λ e p l. ⊎_elim
          (λ below. h.none e p below)
          (λ above. let same : n ≡ p = omega arith in subst (λ k. ¬ Shortens ps now k) same not_n)
          (cases_lt p n);
    }

-- clauses on one answer
pub OnTrue_from : (b : Bool) (P : Type 0) → (b ≡ true → P) → OnTrue b P
OnTrue_from true P h = h refl
OnTrue_from false P h = tt

pub OnFalse_from : (b : Bool) (P : Type 0) → (b ≡ false → P) → OnFalse b P
OnFalse_from true P h = tt
OnFalse_from false P h = h refl

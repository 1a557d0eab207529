-- Letting flags fall one after the other where a fact holds.
use Rattle.std.proofs.Common.{◌≡◌, ◌≢◌, ◌↔◌, ℕ, ◌+◌, ◌<◌, ◌≤◌, Bool, true, false, List, get_or, set, get_or-set_other, refl, sym, ◌∙◌, subst, ⊎_elim, arith}
use Rattle.std.proofs.lemmas.Bool.{cases_lt, false≢true}
use Rattle.skeleton_faces.proofs.Flags.{is_down}

-- of the first n flags those of which C holds have fallen, and the others stand as before
pub record AreDropped (C : ℕ → Type 0) (before : List Bool) (n : ℕ) (flags : List Bool) : Type 0 where
  pub passed : (k : ℕ) → k < n → (get_or flags k false ≡ true) ↔ ((get_or before k false ≡ true) × (¬ C k))
  pub ahead : (k : ℕ) → n ≤ k → get_or flags k false ≡ get_or before k false

pub dropped_none : (C : ℕ → Type 0) (before : List Bool) → AreDropped C before 0 before
dropped_none C before = record { passed = λ k l. absurd (omega arith); ahead = λ k l. refl }

module _ (C : ℕ → Type 0) (before : List Bool) (n : ℕ) (flags after : List Bool) (h : AreDropped C before n flags) where
  -- one more falls
  pub dropped_falls : C n → after ≡ set flags n false → AreDropped C before (n + 1) after
  dropped_falls holds is =
      subst (AreDropped C before (n + 1)) (sym is)
      (record {
        passed = λ k l. ⊎_elim
            (λ (b : k < n). let stays = get_or-set_other flags n k false false (apart k b) in let old = h.passed k b in (λ on. old.0 (sym stays ∙ on), λ up. stays ∙ old.1 up))
            (λ (m : n ≤ k). let e : n ≡ k = omega arith in
            subst (λ (x : ℕ). (get_or (set flags n false) x false ≡ true) ↔ ((get_or before x false ≡ true) × (¬ C x))) e
            (λ on. absurd (false≢true (sym (is_down flags n) ∙ on)), λ up. absurd (up.1 holds)))
            (cases_lt k n);
        ahead = λ k l. get_or-set_other flags n k false false (λ e. omega arith) ∙ h.ahead k (omega arith);
      })
    where
      apart : (k : ℕ) → k < n → k ≢ n
      apart k l e = omega arith

  -- one more stays
  pub dropped_stays : (get_or flags n false ≡ true → ¬ C n) → after ≡ flags → AreDropped C before (n + 1) after
  dropped_stays holds is =
      subst (AreDropped C before (n + 1)) (sym is)
      (record {
        passed = λ k l. ⊎_elim
            (λ (b : k < n). h.passed k b)
            (λ (m : n ≤ k). let e : n ≡ k = omega arith in
            subst (λ (x : ℕ). (get_or flags x false ≡ true) ↔ ((get_or before x false ≡ true) × (¬ C x))) e
            (let same = h.ahead n (omega arith) in (λ on. (sym same ∙ on, holds on), λ up. same ∙ up.0)))
            (cases_lt k n);
        ahead = λ k l. h.ahead k (omega arith);
      })

-- No side stands twice in the faces: two places of one side lead on alike, and so to one first side.
use Rattle.std.proofs.Common.{◌≡◌, ◌⊎◌, ℕ, zero, suc, ◌+◌, ◌-◌, ◌%◌, ◌<◌, List, length, get_or, slice_index, All, AllPairs, sym, ap, ◌∙◌, subst, inl, inr, ⊎_elim, arith}
use Rattle.std.proofs.Math.Nat.{add-mod_right, mod-add-mod, mod_self, mod-mod, zero-mod}
use Rattle.std.proofs.lemmas.Bool.{cases_lt}
use Rattle.exact_predicates.specs.declared.edge.Edge.{Edge}
use Rattle.exact_predicates.specs.declared.point.Point.{Point}
use Rattle.skeleton_faces.specs.Faces.{HasRoundSide, IsNextSide, IsSameSide, SidePrecedes, round_at}
use Rattle.skeleton_faces.proofs.OneNext.{next_is}

-- A cycle that follows the rule and begins at its least side.
pub record IsLedCycle (ps : List Point) (es : List Edge) (cycle : List ℕ) : Type 0 where
  pub some : 0 < length cycle
  pub follows : (k : ℕ) → k < length cycle → IsNextSide ps es (round_at cycle k) (round_at cycle (k + 1)) (round_at cycle (k + 2))
  pub least : (k : ℕ) → 0 < k → k < length cycle → SidePrecedes (round_at cycle 0) (round_at cycle 1) (round_at cycle k) (round_at cycle (k + 1))

-- the places are counted on round the cycle
mod_place : (c : List ℕ) (k : ℕ) → IsSameSide c (k % length c) c k
mod_place c k = (ap (slice_index c) (mod-mod k (length c)), ap (slice_index c) (mod-add-mod k (length c) 1))

pub end_place : (c : List ℕ) → IsSameSide c (length c) c 0
end_place c =
    let past : length c + 1 ≡ 1 + length c = omega arith in
    (ap (slice_index c) (mod_self (length c) ∙ sym (zero-mod (length c))), ap (round_at c) past ∙ ap (slice_index c) (add-mod_right 1 (length c)))

pub same_sym : (c d : List ℕ) (k m : ℕ) → IsSameSide c k d m → IsSameSide d m c k
same_sym c d k m h = (sym h.0, sym h.1)

pub same_trans : (c d e : List ℕ) (k m n : ℕ) → IsSameSide c k d m → IsSameSide d m e n → IsSameSide c k e n
same_trans c d e k m n h l = (h.0 ∙ l.0, h.1 ∙ l.1)

no_side_precedes_itself : (c d : List ℕ) (k m : ℕ) → IsSameSide c k d m → SidePrecedes (round_at c k) (round_at c (k + 1)) (round_at d m) (round_at d (m + 1)) → ⊥
no_side_precedes_itself c d k m same (inl l) = omega (arith, same.0)
no_side_precedes_itself c d k m same (inr l) = let l1 = l.1 in omega (arith, same.1)

pub not_before_each_other : (u v x y : ℕ) → SidePrecedes u v x y → SidePrecedes x y u v → ⊥
not_before_each_other u v x y (inl h) (inl k) = omega arith
not_before_each_other u v x y (inl h) (inr k) = let k0 = k.0 in omega arith
not_before_each_other u v x y (inr h) (inl k) = let h0 = h.0 in omega arith
not_before_each_other u v x y (inr h) (inr k) = let h1 = h.1 in let k1 = k.1 in omega arith

module _ (ps : List Point) (es : List Edge) where
  follows_on : (c : List ℕ) → IsLedCycle ps es c → (k : ℕ) → IsNextSide ps es (round_at c k) (round_at c (k + 1)) (round_at c (k + 2))
  follows_on c h k =
      let n = length c in
      let here = h.follows (k % n) (omega (arith, h.some)) in
      let at : (j : ℕ) → round_at c (k % n + j) ≡ round_at c (k + j) = λ j. ap (slice_index c) (mod-add-mod k n j) in
      subst (λ (x : ℕ). IsNextSide ps es (round_at c k) (round_at c (k + 1)) x) (at 2)
      (subst (λ (v : ℕ). IsNextSide ps es (round_at c k) v (round_at c (k % n + 2))) (at 1)
      (subst (λ (u : ℕ). IsNextSide ps es u (round_at c (k % n + 1)) (round_at c (k % n + 2))) (mod_place c k).0 here))

  -- what follows one side at two places is the same
  pub together : (c d : List ℕ) → IsLedCycle ps es c → IsLedCycle ps es d → (k m i : ℕ) → IsSameSide c k d m → IsSameSide c (k + i) d (m + i)
  together c d hc hd k m zero same =
      let none : (x : ℕ) → x ≡ x + 0 = λ x. omega arith in
      let ahead : (x : ℕ) → x + 1 ≡ x + 0 + 1 = λ x. omega arith in
      (ap (round_at c) (sym (none k)) ∙ (same.0 ∙ ap (round_at d) (none m)), ap (round_at c) (sym (ahead k)) ∙ (same.1 ∙ ap (round_at d) (ahead m)))
  together c d hc hd k m (suc i) same =
      let (start, end) = together c d hc hd k m i same in
      let one : (x : ℕ) → x + i + 1 ≡ x + suc i = λ x. omega arith in
      let two : (x : ℕ) → x + i + 2 ≡ x + suc i + 1 = λ x. omega arith in
      let from_c = follows_on c hc (k + i) in
      let from_d = follows_on d hd (m + i) in
      let from_d' = subst (λ (v : ℕ). IsNextSide ps es (round_at c (k + i)) v (round_at d (m + i + 2))) (sym end)
      (subst (λ (u : ℕ). IsNextSide ps es u (round_at d (m + i + 1)) (round_at d (m + i + 2))) (sym start) from_d) in
      let on = next_is ps es _ _ _ _ from_c from_d' in
      (ap (round_at c) (sym (one k)) ∙ (end ∙ ap (round_at d) (one m)), ap (round_at c) (sym (two k)) ∙ (on ∙ ap (round_at d) (two m)))

  -- of two cycles with a side in common the second begins at the first side of the first, or at one before that
  begins_no_later : (c d : List ℕ) → IsLedCycle ps es c → IsLedCycle ps es d → (k m : ℕ) → k < length c → IsSameSide c k d m
      → IsSameSide c 0 d 0 ⊎ SidePrecedes (round_at d 0) (round_at d 1) (round_at c 0) (round_at c 1)
  begins_no_later c d hc hd k m k_in same =
      ⊎_elim
      (λ (none : j % length d < 1).
      let is : j % length d ≡ 0 = omega arith in
      inl (subst (λ (r : ℕ). IsSameSide c 0 d r) is at_rest))
      (λ some. let (start, end) = at_rest in
      inr (subst (λ (x : ℕ). SidePrecedes (round_at d 0) (round_at d 1) x (round_at c 1)) (sym start)
      (subst (λ (y : ℕ). SidePrecedes (round_at d 0) (round_at d 1) (round_at d (j % length d)) y) (sym end)
      (hd.least (j % length d) some (omega (arith, hd.some))))))
      (cases_lt (j % length d) 1)
    where
      j : ℕ
      j = m + (length c - k)

      at_rest : IsSameSide c 0 d (j % length d)
      at_rest =
          let whole : k + (length c - k) ≡ length c = omega arith in
          let later = subst (λ (x : ℕ). IsSameSide c x d (m + (length c - k))) whole (together c d hc hd k m (length c - k) same) in
          same_trans c c d 0 (length c) (j % length d) (same_sym c c (length c) 0 (end_place c))
          (same_trans c d d (length c) j (j % length d) later (same_sym d d (j % length d) j (mod_place d j)))

  pub begins_alike : (c d : List ℕ) → IsLedCycle ps es c → IsLedCycle ps es d → (k m : ℕ) → k < length c → m < length d → IsSameSide c k d m → IsSameSide c 0 d 0
  begins_alike c d hc hd k m k_in m_in same =
      ⊎_elim (λ e. e)
      (λ l. ⊎_elim (λ e. same_sym d c 0 0 e) (λ r. absurd (not_before_each_other _ _ _ _ l r))
      (begins_no_later d c hd hc m k m_in (same_sym c d k m same)))
      (begins_no_later c d hc hd k m k_in same)

  pub once_in_cycle : (c : List ℕ) → IsLedCycle ps es c → (k m : ℕ) → k < m → m < length c → ¬ IsSameSide c k c m
  once_in_cycle c h k m l m_in same =
      let rest = length c - m in
      let whole : m + (length c - m) ≡ length c = omega arith in
      let later = subst (λ (x : ℕ). IsSameSide c (k + (length c - m)) c x) whole (together c c h h k m (length c - m) same) in
      let first = same_trans c c c (k + (length c - m)) (length c) 0 later (end_place c) in
      no_side_precedes_itself c c 0 (k + (length c - m)) (same_sym c c (k + (length c - m)) 0 first) (h.least (k + (length c - m)) (omega arith) (omega arith))

  pub cycles_apart : (cycles : List (List ℕ)) → All (IsLedCycle ps es) cycles → AllPairs (λ c d. SidePrecedes (round_at c 0) (round_at c 1) (round_at d 0) (round_at d 1)) cycles
      → AllPairs (λ c d. (u v : ℕ) → HasRoundSide c u v → ¬ HasRoundSide d u v) cycles
  cycles_apart cycles each ascending i j none l j_in u v (k, k_in, from, to) (m, m_in, from', to') =
      let c = get_or cycles i none in
      let d = get_or cycles j none in
      let same = begins_alike c d (each i none (omega arith)) (each j none j_in) k m k_in m_in (from ∙ sym from', to ∙ sym to') in
      no_side_precedes_itself c d 0 0 same (ascending i j none l j_in)

-- What the words of the last state say.
use Rattle.std.proofs.Common.{◌≡◌, ◌≢◌, ◌⊎◌, ℕ, zero, suc, ◌+◌, ◌<◌, ◌≤◌, List, [], ◌∷◌, length, get_or, set, slice_index, Contains, sym, ◌∙◌, subst, inl, inr, ⊎_elim, arith, length-set, get_or-set_other, get_or-set_same}
use Rattle.std.proofs.lemmas.Bool.{cases_lt}
use Rattle.std.proofs.lemmas.List.{get_or_past}
use mathlib.Core.Logic.{dite}
use mathlib.Core.Option.{some, some-injective, some-ne-none}
use native.Mathlib.Decide.{ℕ_discrete}
use lib.ListN.{get_elem?}
use Rattle.atomic_table.specs.Table.{State}
use Rattle.flip_claims.specs.declared.view.Known.{Known}
use Rattle.flip_claims.specs.declared.view.About.{About}
use Rattle.flip_claims.specs.Rule.{ClaimsHold, WordHolds, claim_on, shares_of}
use Rattle.flip_claims.specs.Words.{most_seats, unclaimed}
use Rattle.flip_claims.proofs.Totals.{total_two}

-- the first t of n words taken are those of the triangles
pub record AreTakenTo (n : ℕ) (ws taken : List ℕ) (t : ℕ) : Type 0 where
  pub one_each : length taken ≡ n
  pub each : (i : ℕ) → i < t → slice_index taken i ≡ slice_index ws i

pub one_taken : (n : ℕ) (ws taken : List ℕ) (t x : ℕ) → AreTakenTo n ws taken t → t < n → slice_index ws t ≡ x → AreTakenTo n ws (set taken t x) (t + 1)
one_taken n ws taken t x so low is = let many = so.one_each in
    record {
      one_each = length-set taken t x ∙ so.one_each;
      each = λ i i_in. dite (ℕ_discrete i t)
          (λ (z : i ≡ t). subst (λ (j : ℕ). slice_index (set taken t x) j ≡ slice_index ws j) (sym z) (get_or-set_same taken t x 0 (omega arith) ∙ sym is))
          (λ z. get_or-set_other taken t i x 0 z ∙ so.each i (omega arith));
    }

-- the value of a word
pub word_at : (ws : List ℕ) (i x : ℕ) → get_elem? ws i ≡ some x → get_or ws i 0 ≡ x
word_at [] i x h = absurd (some-ne-none x (sym h))
word_at (w ∷ ws) zero x h = some-injective w x h
word_at (w ∷ ws) (suc i) x h = word_at ws i x h

module _ (k : About) (s : State ℕ Known) (r : ClaimsHold k s) (taken : List ℕ) (wide : length taken ≡ length k.mesh.value.tris) (shows : (t : ℕ) → t < length k.mesh.value.tris → slice_index taken t ≡ slice_index s.words t) where
  -- each is that of no slot, or a slot that shortens and has the triangle
  pub taken_hold : (t : ℕ) → t < length k.mesh.value.tris → WordHolds k.mesh.value t (slice_index taken t)
  taken_hold t low = subst (WordHolds k.mesh.value t) (sym (shows t low)) (r.words t low)

  module _ (id : ℕ) (d : Known) (at : get_elem? s.views id ≡ some d) where
    -- none is above a slot for which the seat has claimed the triangle
    pub taken_least : (t u : ℕ) → Contains d.claimed (claim_on t u) → slice_index taken t ≤ u
    taken_least t u has =
        ⊎_elim
        (λ (low : t < length k.mesh.value.tris). let is = shows t low in let least = (r.each id d at).least t u has in omega arith)
        (λ (past : length k.mesh.value.tris ≤ t). let none = get_or_past taken t 0 (omega arith) in omega arith)
        (cases_lt t (length k.mesh.value.tris))

    -- where the seat has all shares, it has claimed each slot among them
    pub taken_claimed : d.shares ≡ most_seats → (t : ℕ) → t < length k.mesh.value.tris → (slice_index taken t ≡ unclaimed) ⊎ Contains d.claimed (claim_on t (slice_index taken t))
    taken_claimed all t low =
        ⊎_elim
        (λ free. inl (shows t low ∙ free))
        (λ by. dite (ℕ_discrete by.seat id)
        (λ (is : by.seat ≡ id).
        let same = some-injective by.view d (sym by.view_at ∙ subst (λ (i : ℕ). get_elem? s.views i ≡ some d) (sym is) at) in
        inr (subst (λ (x : ℕ). Contains d.claimed (claim_on t x)) (sym (shows t low)) (subst (λ (v : Known). Contains v.claimed (claim_on t (slice_index s.words t))) same by.has)))
        (λ (ne : by.seat ≢ id).
        let some_share = (r.each by.seat by.view by.view_at).share t (slice_index s.words t) by.has in
        let two = total_two shares_of s.views by.seat id by.view d ne by.view_at at in
        let sum = r.shared in
        absurd (omega arith)))
        (r.claimed t low)

-- Rows of sides with one start in an order by starts.
use Rattle.std.proofs.Common.{◌≡◌, ◌≢◌, ℕ, ◌+◌, ◌-◌, ◌<◌, ◌≤◌, List, length, set, slice_index, AllPairs, get_or-set_other, get_or-set_same, sym, ap, ◌∙◌, subst, ⊎_elim, arith, below_more}
use Rattle.std.proofs.lemmas.Bool.{cases_lt}
use Rattle.exact_predicates.specs.declared.edge.Edge.{Edge}
use Rattle.skeleton_faces.specs.Sides.{side_start, twin}
use Rattle.skeleton_faces.specs.Turning.{IsBefore, StartsRise}
use Rattle.skeleton_faces.proofs.SideNumbers.{twin-twin}

module _ (es : List Edge) (order : List ℕ) (rise : StartsRise es order) where
  rise_to : (i j : ℕ) → i ≤ j → j < length order → side_start es (slice_index order i) ≤ side_start es (slice_index order j)
  rise_to i j l j_in =
      ⊎_elim
      (λ (m : i < j). rise i j m j_in)
      (λ (m : j ≤ i). let e : i ≡ j = omega arith in subst (λ (k : ℕ). side_start es (slice_index order i) ≤ side_start es (slice_index order k)) e (omega arith))
      (cases_lt i j)

  -- after the first other start that start comes no more
  pub past_last : (last v k : ℕ) → side_start es (slice_index order last) ≡ v → side_start es (slice_index order (last + 1)) ≢ v → last < k → k < length order → side_start es (slice_index order k) ≢ v
  past_last last v k here other l k_in e =
      let up = rise_to last (last + 1) (omega arith) (omega arith) in
      let on = rise_to (last + 1) k (omega arith) k_in in
      other (omega arith)

  -- and before the last other start it did not come
  pub before_first : (place k : ℕ) → 0 < place → place < length order → side_start es (slice_index order (place - 1)) ≢ side_start es (slice_index order place) → k < place → side_start es (slice_index order k) ≢ side_start es (slice_index order place)
  before_first place k some place_in other l e =
      let up = rise_to k (place - 1) (omega arith) (omega arith) in
      let on = rise_to (place - 1) place (omega arith) place_in in
      other (omega arith)

-- the links of the first n places
abbrev pub AreLinkedTo : List Edge → List ℕ → ℕ → List ℕ → Type 0
AreLinkedTo es order n nexts = (q : ℕ) → q < n → (p : ℕ) × IsBefore es order q p × (slice_index nexts (twin (slice_index order q)) ≡ slice_index order p)

-- one more
pub linked_more : (es : List Edge) (order nexts : List ℕ) (n p x : ℕ) → AllPairs (λ s t. s ≢ t) order → n < length order → x ≡ twin (slice_index order n) → x < length nexts → IsBefore es order n p
    → AreLinkedTo es order n nexts → AreLinkedTo es order (n + 1) (set nexts x (slice_index order p))
linked_more es order nexts n p x distinct n_in x_is x_in before h =
    below_more _ n
    (λ q l. let (r, b, is) = h q l in
    (r, b, get_or-set_other nexts x (twin (slice_index order q)) (slice_index order p) 0 (λ e. distinct q n 0 l n_in (sym (twin-twin (slice_index order q)) ∙ (ap twin (e ∙ x_is) ∙ twin-twin (slice_index order n)))) ∙ is))
    (p, before, subst (λ (z : ℕ). slice_index (set nexts x (slice_index order p)) z ≡ slice_index order p) x_is (get_or-set_same nexts x (slice_index order p) 0 x_in))

-- The words after all threads have claimed: the least slot of each triangle.
use Rattle.std.proofs.Common.{◌≡◌, ◌⊎◌, ℕ, ◌<◌, ◌≤◌, ◌%◌, List, [], length, get_or, slice_index, Contains, subst, refl, inl, inr, ⊎_elim, arith}
use Rattle.std.proofs.Math.Nat.{mod-lt}
use Rattle.flip_finish.specs.Mesh.{Parts}
use Rattle.flip_finish.specs.Winners.{HasTriangle}
use Rattle.flip_finish.proofs.Standing.{some_at}
use Rattle.flip_claims.specs.declared.view.Known.{Known}
use Rattle.flip_claims.specs.Handles.{SeatView}
use Rattle.flip_claims.specs.Rounds.{AreLeast, Gathers, HasClaimedStripe}
use Rattle.flip_claims.specs.Rule.{claim_on}
use Rattle.flip_claims.specs.Words.{unclaimed}
use Rattle.flip_claims.proofs.Members.{Contains-nil}

-- each of the team has claimed its stripe
abbrev pub HaveStripes : Parts → List ℕ → ℕ → List SeatView → Type 0
HaveStripes m slots workers team = (k : ℕ) (v : SeatView) → k < length team → HasClaimedStripe m slots workers k (get_or team k v).known.claimed

module _ (m : Parts) (slots words : List ℕ) (workers : ℕ) (d d' : Known) (team : List SeatView) (some : 0 < workers) (wide : length team ≡ workers) (bare : d.claimed ≡ [])
    (gathers : Gathers d team d') (stripes : HaveStripes m slots workers team) where
  -- all triangles of the slots are claimed
  all_claimed : (s t : ℕ) → Contains slots s → HasTriangle m s t → Contains d'.claimed (claim_on t s)
  all_claimed s t (k, k_in, at_k) has =
      let number : ℕ = k % workers in
      let low = mod-lt k {m = workers} some in
      let (seat, at_seat) = some_at team number (omega arith) in
      let stripe = subst (λ (v : SeatView). HasClaimedStripe m slots workers number v.known.claimed) at_seat.is (stripes number seat at_seat.inside) in
      gathers.all (claim_on t s) (number, seat, at_seat.inside, at_seat.is, stripe.all k s t (record { inside = k_in; is = at_k }) refl has)

  -- for these slots alone
  own_claimed : (s t : ℕ) → Contains d'.claimed (claim_on t s) → Contains slots s × HasTriangle m s t
  own_claimed s t has =
      ⊎_elim
      (λ old. absurd (Contains-nil (claim_on t s) (subst (λ c. Contains c (claim_on t s)) bare old)))
      (λ (k, seat, inside, is, theirs).
      (subst (λ (v : SeatView). HasClaimedStripe m slots workers k v.known.claimed) is (stripes k seat inside)).own t s theirs)
      (gathers.own (claim_on t s) has)

  pub least_words : length words ≡ length m.tris → ((t s : ℕ) → Contains d'.claimed (claim_on t s) → slice_index words t ≤ s)
      → ((t : ℕ) → t < length m.tris → (slice_index words t ≡ unclaimed) ⊎ Contains d'.claimed (claim_on t (slice_index words t)))
      → AreLeast m slots words
  least_words one_each least whole = record {
    one_each = one_each;
    most = λ s t s_in has. least t s (all_claimed s t s_in has);
    among = λ t t_in. ⊎_elim (λ free. inl free) (λ has. inr (own_claimed (slice_index words t) t has)) (whole t t_in);
  }

-- Claims for the slots that are dealt to one thread.
use Rattle.std.proofs.Common.{◌≡◌, ℕ, ◌+◌, ◌<◌, ◌≤◌, ◌%◌, List, ◌∷◌, Contains, sym, ap, ◌∙◌, subst, ⊎_elim}
use Rattle.std.proofs.Math.Nat.{add-mod_right}
use Rattle.std.proofs.lemmas.Bool.{cases_lt}
use Rattle.atomic_table.proofs.Lists.{one_turn}
use Rattle.flip_finish.specs.Mesh.{Parts}
use Rattle.flip_finish.specs.Places.{IsAt}
use Rattle.flip_finish.specs.Winners.{HasPair, HasTriangle}
use Rattle.flip_finish.proofs.Standing.{IsAt-only}
use Rattle.flip_claims.specs.declared.view.Claimed.{Claimed}
use Rattle.flip_claims.specs.declared.view.Known.{Known}
use Rattle.flip_claims.specs.Plays.{claimed_view}
use Rattle.flip_claims.specs.Rounds.{AreClaimsFor, HasClaimedStripe}
use Rattle.flip_claims.specs.Rule.{claim_on}
use Rattle.flip_claims.proofs.Members.{Contains-cases, Contains-later}
use Rattle.flip_claims.proofs.Triangles.{both_claimed, has_left, has_right}

-- the places before this one were gone through
pub record IsStripedTo (m : Parts) (slots : List ℕ) (workers number : ℕ) (d : Known) (place : ℕ) : Type 0 where
  pub own : AreClaimsFor m slots d.claimed
  pub all : (k s t : ℕ) → k < place → IsAt slots k s → k % workers ≡ number → HasTriangle m s t → Contains d.claimed (claim_on t s)
  pub turn : place % workers ≡ number

pub stripe_more : (m : Parts) (slots : List ℕ) (workers number : ℕ) (d : Known) (place slot l r x y : ℕ) → IsStripedTo m slots workers number d place → IsAt slots place slot → Contains slots slot → HasPair m slot l r
    → IsStripedTo m slots workers number (claimed_view r slot y (claimed_view l slot x d)) (place + workers)
stripe_more m slots workers number d place slot l r x y h at_place slot_in pair =
    let claims : List Claimed = claim_on l slot ∷ d.claimed in
    record {
      own = λ t s has. ⊎_elim
          (λ (is : claim_on r slot ≡ claim_on t s). own_here t s r (has_right m slot l r pair) is)
          (λ rest. ⊎_elim
          (λ (is : claim_on l slot ≡ claim_on t s). own_here t s l (has_left m slot l r pair) is)
          (λ old. h.own t s old)
          (Contains-cases (claim_on l slot) (claim_on t s) d.claimed rest))
          (Contains-cases (claim_on r slot) (claim_on t s) claims has);
      all = λ k s t before at_k mine has. ⊎_elim
          (λ (old : k < place). Contains-later (claim_on r slot) (claim_on t s) claims (Contains-later (claim_on l slot) (claim_on t s) d.claimed (h.all k s t old at_k mine has)))
          (λ (new : place ≤ k).
          let same : place ≡ k = one_turn place k workers new before (h.turn ∙ sym mine) in
          let slot_is : slot ≡ s = IsAt-only slots k slot s (subst (λ (i : ℕ). IsAt slots i slot) same at_place) at_k in
          subst (λ (i : ℕ). Contains (claim_on r slot ∷ claims) (claim_on t i)) slot_is
          (both_claimed m slot l r x y t d pair (subst (λ (i : ℕ). HasTriangle m i t) (sym slot_is) has)))
          (cases_lt k place);
      turn = add-mod_right place workers ∙ h.turn;
    }
  where
    own_here : (t s u : ℕ) → HasTriangle m slot u → claim_on u slot ≡ claim_on t s → Contains slots s × HasTriangle m s t
    own_here t s u has is =
        let triangle : u ≡ t = ap (λ (c : Claimed). c.triangle) is in
        let slot_is : slot ≡ s = ap (λ (c : Claimed). c.slot) is in (
          subst (Contains slots) slot_is slot_in,
          subst (λ (i : ℕ). HasTriangle m i t) slot_is (subst (HasTriangle m slot) triangle has),
        )

pub stripe_end : (m : Parts) (slots : List ℕ) (workers number : ℕ) (d : Known) (place : ℕ) → IsStripedTo m slots workers number d place → ((k s : ℕ) → IsAt slots k s → k < place)
    → HasClaimedStripe m slots workers number d.claimed
stripe_end m slots workers number d place h past = record { own = h.own; all = λ k s t at_k mine has. h.all k s t (past k s at_k) at_k mine has }

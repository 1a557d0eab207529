-- Rounds, one after the other.
use Rattle.std.proofs.Common.{◌≡◌, ℕ, List, [], ◌∷◌, ◌++◌, length, refl, subst, arith}
use Rattle.exact_predicates.specs.declared.point.Point.{Point}
use Rattle.flip_finish.specs.Flipping.{IsShortened, Shortens}
use Rattle.flip_finish.specs.Mesh.{Parts}
use Rattle.flip_finish.proofs.Shortening.{IsShortened-trans}
use Rattle.flip_claims.specs.Rounds.{AreRounds, AreShortening, IsRound}

-- one more round
rounds_more : (ps : List Point) (old mid new : Parts) (rounds : List (List ℕ)) (winners : List ℕ) → AreRounds ps old rounds mid → IsRound ps mid winners new → AreRounds ps old (rounds ++ winners ∷ []) new
rounds_more ps old mid new [] winners h r = (new, subst (λ (m : Parts). IsRound ps m winners new) h r, refl)
rounds_more ps old mid new (w ∷ ws) winners h r = (h.0, h.1, rounds_more ps h.0 mid new ws winners h.2 r)

-- where the list of the slots that shorten is empty, none does
pub still : (ps : List Point) (m : Parts) (slots : List ℕ) → AreShortening ps m slots → length slots ≡ 0 → (slot : ℕ) → ¬ Shortens ps m slot
still ps m slots short none slot s = let (k, k_in, at_k) = short.all slot s in omega arith

-- after some rounds
pub record AreRoundsTo (ps : List Point) (old now : Parts) : Type 0 where
  pub rounds : List (List ℕ)
  pub made : AreRounds ps old rounds now
  pub shortened : IsShortened ps old now

pub rounds_next : (ps : List Point) (old mid new : Parts) (winners : List ℕ) → AreRoundsTo ps old mid → IsRound ps mid winners new → IsShortened ps mid new → AreRoundsTo ps old new
rounds_next ps old mid new winners h r s = record {
  rounds = h.rounds ++ winners ∷ [];
  made = rounds_more ps old mid new h.rounds winners h.made r;
  shortened = IsShortened-trans ps old mid new h.shortened s;
}

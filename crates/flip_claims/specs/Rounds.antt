-- Rounds of flips: all winners of a mesh are flipped.
use Rattle.std.specs.Prelude.{◌≡◌, ◌⊎◌, ℕ, ◌+◌, ◌<◌, ◌≤◌, ◌%◌, List, [], ◌∷◌, length, slice_index, All, AllPairs, Any, Contains}
use Rattle.exact_predicates.specs.declared.point.Point.{Point}
use Rattle.flip_finish.specs.Flipping.{IsFlipped, Shortens}
use Rattle.flip_finish.specs.Mesh.{IsWhole, Parts}
use Rattle.flip_finish.specs.Places.{IsAt}
use Rattle.flip_finish.specs.Winners.{AreWinners, HasPair, HasTriangle}
use Rattle.flip_claims.specs.declared.view.Claimed.{Claimed}
use Rattle.flip_claims.specs.declared.view.Known.{Known}
use Rattle.flip_claims.specs.Handles.{SeatView}
use Rattle.flip_claims.specs.Rule.{claim_on}
use Rattle.flip_claims.specs.Words.{unclaimed}

-- the slots were flipped, one after the other, and after each flip the mesh was whole
abbrev pub AreFlipped : List Point → Parts → List ℕ → Parts → Type 0
AreFlipped ps old [] new = new ≡ old
AreFlipped ps old (slot ∷ slots) new = (mid : Parts) × IsFlipped ps old mid slot × IsWhole mid × AreFlipped ps mid slots new

-- p has a triangle that one of these slots had in the mesh before
pub record IsTouched (old new : Parts) (slots : List ℕ) (p : ℕ) : Type 0 where
  pub t : ℕ
  pub w : ℕ
  pub among : Contains slots w
  pub had : HasTriangle old w t
  pub has : HasTriangle new p t

-- A round: the winners of the mesh, of which no two share a triangle, were flipped in ascending order.
pub record IsRound (ps : List Point) (old : Parts) (winners : List ℕ) (new : Parts) : Type 0 where
  pub winners_are : AreWinners ps old winners
  pub apart : AllPairs (λ p q. (t : ℕ) → HasTriangle old p t → ¬ HasTriangle old q t) winners
  pub flipped : AreFlipped ps old winners new

-- rounds, one after the other
abbrev pub AreRounds : List Point → Parts → List (List ℕ) → Parts → Type 0
AreRounds ps old [] new = new ≡ old
AreRounds ps old (winners ∷ rounds) new = (mid : Parts) × IsRound ps old winners mid × AreRounds ps mid rounds new

-- all slots that shorten, ascending
pub record AreShortening (ps : List Point) (m : Parts) (slots : List ℕ) : Type 0 where
  pub ascending : AllPairs (λ p q. p < q) slots
  pub each : All (Shortens ps m) slots
  pub all : (slot : ℕ) → Shortens ps m slot → Contains slots slot

-- a seat has claimed triangles for their slots in this list, and for no other slot
abbrev pub AreClaimsFor : Parts → List ℕ → List Claimed → Type 0
AreClaimsFor m slots claimed = (t s : ℕ) → Contains claimed (claim_on t s) → Contains slots s × HasTriangle m s t

-- it has claimed all triangles of the slots at the places, in this list, that leave this remainder
pub record HasClaimedStripe (m : Parts) (slots : List ℕ) (workers number : ℕ) (claimed : List Claimed) : Type 0 where
  pub own : AreClaimsFor m slots claimed
  pub all : (k s t : ℕ) → IsAt slots k s → k % workers ≡ number → HasTriangle m s t → Contains claimed (claim_on t s)

-- A seat was joined with all of this team, each of which had one share: it has claimed what it and they had.
pub record Gathers (d : Known) (team : List SeatView) (d' : Known) : Type 0 where
  pub shares : d'.shares ≡ d.shares + length team
  pub own : (c : Claimed) → Contains d'.claimed c → Contains d.claimed c ⊎ Any (λ s. Contains s.known.claimed c) team
  pub all : (c : Claimed) → Any (λ s. Contains s.known.claimed c) team → Contains d'.claimed c

-- the word of each triangle is the least of these slots that has it, where there is one
pub record AreLeast (m : Parts) (slots words : List ℕ) : Type 0 where
  pub one_each : length words ≡ length m.tris
  pub most : (s t : ℕ) → Contains slots s → HasTriangle m s t → slice_index words t ≤ s
  pub among : (t : ℕ) → t < length m.tris
      → (slice_index words t ≡ unclaimed) ⊎ (Contains slots (slice_index words t) × HasTriangle m (slice_index words t) t)

-- near has each of the slots, and each slot with one of the triangles
pub record AreAround (m : Parts) (slots triangles near : List ℕ) : Type 0 where
  pub in_slots : All (λ p. p < length m.slots) near
  pub old : (p : ℕ) → Contains slots p → Contains near p
  pub sides : (p t : ℕ) → Contains triangles t → HasTriangle m p t → Contains near p

-- and ascends
pub record AreNear (m : Parts) (slots triangles near : List ℕ) : Type 0 where
  pub ascending : AllPairs (λ p q. p < q) near
  pub around : AreAround m slots triangles near

-- the slot has two triangles
abbrev pub HasTwo : Parts → ℕ → Type 0
HasTwo m slot = (t u : ℕ) × HasPair m slot t u

-- the words of both triangles of the slot are its own number
abbrev pub HoldsBoth : Parts → List ℕ → ℕ → Type 0
HoldsBoth m words slot = (t : ℕ) → HasTriangle m slot t → slice_index words t ≡ slot

-- ys are those of xs for which P holds, in their order, where xs ascend
pub record ArePicked (P : ℕ → Type 0) (xs ys : List ℕ) : Type 0 where
  pub ascending : AllPairs (λ x y. x < y) ys
  pub each : All P ys
  pub within : All (Contains xs) ys
  pub all : (x : ℕ) → Contains xs x → P x → Contains ys x

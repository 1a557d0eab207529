-- The rule of the claims: what holds between any two steps of any seats.
-- It speaks of the words (`Words`) and of the views of all seats. A view is what is known of a seat in proofs; only the
-- seat's own steps change it, as `Plays` says.
use Rattle.std.specs.Prelude.{◌≡◌, ◌⊎◌, ℕ, ◌+◌, ◌-◌, ◌<◌, ◌≤◌, List, [], ◌∷◌, length, slice_index, Contains}
use mathlib.Core.Option.{some}
use lib.ListN.{get_elem?}
use Rattle.atomic_table.specs.Table.{State}
use Rattle.exact_predicates.specs.declared.point.Point.{Point}
use Rattle.flip_finish.specs.Flipping.{Shortens}
use Rattle.flip_finish.specs.Mesh.{Parts}
use Rattle.flip_finish.specs.Winners.{HasTriangle}
use Rattle.flip_claims.specs.declared.view.Claimed.{Claimed}
use Rattle.flip_claims.specs.declared.view.Known.{Known}
use Rattle.flip_claims.specs.declared.view.About.{About}
use Rattle.flip_claims.specs.Words.{unclaimed, word_count, most_seats}

-- the view of the first seat of so many
abbrev pub first_known : ℕ → Known
first_known seats = record { claimed = []; splits = seats - 1; shares = most_seats; steps = [] }

abbrev pub first_view : About → Known
first_view k = first_known k.seats

-- the triangle t, claimed for the slot s
abbrev pub claim_on : ℕ → ℕ → Claimed
claim_on t s = record { triangle = t; slot = s }

-- the slot s shortens, with the points of some claim, and has the triangle t
pub record IsClaimable (m : Parts) (t s : ℕ) : Type 0 where
  pub points : List Point
  pub shortens : Shortens points m s
  pub has : HasTriangle m s t

-- a word of the triangle t: that of no slot, or a slot that shortens and has the triangle
abbrev pub WordHolds : Parts → ℕ → ℕ → Type 0
WordHolds m t x = (x ≡ unclaimed) ⊎ IsClaimable m t x

-- a view has claimed the triangle t for the slot s
pub record IsClaimedBy (views : List Known) (t s : ℕ) : Type 0 where
  pub seat : ℕ
  pub view : Known
  pub view_at : get_elem? views seat ≡ some view
  pub has : Contains view.claimed (claim_on t s)

-- What the rule says of one view.
pub record ViewHolds (ws : List ℕ) (d : Known) : Type 0 where
  -- a word is at most each slot for which its triangle was claimed
  pub least : (t s : ℕ) → Contains d.claimed (claim_on t s) → slice_index ws t ≤ s
  -- a seat without a share has claimed nothing
  pub share : (t s : ℕ) → Contains d.claimed (claim_on t s) → 0 < d.shares

-- the sum over all views
abbrev pub total : (Known → ℕ) → List Known → ℕ
total f [] = 0
total f (d ∷ ds) = f d + total f ds

abbrev pub splits_of : Known → ℕ
splits_of d = d.splits

abbrev pub shares_of : Known → ℕ
shares_of d = d.shares

-- The rule, for the mesh that the claims were opened with.
pub record ClaimsHold (k : About) (s : State ℕ Known) : Type 0 where
  pub wide : length s.words ≡ word_count k.mesh.value
  -- each word is that of no slot, or a slot that shortens and has the triangle
  pub words : (t : ℕ) → t < length k.mesh.value.tris → WordHolds k.mesh.value t (slice_index s.words t)
  -- and is at most each slot for which a view has claimed the triangle
  pub each : (j : ℕ) (d : Known) → get_elem? s.views j ≡ some d → ViewHolds s.words d
  -- the seats there are, and those that they may still split off, are at most so many
  pub seated : length s.views + total splits_of s.views ≤ most_seats
  -- a slot among the words is one for which a view has claimed the triangle
  pub claimed : (t : ℕ) → t < length k.mesh.value.tris → (slice_index s.words t ≡ unclaimed) ⊎ IsClaimedBy s.views t (slice_index s.words t)
  -- the seats have all shares
  pub shared : total shares_of s.views ≡ most_seats

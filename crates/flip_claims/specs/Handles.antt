-- What contracts see of the claims and of a seat.
use Rattle.std.specs.Prelude.{◌≡◌, ℕ, ◌<◌, List, []}
use Rattle.atomic_table.specs.Seated.{TableId}
use Rattle.flip_finish.specs.Mesh.{Parts}
use Rattle.flip_claims.specs.declared.view.Known.{Known}

-- a seat: the table that it belongs to, its number there, and what it knows
pub record SeatView : Type 0 where
  pub table : TableId
  pub id : ℕ
  pub known : Known

-- the claims: their table, and the mesh that they were opened with
pub record ClaimsView : Type 0 where
  pub table : TableId
  pub mesh : Parts

-- the seat belongs to the claims
pub record Belongs (c : ClaimsView) (s : SeatView) : Type 0 where
  pub table : s.table ≡ c.table

-- s and t are the same seat, maybe at different times
abbrev pub IsSameSeat : SeatView → SeatView → Type 0
IsSameSeat s t = (t.table ≡ s.table) × (t.id ≡ s.id)

-- What a seat keeps beside its place at the table: how many seats it may split off. It has a share for each of these, and
-- one for itself.
pub record IsSeated (known : Known) (carried : List (ℕ × ℕ)) (splits : ℕ) : Type 0 where
  pub bare : carried ≡ []
  pub splits_are : known.splits ≡ splits
  pub shares : known.splits < known.shares

-- A seat at its table.
use Rattle.std.proofs.Common.{◌≡◌, sym, ap, ◌∙◌}
use Rattle.flip_claims.specs.Handles.{Belongs, ClaimsView, SeatView}

-- a seat that belongs to the claims is of their table
pub meets : (seat s : SeatView) (claims c : ClaimsView) → seat ≡ s → claims ≡ c → Belongs c s → seat.table ≡ claims.table
meets seat s claims c a b h = ap (λ (v : SeatView). v.table) a ∙ (h.table ∙ sym (ap (λ (v : ClaimsView). v.table) b))

-- A seat between the steps of a call.
use Rattle.std.proofs.Common.{◌≡◌, ℕ, ◌+◌, ◌*◌, ◌≤◌, [], ◌∷◌, length, sym, ap, ◌∙◌, subst}
use Rattle.atomic_table.specs.Seated.{TableId}
use Rattle.lmt_network.specs.Network.{NetworkParts}
use Rattle.ticket_marks.specs.declared.view.Drawn.TheVariants.{Ticket}
use Rattle.ticket_marks.specs.declared.view.Known.{Known}
use Rattle.ticket_marks.specs.Handles.{SeatView, TicketsView, Belongs}
use Rattle.ticket_marks.specs.Plays.{Sitting, drawn_view, killed_view}

-- a seat that belongs to the tickets is of their table and their network
pub meets : (seat s : SeatView) (marks m : TicketsView) → seat ≡ s → marks ≡ m → Belongs m s → (seat.table ≡ marks.table) × (seat.known.net ≡ marks.net)
meets seat s marks m a b h = (ap (λ (v : SeatView). v.table) a ∙ (h.0 ∙ sym (ap (λ (v : TicketsView). v.table) b)), ap (λ (v : SeatView). v.known.net) a ∙ (h.1 ∙ sym (ap (λ (v : TicketsView). v.net) b)))

-- it stays the same seat, and belongs to them, where the call leaves its table, its number and its network
pub stays : (seat s : SeatView) (m : TicketsView) (table : TableId) (id : ℕ) (net : NetworkParts) → seat ≡ s → Belongs m s → table ≡ seat.table → id ≡ seat.id → net ≡ seat.known.net
    → ((table ≡ s.table) × (id ≡ s.id)) × ((table ≡ m.table) × (net ≡ m.net))
stays seat s m table id net is h a b c = let t = a ∙ ap (λ (v : SeatView). v.table) is in ((t, b ∙ ap (λ (v : SeatView). v.id) is), (t ∙ h.0, c ∙ (ap (λ (v : SeatView). v.known.net) is ∙ h.1)))

-- what its two steps told a seat that killed an edge
pub killed_told : (d : Known) (slot i e t x : ℕ) (m₁ m₂ m₃ : Sitting) → m₁ ≡ (d, (slot, e) ∷ [])
    → ((k g : ℕ) → m₁.1 ≡ (k, g) ∷ [] → (m₂ ≡ (drawn_view i g t m₁.0, m₁.1)) × (t + 1 ≤ 65 * length m₁.0.net.edges))
    → ((g u : ℕ) → m₂.0.drawn ≡ Ticket g u → m₃ ≡ (killed_view g u x m₂.0, m₂.1))
    → m₃ ≡ (killed_view e t x (drawn_view i e t d), (slot, e) ∷ [])
killed_told d slot i e t x m₁ m₂ m₃ is drew killed =
    let first = subst (λ (z : Sitting). m₂ ≡ (drawn_view i e t z.0, z.1)) is (drew slot e (ap (λ (z : Sitting). z.1) is)).0 in
    killed e t (ap (λ (z : Sitting). z.0.drawn) first) ∙ ap (λ (z : Sitting). let v : Sitting = (killed_view e t x z.0, z.1) in v) first

-- A seat between the steps of a call.
use Rattle.std.proofs.Common.{◌≡◌, ℕ, ◌+◌, ◌*◌, ◌≤◌, [], ◌∷◌, length, sym, ap, ◌∙◌, subst}
use Rattle.atomic_table.specs.Seated.{TableId}
use Rattle.lmt_network.specs.Network.{NetworkParts}
use Rattle.edge_marks.specs.declared.view.Phase.TheVariants.{Begun, Marked}
use Rattle.edge_marks.specs.declared.view.Known.{Known}
use Rattle.edge_marks.specs.Handles.{SeatView, MarksView, Belongs}
use Rattle.edge_marks.specs.Plays.{Sitting, looked_view, LookTells, begun_view, marked_view, ended_view}

-- a seat that belongs to the marks is of their table and their network
pub meets : (seat s : SeatView) (marks m : MarksView) → seat ≡ s → marks ≡ m → Belongs m s → (seat.table ≡ marks.table) × (seat.known.net ≡ marks.net)
meets seat s marks m a b h = (ap (λ (v : SeatView). v.table) a ∙ (h.0 ∙ sym (ap (λ (v : MarksView). v.table) b)), ap (λ (v : SeatView). v.known.net) a ∙ (h.1 ∙ sym (ap (λ (v : MarksView). v.net) b)))

-- it stays the same seat, and belongs to them, where the call leaves its table, its number and its network
pub stays : (seat s : SeatView) (m : MarksView) (table : TableId) (id : ℕ) (net : NetworkParts) → seat ≡ s → Belongs m s → table ≡ seat.table → id ≡ seat.id → net ≡ seat.known.net
    → ((table ≡ s.table) × (id ≡ s.id)) × ((table ≡ m.table) × (net ≡ m.net))
stays seat s m table id net is h a b c = let t = a ∙ ap (λ (v : SeatView). v.table) is in ((t, b ∙ ap (λ (v : SeatView). v.id) is), (t ∙ h.0, c ∙ (ap (λ (v : SeatView). v.known.net) is ∙ h.1)))

-- what a look told a seat with its note written
pub look_told : (d : Known) (slot e x : ℕ) (m m' : Sitting) → m ≡ (d, (slot, e) ∷ [])
    → ((k f : ℕ) → m.1 ≡ (k, f) ∷ [] → (m' ≡ (looked_view f x m.0, m.1)) × LookTells m.0 f x)
    → (m' ≡ (looked_view e x d, (slot, e) ∷ [])) × LookTells d e x
look_told d slot e x m m' is told = subst (λ (z : Sitting). (m' ≡ (looked_view e x z.0, z.1)) × LookTells z.0 e x) is (told slot e (ap (λ (z : Sitting). z.1) is))

-- what its steps told it in the midst of a kill
pub marked_told : (d : Known) (slot i e b x : ℕ) (m₁ m₂ m₃ : Sitting) → m₁ ≡ (d, (slot, e) ∷ [])
    → ((k g : ℕ) → m₁.1 ≡ (k, g) ∷ [] → (m₂ ≡ (begun_view i g b m₁.0, m₁.1)) × (m₁.0.low ≤ b) × (b + 1 ≤ 65 * length m₁.0.net.edges))
    → ((g : ℕ) → m₂.0.phase ≡ Begun g → m₃ ≡ (marked_view g x m₂.0, m₂.1))
    → m₃ ≡ (marked_view e x (begun_view i e b d), (slot, e) ∷ [])
marked_told d slot i e b x m₁ m₂ m₃ is begun marked =
    let first = subst (λ (z : Sitting). m₂ ≡ (begun_view i e b z.0, z.1)) is (begun slot e (ap (λ (z : Sitting). z.1) is)).0 in
    marked e (ap (λ (z : Sitting). z.0.phase) first) ∙ ap (λ (z : Sitting). let v : Sitting = (marked_view e x z.0, z.1) in v) first

-- and after it
pub killed_told : (d : Known) (slot i j e b x f : ℕ) (m₃ m₄ : Sitting) → m₃ ≡ (marked_view e x (begun_view i e b d), (slot, e) ∷ [])
    → ((g : ℕ) → m₃.0.phase ≡ Marked g → m₄ ≡ (ended_view j g f m₃.0, m₃.1))
    → m₄ ≡ (ended_view j e f (marked_view e x (begun_view i e b d)), (slot, e) ∷ [])
killed_told d slot i j e b x f m₃ m₄ is ended = ended e (ap (λ (z : Sitting). z.0.phase) is) ∙ ap (λ (z : Sitting). let v : Sitting = (ended_view j e f z.0, z.1) in v) is

-- What the words are while a seat has tried nothing and may split off all others.
use Rattle.std.proofs.Common.{◌≡◌, ℕ, ◌+◌, ◌≤◌, List, [], length, ap, subst, arith}
use Rattle.atomic_table.specs.Table.{State}
use Rattle.lmt_network.specs.Network.{NetworkParts}
use Rattle.edge_marks.specs.declared.view.Known.{Known}
use Rattle.edge_marks.specs.Rule.{AreBlank, begun, tries, notes_of}
use Rattle.edge_marks.specs.Handles.{SeatView, MarksView, IsStateWith}
use Rattle.edge_marks.proofs.Kept.{net, none_killed}
use Rattle.mark_seats.proofs.Totals.{total_at, total_only}

pub blank_first : (m : MarksView) (seat : SeatView) → m.seats ≡ seat.known.splits + 1 → seat.known.tried ≡ [] → (s : State ℕ Known) → IsStateWith m seat s → AreBlank m.net s.words
blank_first m seat all untried s st = let k = st.about in let r = st.rule in let most = total_at (λ d. (notes_of d).splits) s.views seat.id seat.known st.seat_at in let seated = r.seating.seated in let seats = st.seats_are in
    let few : length s.views ≤ 1 = omega arith in let one = total_only tries s.views seat.id seat.known st.seat_at few in let none : tries seat.known ≡ 0 = ap (λ (l : List ℕ). length l) untried in
    let kills = r.kills in let started : begun (net k) s.words ≡ 0 = omega arith in let open_kills = r.open_kills in
    subst (λ (n : NetworkParts). AreBlank n s.words) st.net_is record { live = none_killed k s r started; none_begun = started; none_finished = omega arith }

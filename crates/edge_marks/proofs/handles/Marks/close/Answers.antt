use Rattle.std.proofs.Common.{◌≡◌, ℕ, eqb, List, length, All, Contains, sym, ap, ◌∙◌, subst, arith}
use mathlib.Core.Option.{some}
use lib.ListN.{get_elem?}
use Rattle.lmt_network.specs.Flags.{live_numbers}
use Rattle.lmt_network.specs.Network.{NetworkParts}
use Rattle.lmt_network.specs.Numbers.{AreClosed, AreLive}
use Rattle.edge_marks.specs.Handles.{SeatView, MarksView, AreFlagsOf}
use Rattle.edge_marks.specs.Words.{mark_of}
use Rattle.edge_marks.proofs.Closes.{FlagsShow, flags_of, closed_stay, seen_fall, settled_live}
use Rattle.edge_marks.proofs.handles.Marks.close.Goals as goal

-- the flags show the words of the last state
shows : (c : goal.After-put_away) → FlagsShow (length c.self.inside.table.shared.key.net.value.edges) c.close_with-closed.ensures.values.2.0.words c.drop_killed.new.flags
shows c e low = let i₀ = c.self.invariant.0 in c.drop_killed.ensures.each e (omega arith) ∙ ap (λ (l : List ℕ). eqb (mark_of l e) 0) (sym c.close_with-closed.ensures.values.2.2)

pub returns-clause-last : goal.returns-clause-last
returns-clause-last c = let f = c.close_with-closed.ensures.values.2 in let net = ap (λ (v : MarksView). v.net) c.self.view_is in (
  f.0,
  record {
    about = c.self.inside.table.shared.key;
    net_is = net;
    seats_are = ap (λ (v : MarksView). v.seats) c.self.view_is;
    rule = f.1.0;
    seat_at = subst (λ (v : SeatView). get_elem? f.0.views v.id ≡ some v.known) c.seat.view_is f.1.1;
  },
  subst (λ (n : NetworkParts). AreFlagsOf n f.0 c.drop_killed.new.flags) net (flags_of c.self.inside.table.shared.key f.0 f.1.0 c.drop_killed.new.flags (c.drop_killed.ensures.count ∙ c.self.invariant.0) (shows c)),
)

pub returns-clause-closed : goal.returns-clause-closed
returns-clause-closed c = let f = c.close_with-closed.ensures.values.2 in let net = ap (λ (v : MarksView). v.net) c.self.view_is in
    subst (λ (n : NetworkParts). (es : List ℕ) → AreClosed n es → All (Contains (live_numbers c.drop_killed.new.flags)) es) net
    (closed_stay c.self.inside.table.shared.key f.0 f.1.0 c.drop_killed.new.flags (c.drop_killed.ensures.count ∙ c.self.invariant.0) (shows c))

pub returns-clause-seen : goal.returns-clause-seen
returns-clause-seen c e has = let f = c.close_with-closed.ensures.values.2 in
    seen_fall c.self.inside.table.shared.key f.0 f.1.0 c.drop_killed.new.flags (c.drop_killed.ensures.count ∙ c.self.invariant.0) (shows c) _ _ f.1.1 e (subst (λ (v : SeatView). Contains v.known.seen e) (sym c.seat.view_is) has)

pub returns-clause-settled : goal.returns-clause-settled
returns-clause-settled c quiet = let f = c.close_with-closed.ensures.values.2 in let net = ap (λ (v : MarksView). v.net) c.self.view_is in
    subst (λ (n : NetworkParts). AreLive n (live_numbers c.drop_killed.new.flags)) net
    (settled_live c.self.inside.table.shared.key f.0 f.1.0 c.drop_killed.new.flags (c.drop_killed.ensures.count ∙ c.self.invariant.0) (shows c) _ _ f.1.1 (ap (λ (v : SeatView). v.known.settled) c.seat.view_is ∙ quiet))

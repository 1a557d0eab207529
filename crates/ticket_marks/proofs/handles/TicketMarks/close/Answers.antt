use Rattle.std.proofs.Common.{◌≡◌, ℕ, ◌*◌, ◌<◌, ◌≤◌, List, length, slice_index, Contains, sym, ap, ◌∙◌, subst, arith}
use Rattle.lmt_network.specs.Derivation.{IsDerivation}
use Rattle.lmt_network.specs.Network.{NetworkParts}
use Rattle.ticket_marks.specs.Handles.{SeatView, TicketsView}
use Rattle.ticket_marks.specs.Rule.{ranked}
use Rattle.ticket_marks.proofs.Closes.{ranks_derived, ranks_most, ranks_seen}
use Rattle.ticket_marks.proofs.handles.TicketMarks.close.Goals as goal

-- the ranks are the marks of the last state
shows : (c : goal.After-put_away) → (e : ℕ) → e < length c.self.inside.table.shared.key.net.value.edges → slice_index c.take_marks.new.ranks e ≡ slice_index c.close_with-closed.ensures.values.2.0.words e
shows c e low = let i₀ = c.self.invariant.0 in c.take_marks.ensures.each e (omega arith) ∙ ap (λ (l : List ℕ). slice_index l e) (sym c.close_with-closed.ensures.values.2.2)

pub returns-clause-derivation : goal.returns-clause-derivation
returns-clause-derivation c = let f = c.close_with-closed.ensures.values.2 in
    subst (λ (n : NetworkParts). IsDerivation n c.take_marks.new.ranks) (ap (λ (v : TicketsView). v.net) c.self.view_is)
    (ranks_derived c.self.inside.table.shared.key f.0 f.1.0 c.take_marks.new.ranks (c.take_marks.ensures.one_each ∙ c.self.invariant.0) (shows c))

pub returns-clause-most : goal.returns-clause-most
returns-clause-most c e = let f = c.close_with-closed.ensures.values.2 in
    subst (λ (n : NetworkParts). slice_index c.take_marks.new.ranks e ≤ 65 * length n.edges) (ap (λ (v : TicketsView). v.net) c.self.view_is)
    (ranks_most c.self.inside.table.shared.key f.0 f.1.0 c.take_marks.new.ranks (c.take_marks.ensures.one_each ∙ c.self.invariant.0) (shows c) e)

pub returns-clause-seen : goal.returns-clause-seen
returns-clause-seen c e m has = let f = c.close_with-closed.ensures.values.2 in
    ranks_seen c.self.inside.table.shared.key f.0 f.1.0 c.take_marks.new.ranks (c.take_marks.ensures.one_each ∙ c.self.invariant.0) (shows c) _ _ f.1.1 e m
    (subst (λ (v : SeatView). Contains v.known.seen (ranked e m)) (sym c.seat.view_is) has)

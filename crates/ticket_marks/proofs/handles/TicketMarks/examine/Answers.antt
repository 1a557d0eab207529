use Rattle.std.proofs.Common.{ℕ, ◌++◌, get_or, sym, ◌∙◌, subst, arith}
use Rattle.std.proofs.lemmas.List.Elements.{Contains-get_or}
use Rattle.lmt_network.specs.Network.{NetworkParts}
use Rattle.lmt_network.specs.Numbers.{IsOnLeft}
use Rattle.ticket_marks.specs.Told.{Remembers}
use Rattle.mark_seats.proofs.Supports.{ask_both, one_left_broken, all_lefts_broken, live_pair_back}
use Rattle.ticket_marks.proofs.Loads.{looked_on, ranks_loaded, steps_of, tried_of}
use Rattle.ticket_marks.proofs.Remembering.{remembers_looks}
use Rattle.ticket_marks.proofs.handles.TicketMarks.examine.Goals as goal

pub partner-requires-clause-on_left : goal.partner-requires-clause-on_left
partner-requires-clause-on_left c = let ls = c.left-l-items.result.now in
    subst (λ (n : NetworkParts). IsOnLeft n c.args.e (get_or ls c.loop-l.l-index 0)) c.requires.belongs.1 ((c.left-l-items.ensures.members _).0 (Contains-get_or ls c.loop-l.l-index 0 c.loop-l-test.true))

pub returns-in-Some-clause-kept : goal.returns-in-Some-clause-kept
returns-in-Some-clause-kept c = let so = c.loop-l.invariant.2 in let t = c.in-Some.ensures.told in
    subst (Remembers c.args.seat.now.known) (sym (looked_on c.args.seat.now.known c.loop-l.seat.known c.partner.new.seat.known so.0 t.0 so.1 t.1)) (remembers_looks (so.0 ++ t.0) c.args.seat.now.known)

pub returns-in-Some-clause-told : goal.returns-in-Some-clause-told
returns-in-Some-clause-told c = let n = c.args.self.now.net in let l : ℕ = get_or c.left-l-items.result.now c.loop-l.l-index 0 in let so = c.loop-l.invariant.2 in let t = c.in-Some.ensures.told in (
  so.0 ++ t.0,
  looked_on c.args.seat.now.known c.loop-l.seat.known c.partner.new.seat.known so.0 t.0 so.1 t.1,
  ask_both n c.args.e so.0 t.0 so.2 t.2,
  live_pair_back ranks_loaded n c.args.e l c.in-Some.r so.0 t.0 t.3,
)

pub returns-in-Some-clause-steps : goal.returns-in-Some-clause-steps
returns-in-Some-clause-steps c = let n = c.args.self.now.net in let l : ℕ = get_or c.left-l-items.result.now c.loop-l.l-index 0 in let so = c.loop-l.invariant.2 in let t = c.in-Some.ensures.told in (
  so.0 ++ t.0,
  steps_of (so.0 ++ t.0) c.args.seat.now.known c.partner.new.seat.known (looked_on c.args.seat.now.known c.loop-l.seat.known c.partner.new.seat.known so.0 t.0 so.1 t.1),
  ask_both n c.args.e so.0 t.0 so.2 t.2,
  live_pair_back ranks_loaded n c.args.e l c.in-Some.r so.0 t.0 t.3,
)

pub returns-in-Some-clause-tried : goal.returns-in-Some-clause-tried
returns-in-Some-clause-tried c = let so = c.loop-l.invariant.2 in let t = c.in-Some.ensures.told in
    tried_of (so.0 ++ t.0) c.args.seat.now.known c.partner.new.seat.known (looked_on c.args.seat.now.known c.loop-l.seat.known c.partner.new.seat.known so.0 t.0 so.1 t.1)

pub loop-l-preserved : goal.loop-l-preserved
loop-l-preserved c = let n = c.args.self.now.net in let so = c.loop-l.invariant.2 in let t = c.in_default.ensures.told in (
  (c.partner.ensures.seat.0.0 ∙ c.loop-l.invariant.0.0, c.partner.ensures.seat.0.1 ∙ c.loop-l.invariant.0.1),
  c.partner.ensures.seat.1,
  one_left_broken ranks_loaded n c.args.e c.left-l-items.result.now c.args.seat.now.known c.loop-l.seat.known c.partner.new.seat.known c.loop-l.l-index so t.0 t.1 t.2 t.4,
)

pub returns-clause-kept : goal.returns-clause-kept
returns-clause-kept c = let so = c.loop-l.invariant.2 in subst (Remembers c.args.seat.now.known) (sym so.1) (remembers_looks so.0 c.args.seat.now.known)

pub returns-clause-told : goal.returns-clause-told
returns-clause-told c = let n = c.args.self.now.net in let ls = c.left-l-items.result.now in let so = c.loop-l.invariant.2 in let l = c.loop-l-test.false in
    (so.0, so.1, so.2, all_lefts_broken ranks_loaded n c.args.e ls c.args.seat.now.known c.loop-l.seat.known c.loop-l.l-index so (omega arith) (λ t on. (c.left-l-items.ensures.members t).1 (subst (λ (n : NetworkParts). IsOnLeft n c.args.e t) (sym c.requires.belongs.1) on)))

pub returns-clause-steps : goal.returns-clause-steps
returns-clause-steps c = let n = c.args.self.now.net in let ls = c.left-l-items.result.now in let so = c.loop-l.invariant.2 in let l = c.loop-l-test.false in
    (so.0, steps_of so.0 c.args.seat.now.known c.loop-l.seat.known so.1, so.2, all_lefts_broken ranks_loaded n c.args.e ls c.args.seat.now.known c.loop-l.seat.known c.loop-l.l-index so (omega arith) (λ t on. (c.left-l-items.ensures.members t).1 (subst (λ (n : NetworkParts). IsOnLeft n c.args.e t) (sym c.requires.belongs.1) on)))

pub returns-clause-tried : goal.returns-clause-tried
returns-clause-tried c = let so = c.loop-l.invariant.2 in tried_of so.0 c.args.seat.now.known c.loop-l.seat.known so.1

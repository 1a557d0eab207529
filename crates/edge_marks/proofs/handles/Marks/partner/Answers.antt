use Rattle.std.proofs.Common.{ℕ, ◌++◌, get_or, inl, inr, sym, ◌∙◌, subst, arith}
use Rattle.std.proofs.lemmas.List.Elements.{Contains-get_or}
use Rattle.lmt_network.specs.Network.{NetworkParts}
use Rattle.lmt_network.specs.Numbers.{IsOnRight}
use Rattle.mark_seats.proofs.Supports.{ask_at, ask_both, broken_left, one_right_broken, all_rights_broken, live_pair}
use Rattle.edge_marks.proofs.Loads.{looked_on, marks_loaded}
use Rattle.edge_marks.proofs.handles.Marks.partner.Goals as goal

pub returns-then-not-has_live_sides-clause-told : goal.returns-then-not-has_live_sides-clause-told
returns-then-not-has_live_sides-clause-told c = let n = c.args.self.now.net in let t = c.has_live_sides.ensures.told in
    (t.0, t.1, ask_at n c.args.e c.args.l t.0 (inl c.requires.on_left) t.2, tt, broken_left n c.args.e c.args.l c.has_live_sides.new.seat.known.seen (t.4 c.if-not-has_live_sides.true))

pub pairs_with-requires-clause-on_right : goal.pairs_with-requires-clause-on_right
pairs_with-requires-clause-on_right c = let rs = c.right-r-items.result.now in
    subst (λ (n : NetworkParts). IsOnRight n c.args.e (get_or rs c.loop-r.r-index 0)) c.requires.belongs.1 ((c.right-r-items.ensures.members _).0 (Contains-get_or rs c.loop-r.r-index 0 c.loop-r-test.true))

pub returns-then-pairs_with-clause-told : goal.returns-then-pairs_with-clause-told
returns-then-pairs_with-clause-told c = let n = c.args.self.now.net in let rs = c.right-r-items.result.now in let r : ℕ = get_or rs c.loop-r.r-index 0 in let first = c.has_live_sides.ensures.told in let so = c.loop-r.invariant.2 in let t = c.pairs_with.ensures.told in
    let on = subst (λ (n : NetworkParts). IsOnRight n c.args.e r) c.requires.belongs.1 ((c.right-r-items.ensures.members _).0 (Contains-get_or rs c.loop-r.r-index 0 c.loop-r-test.true)) in let found = t.3 c.if-pairs_with.true in (
      first.0 ++ (so.0 ++ t.0),
      looked_on c.args.seat.now.known c.has_live_sides.new.seat.known c.pairs_with.new.seat.known first.0 (so.0 ++ t.0) first.1 (looked_on c.has_live_sides.new.seat.known c.loop-r.seat.known c.pairs_with.new.seat.known so.0 t.0 so.1 t.1),
      ask_both n c.args.e first.0 (so.0 ++ t.0) (ask_at n c.args.e c.args.l first.0 (inl c.requires.on_left) first.2) (ask_both n c.args.e so.0 t.0 so.2 (ask_at n c.args.e r t.0 (inr on) t.2)),
      live_pair marks_loaded n c.args.e c.args.l r first.0 so.0 t.0 found.0 (first.3 c.if-not-has_live_sides.false) found.1,
      tt,
    )

pub loop-r-preserved : goal.loop-r-preserved
loop-r-preserved c = let n = c.args.self.now.net in let rs = c.right-r-items.result.now in let r : ℕ = get_or rs c.loop-r.r-index 0 in let so = c.loop-r.invariant.2 in let t = c.pairs_with.ensures.told in
    let on = subst (λ (n : NetworkParts). IsOnRight n c.args.e r) c.requires.belongs.1 ((c.right-r-items.ensures.members _).0 (Contains-get_or rs c.loop-r.r-index 0 c.loop-r-test.true)) in (
      (c.pairs_with.ensures.seat.0.0 ∙ c.loop-r.invariant.0.0, c.pairs_with.ensures.seat.0.1 ∙ c.loop-r.invariant.0.1),
      c.pairs_with.ensures.seat.1,
      one_right_broken marks_loaded n c.args.e c.args.l rs c.has_live_sides.new.seat.known c.loop-r.seat.known c.pairs_with.new.seat.known c.loop-r.r-index so t.0 t.1 (ask_at n c.args.e r t.0 (inr on) t.2) (t.4 c.if-pairs_with.false),
    )

pub returns-clause-told : goal.returns-clause-told
returns-clause-told c = let n = c.args.self.now.net in let rs = c.right-r-items.result.now in let first = c.has_live_sides.ensures.told in let so = c.loop-r.invariant.2 in let l = c.loop-r-test.false in (
  first.0 ++ so.0,
  looked_on c.args.seat.now.known c.has_live_sides.new.seat.known c.loop-r.seat.known first.0 so.0 first.1 so.1,
  ask_both n c.args.e first.0 so.0 (ask_at n c.args.e c.args.l first.0 (inl c.requires.on_left) first.2) so.2,
  tt,
  all_rights_broken marks_loaded n c.args.e c.args.l rs c.has_live_sides.new.seat.known c.loop-r.seat.known c.loop-r.r-index so (omega arith) (λ t on. (c.right-r-items.ensures.members t).1 (subst (λ (n : NetworkParts). IsOnRight n c.args.e t) (sym c.requires.belongs.1) on)),
)

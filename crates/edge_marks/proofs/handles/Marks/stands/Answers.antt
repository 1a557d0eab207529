use Rattle.std.proofs.Common.{[], ◌++◌, inl, inr}
use Rattle.std.proofs.lemmas.Bool.{false≢true}
use Rattle.mark_seats.proofs.Supports.{ask_at, ask_both, live_pair}
use Rattle.edge_marks.proofs.Loads.{looked_on, marks_loaded}
use Rattle.edge_marks.proofs.handles.Marks.stands.Goals as goal

pub returns-then-not-has_live_sides-clause-told : goal.returns-then-not-has_live_sides-clause-told
returns-then-not-has_live_sides-clause-told c = let t = c.has_live_sides.ensures.told in
    (t.0, t.1, ask_at c.args.self.now.net c.args.e c.args.l t.0 (inl c.requires.on_left) t.2, λ h. absurd (false≢true h))

pub returns-clause-told : goal.returns-clause-told
returns-clause-told c = let n = c.args.self.now.net in let e = c.args.e in let first = c.has_live_sides.ensures.told in let t = c.pairs_with.ensures.told in (
  first.0 ++ t.0,
  looked_on c.args.seat.now.known c.has_live_sides.new.seat.known c.pairs_with.new.seat.known first.0 t.0 first.1 t.1,
  ask_both n e first.0 t.0 (ask_at n e c.args.l first.0 (inl c.requires.on_left) first.2) (ask_at n e c.args.r t.0 (inr c.requires.on_right) t.2),
  λ h. let found = t.3 h in live_pair marks_loaded n e c.args.l c.args.r first.0 [] t.0 found.0 (first.3 c.if-not-has_live_sides.false) found.1,
)

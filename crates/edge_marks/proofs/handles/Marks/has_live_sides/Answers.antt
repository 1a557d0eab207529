use Rattle.std.proofs.Common.{ℕ, get_or, List, sym, ◌∙◌, subst, arith}
use Rattle.std.proofs.lemmas.Bool.{false≢true}
use Rattle.lmt_network.specs.Network.{NetworkParts}
use Rattle.lmt_network.specs.Numbers.{IsSideOf}
use Rattle.mark_seats.proofs.Supports.{side_at, ask_of_side, one_passed, one_killed, all_passed}
use Rattle.edge_marks.proofs.Loads.{marks_loaded}
use Rattle.edge_marks.proofs.handles.Marks.has_live_sides.Goals as goal

pub returns-then-not-passes-clause-told : goal.returns-then-not-passes-clause-told
returns-then-not-passes-clause-told c = let n = c.args.self.now.net in let sides : List ℕ = c.sides-sides.result in let t = c.passes.ensures.told in let l = c.loop-k-test.true in
    let side = side_at c.args.net.now n c.requires.belongs.1 c.args.t sides c.sides-sides.ensures.ab c.sides-sides.ensures.bc c.sides-sides.ensures.ca c.loop-k.k (omega arith) in
    let ls = one_killed marks_loaded n c.args.e c.args.t sides c.args.seat.now.known c.loop-k.seat.known c.passes.new.seat.known c.loop-k.k c.loop-k.invariant.2 t.0 t.1 (ask_of_side n c.args.e c.args.t _ t.0 side t.2) in let killed = t.4 c.if-not-passes.true in
    (ls.0, ls.1, ls.2, (λ h. absurd (false≢true h)), λ _. (get_or sides c.loop-k.k 0, killed.0, side, killed.1))

pub loop-k-preserved : goal.loop-k-preserved
loop-k-preserved c = let n = c.args.self.now.net in let sides : List ℕ = c.sides-sides.result in let t = c.passes.ensures.told in let l = c.loop-k-test.true in
    let side = side_at c.args.net.now n c.requires.belongs.1 c.args.t sides c.sides-sides.ensures.ab c.sides-sides.ensures.bc c.sides-sides.ensures.ca c.loop-k.k (omega arith) in (
      (c.passes.ensures.seat.0.0 ∙ c.loop-k.invariant.0.0, c.passes.ensures.seat.0.1 ∙ c.loop-k.invariant.0.1),
      c.passes.ensures.seat.1,
      one_passed marks_loaded n c.args.e c.args.t sides c.args.seat.now.known c.loop-k.seat.known c.passes.new.seat.known c.loop-k.k c.loop-k.invariant.2 t.0 t.1 (ask_of_side n c.args.e c.args.t _ t.0 side t.2) (t.3 c.if-not-passes.false),
    )

pub returns-clause-told : goal.returns-clause-told
returns-clause-told c = let n = c.args.self.now.net in let sides : List ℕ = c.sides-sides.result in let so = c.loop-k.invariant.2 in let l = c.loop-k-test.false in
    (so.0, so.1, so.2, (λ _. all_passed marks_loaded n c.args.e c.args.t sides c.args.seat.now.known c.loop-k.seat.known c.loop-k.k so (let w = c.sides-sides.type_inv in omega arith) (λ f h. c.sides-sides.ensures.only f (subst (λ (n : NetworkParts). IsSideOf n c.args.t f) (sym c.requires.belongs.1) h))), λ h. absurd (false≢true (sym h)))

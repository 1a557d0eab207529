use Rattle.std.proofs.Common.{ℕ, ◌≡◌, get_or, slice_index, List, sym, ◌∙◌, refl, subst, arith, below_more}
use Rattle.mark_seats.proofs.Supports.{side_at, at_member}
use Rattle.ticket_marks.proofs.support.has_unranked_sides.Goals as goal

pub returns-then-get-ne0-clause-no : goal.returns-then-get-ne0-clause-no
returns-then-get-ne0-clause-no c _ =
    let n = c.args.net.now in
    let sides : List ℕ = c.sides-sides.result in
    let low = c.loop-k-test.true in
    let is = c.get.ensures in
    let above = c.if-get-ne0.true in
    let e = c.sides-sides.ensures in
    (get_or sides c.loop-k.k 0, side_at n n refl c.args.t sides e.ab e.bc e.ca c.loop-k.k (omega arith), omega arith)

pub loop-k-preserved : goal.loop-k-preserved
loop-k-preserved c = below_more _ _ c.loop-k.invariant (sym c.get.ensures ∙ c.if-get-ne0.false)

pub returns-clause-yes : goal.returns-clause-yes
returns-clause-yes c _ f side =
    let sides : List ℕ = c.sides-sides.result in
    let m = at_member sides f (c.sides-sides.ensures.only f side) in
    let within = m.1 in
    let end = c.loop-k-test.false in
    let three = c.sides-sides.type_inv in
    subst (λ (g : ℕ). slice_index c.args.ranks.now g ≡ 0) m.2 (c.loop-k.invariant m.0 (omega arith))

use Rattle.std.proofs.Common.{ℕ, get_or, sym, subst, arith, below_more}
use Rattle.std.proofs.lemmas.List.Elements.{Contains-get_or}
use Rattle.lmt_network.specs.Numbers.{IsMinimalPair}
use Rattle.ticket_marks.specs.Finish.{HasRankedSide}
use Rattle.mark_seats.proofs.Supports.{at_member}
use Rattle.ticket_marks.proofs.Ranking.{broken_left, broken_right, supported_at}
use Rattle.ticket_marks.proofs.support.has_partner.Goals as goal

pub returns-then-not-has_unranked_sides-clause-no : goal.returns-then-not-has_unranked_sides-clause-no
returns-then-not-has_unranked_sides-clause-no c _ = broken_left c.args.net.now c.args.ranks.now c.args.e c.args.l c.requires.live (c.has_unranked_sides.ensures.no c.if-not-has_unranked_sides.true)

pub pairs_with-requires-clause-on_right : goal.pairs_with-requires-clause-on_right
pairs_with-requires-clause-on_right c = (c.right-r-items.ensures.members _).0 (Contains-get_or c.right-r-items.result.now c.loop-r.r-index 0 c.loop-r-test.true)

pub returns-then-pairs_with-clause-yes : goal.returns-then-pairs_with-clause-yes
returns-then-pairs_with-clause-yes c _ =
    let found = c.pairs_with.ensures.yes c.if-pairs_with.true in
    supported_at c.args.net.now c.args.ranks.now c.args.e c.args.l (get_or c.right-r-items.result.now c.loop-r.r-index 0) c.requires.one_each found.0
    (c.has_unranked_sides.ensures.yes c.if-not-has_unranked_sides.false) found.1

pub loop-r-preserved : goal.loop-r-preserved
loop-r-preserved c = below_more _ _ c.loop-r.invariant (c.pairs_with.ensures.no c.if-pairs_with.false)

pub returns-clause-no : goal.returns-clause-no
returns-clause-no c _ r pair =
    let n = c.args.net.now in
    let m = at_member c.right-r-items.result.now r ((c.right-r-items.ensures.members r).1 (pair.r_in, (pair.b, pair.right_is))) in
    let within = m.1 in
    let end = c.loop-r-test.false in
    broken_right n c.args.ranks.now c.args.e c.args.l r c.requires.live
    (subst (HasRankedSide n c.args.ranks.now) m.2
    (c.loop-r.invariant m.0 (omega arith) (subst (λ (t : ℕ). IsMinimalPair n c.args.e c.args.l t) (sym m.2) pair)))

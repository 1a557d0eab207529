use Rattle.std.proofs.Common.{subst, arith, below_more}
use Rattle.std.proofs.lemmas.List.Elements.{Contains-get_or}
use Rattle.ticket_marks.specs.Finish.{IsBrokenAt}
use Rattle.mark_seats.proofs.Supports.{at_member}
use Rattle.ticket_marks.proofs.support.is_supported.Goals as goal

pub has_partner-requires-clause-on_left : goal.has_partner-requires-clause-on_left
has_partner-requires-clause-on_left c = (c.left-l-items.ensures.members _).0 (Contains-get_or c.left-l-items.result.now c.loop-l.l-index 0 c.loop-l-test.true)

pub loop-l-preserved : goal.loop-l-preserved
loop-l-preserved c = below_more _ _ c.loop-l.invariant (c.has_partner.ensures.no c.if-has_partner.false)

pub returns-clause-no : goal.returns-clause-no
returns-clause-no c _ l r pair =
    let m = at_member c.left-l-items.result.now l ((c.left-l-items.ensures.members l).1 (pair.l_in, (pair.a, pair.left_is))) in
    let within = m.1 in
    let end = c.loop-l-test.false in
    subst (IsBrokenAt c.args.net.now c.args.ranks.now c.args.e) m.2 (c.loop-l.invariant m.0 (omega arith)) r pair

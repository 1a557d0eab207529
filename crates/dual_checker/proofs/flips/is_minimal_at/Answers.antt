use Rattle.std.proofs.lemmas.List.Elements.{All-filter}
use Rattle.dual_checker.specs.HalfEdges.{IsWithinPoints, is_on}
use Rattle.dual_checker.proofs.Deciding.{minimal_decides}
use Rattle.dual_checker.proofs.flips.is_minimal_at.Goals as goal

pub has_minimal-requires-clause-lefts_in : goal.has_minimal-requires-clause-lefts_in
has_minimal-requires-clause-lefts_in c =
    rw c.on.ensures (All-filter (is_on c.args.side) (IsWithinPoints c.args.points.now.points) c.args.halves.now c.requires.within)

pub has_minimal-requires-clause-rights_in : goal.has_minimal-requires-clause-rights_in
has_minimal-requires-clause-rights_in c =
    rw c.on-2.ensures (All-filter (is_on c.reversed.result) (IsWithinPoints c.args.points.now.points) c.args.halves.now c.requires.within)

pub returns : goal.returns
returns c =
    minimal_decides c.args.points.now.points c.args.halves.now c.on.result.now c.on-2.result.now c.args.rim.now c.args.side c.reversed.result c.has.result c.has_minimal.result
    c.if-side.false c.has.ensures c.if-has.false c.reversed.ensures c.on.ensures c.on-2.ensures c.has_minimal.ensures

use Rattle.std.proofs.Common.{◌≡◌, true}
use Rattle.std.proofs.lemmas.Bool.{false≢true}
use Rattle.exact_predicates.specs.Triangulation.{is_inner}
use Rattle.exact_predicates.proofs.Pairs.{is_inner_decides}
use Rattle.length_enclosure.proofs.total.with_side.Goals as goal

pub returns-then-not-is_rising_pair-clause-longer :
    goal.returns-then-not-is_rising_pair-clause-longer
returns-then-not-is_rising_pair-clause-longer c =
    let inner : is_inner c.args.hull.now (c.args.u, c.args.v) ≡ true = (is_inner_decides c.args.hull.now c.args.u c.args.v).1 (c.if-u-v.true, λ pair. absurd (false≢true (c.if-not-is_rising_pair.ensures.1 pair))) in
    rw inner c.with_edge.ensures.longer

pub returns-then-not-is_rising_pair-clause-bound :
    goal.returns-then-not-is_rising_pair-clause-bound
returns-then-not-is_rising_pair-clause-bound c =
    let inner : is_inner c.args.hull.now (c.args.u, c.args.v) ≡ true = (is_inner_decides c.args.hull.now c.args.u c.args.v).1 (c.if-u-v.true, λ pair. absurd (false≢true (c.if-not-is_rising_pair.ensures.1 pair))) in
    rw inner c.with_edge.ensures.bound

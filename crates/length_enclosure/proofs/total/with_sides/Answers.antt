use Rattle.std.proofs.Common.{arith}
use Rattle.length_enclosure.proofs.Edges.{inner_sides}
use Rattle.length_enclosure.proofs.total.with_sides.Goals as goal

pub returns-clause-bound : goal.returns-clause-bound
returns-clause-bound c = omega (arith, inner_sides c.args.hull.now c.args.tri)

use Rattle.std.proofs.Common.{ap, length, ◌∙◌}
use Rattle.std.proofs.lemmas.List.Sums.{length-filter}
use Rattle.dual_checker.specs.HalfEdges.{is_on}
use Rattle.dual_checker.proofs.half_edges.HalfEdges.count.Goals as goal

pub returns : goal.returns
returns c = ap length c.on.ensures ∙ length-filter (is_on c.args.side) c.args.self.now

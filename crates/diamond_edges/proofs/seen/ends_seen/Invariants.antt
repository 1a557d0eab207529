use Rattle.exact_predicates.specs.declared.diamond.Diamond.TheVariants.{Off}
use Rattle.point_grid.proofs.Listings.{AreBelow}
use Rattle.diamond_edges.specs.Rows.{IsNext}
use Rattle.diamond_edges.proofs.seen.ends_seen.Given as goal

abbrev pub invariant-loop-b : goal.invariant-loop-b
invariant-loop-b l = AreBelow (IsNext Off l.points.points l.a) l.b l.ends.items

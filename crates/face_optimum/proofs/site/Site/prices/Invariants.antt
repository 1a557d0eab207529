use Rattle.face_optimum.specs.Priced.{ArePutUpto}
use Rattle.face_optimum.proofs.site.Site.prices.Given as goal

abbrev pub invariant-loop-e : goal.invariant-loop-e
invariant-loop-e l = ArePutUpto l.self l.costs l.root_costs l.e l.prices

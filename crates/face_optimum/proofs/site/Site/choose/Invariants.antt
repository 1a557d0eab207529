use Rattle.face_optimum.specs.Chosen.{AreChosenUpto}
use Rattle.face_optimum.proofs.site.Site.choose.Given as goal

abbrev pub invariant-loop-f : goal.invariant-loop-f
invariant-loop-f l = AreChosenUpto l.self l.parts.costs.items l.f l.tris.items l.root_costs.items

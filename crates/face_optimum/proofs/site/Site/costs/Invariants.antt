use Rattle.face_optimum.specs.Cuts.{AreCostedUpto}
use Rattle.face_optimum.proofs.site.Site.costs.Given as goal

abbrev pub invariant-loop-e : goal.invariant-loop-e
invariant-loop-e l =
    AreCostedUpto l.self.net.now l.self.flags.now l.self.skeleton.now l.self.rings.now l.self.edge_seats.now l.self.tri_seats.now l.e-items l.e-index l.costs.items l.choices.items

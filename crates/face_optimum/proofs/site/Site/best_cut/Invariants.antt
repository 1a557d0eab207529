use Rattle.face_optimum.proofs.Best.{IsBestUpto}
use Rattle.face_optimum.proofs.site.Site.best_cut.Given as goal

abbrev pub invariant-loop-t : goal.invariant-loop-t
invariant-loop-t l = IsBestUpto l.self.net.now l.self.flags.now l.self.tri_seats.now l.costs l.u l.v l.t-items l.t-index l.best

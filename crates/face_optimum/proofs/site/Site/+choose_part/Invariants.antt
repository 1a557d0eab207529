use Rattle.face_optimum.proofs.Depths.{depth}
use Rattle.face_optimum.proofs.site.Site.+choose_part.Given as goal

abbrev pub decreases-choose_part : goal.decreases-choose_part
decreases-choose_part l = depth l.self.now l.e

use Rattle.face_optimum.proofs.Pricing.{last_there, skeleton_known}
use Rattle.face_optimum.proofs.site.Site.last_side.Goals as goal

pub number-requires : goal.number-requires
number-requires c =
    let s = c.args.self.now in
    skeleton_known s c.requires.site _ _ (last_there s c.requires.site c.args.f c.ring-face.result.now c.requires.f_in c.ring-face.ensures.value)

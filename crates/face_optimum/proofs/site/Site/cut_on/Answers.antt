use Rattle.face_optimum.proofs.site.Site.cut_on.Goals as goal

pub unreachable-requires : goal.unreachable-requires
unreachable-requires c = let (t, live, side) = c.requires.there in c.in-None.ensures t live side

-- The skeleton of live edges has faces.
use Rattle.exact_predicates.specs.declared.diamond.Diamond.TheVariants.{Off}
use Rattle.skeleton_faces.proofs.Clear.{AreClear-skeleton}
use Rattle.mwt_tests.proofs.skeletons.found_in.Goals as goal

pub faces-requires : goal.faces-requires
faces-requires g c = AreClear-skeleton _ _ Off _ _ c.in_ok-elimination.ensures.live.closed.candidates c.in-Ok.ensures.skeleton

pub connected-requires : goal.connected-requires
connected-requires g c = (AreClear-skeleton _ _ Off _ _ c.in_ok-elimination.ensures.live.closed.candidates c.in-Ok.ensures.skeleton).ends_in

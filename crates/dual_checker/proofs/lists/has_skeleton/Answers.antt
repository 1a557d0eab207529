use Rattle.std.proofs.lemmas.Slice.Eq.{slice_eq-Decides}
use Rattle.dual_checker.proofs.LiveLists.{Edge-decides, skeleton_decides}
use Rattle.dual_checker.proofs.lists.has_skeleton.Goals as goal

pub returns : goal.returns
returns c =
    skeleton_decides c.args.report.now c.args.elimination.now.net c.args.elimination.now.flags c.args.points.now.points c.in_ok-skeleton.skeleton c.as_slice.result.now c.as_slice-2.result.now c.eq.result
    c.requires.eliminated c.requires.live c.requires.points c.in_ok-skeleton.ensures.skeleton c.as_slice.ensures.is c.as_slice-2.ensures.is
    (slice_eq-Decides Edge-decides c.as_slice.result.now c.as_slice-2.result.now c.eq.result c.eq.ensures)

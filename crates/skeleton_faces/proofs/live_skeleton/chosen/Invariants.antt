use Rattle.std.proofs.Common.{◌≡◌, take}
use Rattle.std.specs.List.{items_where_true}
use Rattle.skeleton_faces.proofs.live_skeleton.chosen.Given as goal

abbrev pub invariant-loop-e : goal.invariant-loop-e
invariant-loop-e l = l.chosen.items ≡ items_where_true l.flags (take l.e l.net.edges)

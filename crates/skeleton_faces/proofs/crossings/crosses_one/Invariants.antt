use Rattle.std.proofs.Common.{ℕ, ◌<◌, get_or}
use Rattle.exact_predicates.specs.declared.edge.Edge.{Edge}
use Rattle.lmt_network.specs.Skeleton.{AreCrossing}
use Rattle.skeleton_faces.proofs.crossings.crosses_one.Given as goal

abbrev pub invariant-loop-other : goal.invariant-loop-other
invariant-loop-other l = (k : ℕ) (d : Edge) → k < l.other-index → ¬ AreCrossing l.points.points l.edge (get_or l.others k d)

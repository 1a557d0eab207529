use Rattle.std.proofs.Common.{Any}
use Rattle.lmt_network.specs.Network.{edge_at}
use Rattle.lmt_network.specs.Skeleton.{AreCrossing}
use Rattle.skeleton_faces.proofs.Dropping.{AreDropped}
use Rattle.skeleton_faces.proofs.live_skeleton.drop_crossed.Given as goal

abbrev pub invariant-loop-e : goal.invariant-loop-e
invariant-loop-e l = AreDropped (λ k. Any (AreCrossing l.points.points (edge_at l.net k)) l.others) l.fn.flags l.e l.flags

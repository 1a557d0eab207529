use Rattle.std.proofs.Common.{Contains}
use Rattle.std.proofs.lemmas.List.Elements.{All-weaker}
use Rattle.lmt_network.specs.Flags.{live_edges}
use Rattle.lmt_network.specs.Skeleton.{IsSkeletonEdge}
use Rattle.mwt_tests.proofs.prices.anchored.Goals as goal

pub returns-in-Ok : goal.returns-in-Ok
returns-in-Ok c =
    All-weaker (IsSkeletonEdge c.args.points.now.points (live_edges c.args.net.now c.args.flags.now)) (Contains (live_edges c.args.net.now c.args.flags.now))
    (λ e h. h.member) _ c.in-Ok.ensures.skeleton.each

use Rattle.std.proofs.Common.{Contains}
use Rattle.std.proofs.lemmas.List.Elements.{All-weaker}
use Rattle.lmt_network.specs.Flags.{live_edges}
use Rattle.lmt_network.specs.Skeleton.{IsSkeletonEdge}
use Rattle.mwt_tests.proofs.callers.priced.Goals as goal

pub ascent-requires-clause-skeleton : goal.ascent-requires-clause-skeleton
ascent-requires-clause-skeleton g c =
    let live = live_edges c.args.net.now c.in_ok-settled.settled.flags in
    All-weaker (IsSkeletonEdge c.args.points.now.points live) (Contains live) (λ e h. h.member) c.in_ok-skeleton.skeleton c.in_ok-skeleton.ensures.skeleton.each

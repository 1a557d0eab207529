use Rattle.skeleton_faces.specs.Rays.{AreShown}
use Rattle.skeleton_faces.proofs.FannedOut.{IsSideUpTo}
use Rattle.skeleton_faces.proofs.rays.live_rays.Given as goal

abbrev pub invariant-loop-e : goal.invariant-loop-e
invariant-loop-e l = AreShown l.net.points l.net.edges (IsSideUpTo l.flags l.e) l.rays.items

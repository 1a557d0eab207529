use Rattle.skeleton_faces.proofs.BareEdges.{IsBareTo}
use Rattle.skeleton_faces.proofs.bare.bare_edges.Given as goal

abbrev pub invariant-loop-e : goal.invariant-loop-e
invariant-loop-e l = IsBareTo l.net l.flags l.e l.bare.items

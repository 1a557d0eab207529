use Rattle.empty_triangles.proofs.Ends.{AreStartsBelow}
use Rattle.empty_triangles.proofs.edges.starts.Given as goal

abbrev pub invariant-loop-a : goal.invariant-loop-a
invariant-loop-a l = AreStartsBelow l.edges l.a l.place l.starts.items

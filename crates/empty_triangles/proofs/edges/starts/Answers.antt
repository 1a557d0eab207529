use Rattle.empty_triangles.proofs.Ends.{AreStartsBelow-push}
use Rattle.empty_triangles.proofs.edges.starts.Goals as goal

pub loop-a-preserved : goal.loop-a-preserved
loop-a-preserved c = rw c.in_ok-push.ensures.items (AreStartsBelow-push _ c.loop-a.a c.loop-a.place _ _ c.loop-a.invariant c.start_of-place.ensures)

pub returns-clause-are : goal.returns-clause-are
returns-clause-are c = record { ascending = c.requires.ascending; each = c.loop-a.invariant.each }

use Rattle.empty_triangles.proofs.Seen.{AreLists-push}
use Rattle.empty_triangles.proofs.sights.seen_places.Goals as goal

pub loop-j-preserved : goal.loop-j-preserved
loop-j-preserved c = rw c.in_ok-push.ensures.items (AreLists-push _ _ c.loop-j.j _ _ c.loop-j.invariant c.in_ok-places.ensures)

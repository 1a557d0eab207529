use Rattle.empty_triangles.proofs.Seen.{AreSeen-listed, AreSeenTo-next, AreSeen-last}
use Rattle.empty_triangles.proofs.sights.seen_from.Goals as goal

pub next_seen-requires-clause-places : goal.next_seen-requires-clause-places
next_seen-requires-clause-places c =
    let l = c.loop-places.invariant.here.before in
    rw c.deref.ensures.value (AreSeen-listed _ _ _ c.loop-places.k _ _ c.requires.seen l c.index-seen-k.is)

pub loop-places-preserved : goal.loop-places-preserved
loop-places-preserved c = rw c.in_ok-push.ensures.items (AreSeenTo-next _ _ c.args.j c.loop-places.k _ c.loop-places.invariant c.in-Some.i c.in-Some.ensures)

pub returns-in-None : goal.returns-in-None
returns-in-None c = rw c.in_ok-push.ensures.items (AreSeen-last _ _ c.args.j c.loop-places.k _ c.loop-places.invariant c.in-None.ensures)

use Rattle.std.proofs.Common.{arith}
use Rattle.empty_triangles.proofs.Seen.{AreSeen-listed}
use Rattle.empty_triangles.proofs.fan.thirds_at.Goals as goal

pub thirds_among-requires-clause-seen : goal.thirds_among-requires-clause-seen
thirds_among-requires-clause-seen c = rw c.deref.ensures.value (AreSeen-listed _ _ _ c.args.j _ _ c.requires.lists (omega (arith, c.args.corner.now.seen.ok)) c.index.ensures)

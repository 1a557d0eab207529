use Rattle.std.proofs.lemmas.List.Filters.{dedup_is}
use Rattle.flip_claims.proofs.Nearing.{near_sorted}
use Rattle.flip_claims.proofs.near.around.Goals as goal

pub returns : goal.returns
returns c = near_sorted c.args.mesh.now c.args.slots.now c.args.triangles.now c.in_ok-near.near.items c.sort_unstable.new.self.items c.dedup.new.self.items
    c.in_ok-near.ensures c.sort_unstable.ensures.permutation c.sort_unstable.ensures.sorted (dedup_is _ _ _ c.dedup.ensures.filtered)

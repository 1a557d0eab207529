use Rattle.std.proofs.lemmas.List.Filters.{dedup_is}
use Rattle.diamond_edges.proofs.Walks.{IsRow-made}
use Rattle.diamond_edges.proofs.walk.ends_linked.Goals as goal

pub returns : goal.returns
returns c =
    let added = rw (c.len.ensures.value, c.new-row.ensures.items) at c.in_ok-walk.ensures.added in
    IsRow-made _ _ _ _ _ _ c.requires.tree added c.sort_unstable.ensures.permutation c.sort_unstable.ensures.sorted (dedup_is _ _ _ c.dedup.ensures.filtered)

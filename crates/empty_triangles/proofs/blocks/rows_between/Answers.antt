use Rattle.rayon.proofs.ToStd.{nat_range-All}
use Rattle.mwt_base.specs.declared.outside.NoMemory.{NoMemory}
use Rattle.exact_predicates.specs.declared.tri.Tri.{Tri}
use Rattle.exact_predicates.specs.Candidates.{TriPrecedes, IsEmptyOver}
use Rattle.point_grid.proofs.ThreadRows.{rows_made}
use Rattle.empty_triangles.specs.Enumeration.{IsReady, group_of}
use Rattle.empty_triangles.proofs.blocks.rows_between.Goals as goal

pub collect-requires-clause-ready : goal.collect-requires-clause-ready
collect-requires-clause-ready g c κs within =
    let ends = c.into_par_iter.ensures in
    let all = nat_range-All (IsReady c.args.points.now.points c.args.grid.now c.args.edges.now c.args.starts.now) c.args.group c.args.to
    (λ g low high. record { grid = c.requires.grid; within = c.requires.within; starts_are = c.requires.starts; count = c.requires.count; group_in = c.requires.to_in g high }) in
    rw (c.map.ensures.base, c.map.ensures.f, c.with_min_len.ensures.base, ends.0, ends.1) (λ k d l. (all k d l, λ y p. tt))

pub returns : goal.returns
returns g c =
    let ends = c.into_par_iter.ensures in
    let h = rw (c.map.ensures.base, c.map.ensures.f, c.with_min_len.ensures.base, ends.0, ends.1) at c.in_ok-collect.ensures in
    rows_made Tri TriPrecedes (IsEmptyOver c.args.points.now.points c.args.edges.now) group_of NoMemory c.args.group c.args.to h.0 _ c.requires.group_to (rw h.1.1 at h.1.2) h.2

use Rattle.std.proofs.Common.{arith}
use Rattle.std.proofs.lemmas.Result.{err_from_is_err_and}
use Rattle.mwt_base.specs.Limits.{most_triangles}
use Rattle.exact_predicates.specs.declared.tri.Tri.{Tri}
use Rattle.exact_predicates.specs.Candidates.{TriPrecedes, IsEmptyOver}
use Rattle.point_grid.proofs.ThreadRows.{row_appended}
use Rattle.empty_triangles.specs.Enumeration.{group_of}
use Rattle.empty_triangles.proofs.Lists.{earlier, with_all, more_than_listed}
use Rattle.empty_triangles.proofs.rows.triangles.Goals as goal

pub returns-in_err-append-clause-dense : goal.returns-in_err-append-clause-dense
returns-in_err-append-clause-dense g c =
    let p = err_from_is_err_and c.from_residual-in_err-append.result c.from_residual-in_err-append.ensures.1 in
    rw (p.1, p.2) (λ d.
    more_than_listed _ _ _ most_triangles _ (c.in_err-append.ensures.dense d)
    (row_appended Tri TriPrecedes (IsEmptyOver c.args.points.now.points c.args.edges.now) group_of _ _ _ c.loop-i.i _ _ _ earlier (rw c.as_slice-in-loop-group.ensures.is at c.in_ok-rows.ensures) (omega arith) c.index.ensures c.deref-in-loop-i.ensures.value c.loop-i.invariant.0))

pub loop-i-preserved : goal.loop-i-preserved
loop-i-preserved g c = (
  rw c.in_ok-append.ensures.appended
      (row_appended Tri TriPrecedes (IsEmptyOver c.args.points.now.points c.args.edges.now) group_of _ _ _ c.loop-i.i _ _ _ earlier (rw c.as_slice-in-loop-group.ensures.is at c.in_ok-rows.ensures) (omega arith) c.index.ensures c.deref-in-loop-i.ensures.value c.loop-i.invariant.0),
  c.in_ok-append.ensures.few,
)

pub returns-clause-listed : goal.returns-clause-listed
returns-clause-listed g c = rw c.of.ensures (with_all _ _ c.loop-group.group _ (omega arith) c.loop-group.invariant.0)

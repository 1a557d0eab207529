use Rattle.std.proofs.Common.{arith, inl}
use Rattle.std.proofs.lemmas.Result.{err_from_is_err_and}
use Rattle.mwt_base.specs.Limits.{most_edges}
use Rattle.exact_predicates.specs.declared.edge.Edge.{Edge}
use Rattle.exact_predicates.specs.Candidates.{EdgePrecedes}
use Rattle.point_grid.proofs.ThreadRows.{row_appended}
use Rattle.diamond_edges.specs.Enumeration.{IsOpenEdge}
use Rattle.diamond_edges.proofs.Opens.{listed_candidates, more_candidates}
use Rattle.diamond_edges.proofs.rows.candidates.Goals as goal

pub returns-in_err-append-clause-dense : goal.returns-in_err-append-clause-dense
returns-in_err-append-clause-dense g c =
    let p = err_from_is_err_and c.from_residual-in_err-append.result c.from_residual-in_err-append.ensures.1 in
    rw (p.1, p.2) (λ d.
    more_candidates c.args.points.now.points c.args.hull.now c.args.diamond _ most_edges _ (c.in_err-append.ensures.dense d)
    (row_appended Edge EdgePrecedes (IsOpenEdge c.args.diamond c.args.points.now.points) (λ (e : Edge). e.a) _ _ _ c.loop-i.i _ _ _ (λ x y l. inl l) c.in_ok-rows.ensures (omega arith) c.index.ensures c.deref.ensures.value c.loop-i.invariant.0))

pub loop-i-preserved : goal.loop-i-preserved
loop-i-preserved g c = (
  rw c.in_ok-append.ensures.appended
      (row_appended Edge EdgePrecedes (IsOpenEdge c.args.diamond c.args.points.now.points) (λ (e : Edge). e.a) _ _ _ c.loop-i.i _ _ _ (λ x y l. inl l) c.in_ok-rows.ensures (omega arith) c.index.ensures c.deref.ensures.value c.loop-i.invariant.0),
  c.in_ok-append.ensures.few,
)

pub returns-clause-listed : goal.returns-clause-listed
returns-clause-listed g c = rw c.of.ensures (listed_candidates c.args.points.now.points c.args.hull.now c.args.diamond c.loop-a.a _ c.requires.hull (omega arith) c.loop-a.invariant.0)

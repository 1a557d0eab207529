use Rattle.std.proofs.Common.{rules, of_calls, ◌∙◌}
use Rattle.std.proofs.lemmas.Fn.{always_returns_same}
use Rattle.dual_checker.proofs.BySide.{is_before, is_upto, found_on}
use Rattle.dual_checker.proofs.half_edges.HalfEdges.on.Goals as goal

pub slice_bounds-result-count : goal.slice_bounds-result-count
slice_bounds-result-count c =
    (found_on c.args.self.now c.args.side c.deref.result.now c.deref-2.result.now c.partition_point-from.result c.partition_point-to.result
    (rw (← c.self.view_is) c.self.invariant) (c.deref.ensures.value ∙ c.self.view_is) (c.deref-2.ensures.value ∙ c.self.view_is) c.partition_point-from.ensures.bound c.partition_point-to.ensures.bound
    (c.partition_point-from.ensures.partitioned (is_before c.args.side) (always_returns_same _ _ _ (λ a r f k. search (rules, of_calls))))
    (c.partition_point-to.ensures.partitioned (is_upto c.args.side) (always_returns_same _ _ _ (λ a r f k. search (rules, of_calls))))).0

pub slice_bounds-result-start : goal.slice_bounds-result-start
slice_bounds-result-start c =
    let found = found_on c.args.self.now c.args.side c.deref.result.now c.deref-2.result.now c.partition_point-from.result c.partition_point-to.result
    (rw (← c.self.view_is) c.self.invariant) (c.deref.ensures.value ∙ c.self.view_is) (c.deref-2.ensures.value ∙ c.self.view_is) c.partition_point-from.ensures.bound c.partition_point-to.ensures.bound
    (c.partition_point-from.ensures.partitioned (is_before c.args.side) (always_returns_same _ _ _ (λ a r f k. search (rules, of_calls))))
    (c.partition_point-to.ensures.partitioned (is_upto c.args.side) (always_returns_same _ _ _ (λ a r f k. search (rules, of_calls)))) in
    let rises = found.0 in
    search (rules, rises)

pub returns : goal.returns
returns c =
    let found = found_on c.args.self.now c.args.side c.deref.result.now c.deref-2.result.now c.partition_point-from.result c.partition_point-to.result
    (rw (← c.self.view_is) c.self.invariant) (c.deref.ensures.value ∙ c.self.view_is) (c.deref-2.ensures.value ∙ c.self.view_is) c.partition_point-from.ensures.bound c.partition_point-to.ensures.bound
    (c.partition_point-from.ensures.partitioned (is_before c.args.side) (always_returns_same _ _ _ (λ a r f k. search (rules, of_calls))))
    (c.partition_point-to.ensures.partitioned (is_upto c.args.side) (always_returns_same _ _ _ (λ a r f k. search (rules, of_calls)))) in
    rw (c.deref-3.ensures.value ∙ c.self.view_is) found.1

use Rattle.std.proofs.Common.{◌↔◌, List, IsTrue, Contains, subst, ◌∙◌}
use Rattle.std.specs.List.Sorted.{IsSorted}
use Rattle.dual_checker.specs.declared.half_edges.Side.{Side}
use Rattle.dual_checker.specs.HalfEdges.{side_cmp}
use Rattle.dual_checker.proofs.BySide.{searched_side}
use Rattle.dual_checker.proofs.rim.Rim.has.Goals as goal

pub returns : goal.returns
returns c =
    let sorted : IsSorted side_cmp c.deref.result.now = rw c.deref.ensures.value c.self.invariant in
    subst (λ (sides : List Side). IsTrue c.is_ok.result ↔ Contains sides c.args.side) (c.deref.ensures.value ∙ c.self.view_is)
    (searched_side c.deref.result.now c.args.side c.binary_search.result c.is_ok.result sorted c.binary_search.ensures.position c.binary_search.ensures.bound c.is_ok.ensures.value)

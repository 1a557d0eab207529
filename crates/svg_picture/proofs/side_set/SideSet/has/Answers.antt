use Rattle.std.proofs.Common.{◌≡◌, ◌∙◌, ℕ, List, subst}
use Rattle.std.specs.List.Sorted.{IsSorted}
use Rattle.svg_picture.specs.Edges.{has_side, side_cmp}
use Rattle.svg_picture.proofs.Searching.{searched}
use Rattle.svg_picture.proofs.side_set.SideSet.has.Goals as goal

pub returns : goal.returns
returns c =
    let sorted : IsSorted side_cmp c.deref.result.now = rw c.deref.ensures.value c.self.invariant in
    subst (λ (ss : List (ℕ × ℕ)). c.is_ok.result ≡ has_side ss c.args.u c.args.v) (c.deref.ensures.value ∙ c.self.view_is)
    (searched c.deref.result.now c.args.u c.args.v c.binary_search.result c.is_ok.result sorted c.binary_search.ensures.position c.binary_search.ensures.bound c.is_ok.ensures.value)

use Rattle.std.proofs.Common.{◌∙◌, ℕ, List, ap, sym}
use Rattle.std.proofs.lemmas.List.Sorted.{list_any-IsPermutation}
use Rattle.exact_predicates.specs.Triangulation.{is_side}
use Rattle.svg_picture.specs.Edges.{has_side}
use Rattle.svg_picture.proofs.side_set.SideSet.of.Goals as goal

pub returns : goal.returns
returns c = λ u v.
    sym (list_any-IsPermutation (is_side u v) _ _ c.sort_unstable.ensures.permutation)
    ∙ ap (λ (ss : List (ℕ × ℕ)). has_side ss u v) c.in_ok-sides.ensures.items

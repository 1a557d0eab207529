use Rattle.std.proofs.Common.{◌≡◌, ℕ, true, false, slice_index, slice_index_or, ◌∙◌, subst, arith}
use Rattle.std.proofs.lemmas.List.{get_or_default}
use Rattle.lmt_network.proofs.settle.make_sides_due.Goals as goal

pub returns-clause-sides : goal.returns-clause-sides
returns-clause-sides c = λ f side.
    let (k, k_in, at_k) = c.sides-f-items.ensures.only f side in
    let is : slice_index c.sides-f-items.result k ≡ f = get_or_default c.sides-f-items.result k 0 f k_in ∙ at_k in
    subst (λ (x : ℕ). slice_index_or c.loop-f.due x false ≡ true) is (c.loop-f.invariant.1 k (omega arith))

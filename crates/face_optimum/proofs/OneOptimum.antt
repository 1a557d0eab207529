-- The rule on faces gives one result.
use Rattle.std.proofs.Common.{List, length, arith, refl, subst}
use Rattle.exact_predicates.specs.declared.tri.Tri.{Tri}
use Rattle.std.specs.List.Sorted.{IsPermutation}
use Rattle.face_optimum.specs.Decomposition.{bounded_faces}
use Rattle.face_optimum.specs.OneOptimum.{OneFaceOptimum}
use Rattle.face_optimum.proofs.OneCost.{all_chosen}
use Rattle.face_optimum.proofs.OnePrice.{same_prices}
use Rattle.face_optimum.proofs.SortedTris.{sorted_once}

pub one_optimum : OneFaceOptimum
one_optimum ps hull live skeleton cycles most first second left right h up are faces_are d a b =
    let faces = bounded_faces hull cycles in
    let x = a.tris_are in
    let y = b.tris_are in
    let chosen = all_chosen ps live skeleton faces a.cost b.cost (length faces) x.chosen y.chosen (omega arith) a.costs b.costs x.chosen_are y.chosen_are in (
      sorted_once y.chosen first second (subst (λ (ts : List Tri). IsPermutation ts first) chosen x.same) y.same x.ascending y.ascending,
      same_prices ps hull live skeleton cycles faces most h up are faces_are refl d a.cost b.cost a.costs b.costs left right a.prices_are b.prices_are,
    )

use Rattle.std.proofs.Common.{◌≡◌, ℕ, ◌-◌, List, length, take, drop, subst, arith, length-drop}
use Rattle.std.proofs.Math.Seq.{take-length}
use Rattle.point_grid.specs.declared.spot.Spot.{Spot}
use Rattle.point_grid.proofs.Growing.{AreSpotsOf-grown}
use Rattle.point_grid.proofs.Parting.{Grows-first}
use Rattle.point_grid.proofs.box_tree.BoxTree.new.Goals as goal

-- what is left after the first
rest_is : (spots : List Spot) → take (length spots - 1) (drop 1 spots) ≡ drop 1 spots
rest_is spots = subst (λ (n : ℕ). take n (drop 1 spots) ≡ drop 1 spots) (length-drop 1 spots) (take-length (drop 1 spots))

pub returns : goal.returns
returns c =
    let spots = c.in_ok-spots.spots.items in
    let grown = rw (c.deref_mut.ensures.value, rest_is spots, c.new-entries.ensures.items, c.index.ensures) at c.in_ok-grow.ensures in
    AreSpotsOf-grown _ spots _ c.in_ok-spots.ensures.numbered (Grows-first _ _ spots c.index.result.now (omega (arith, c.in_ok-spots.ensures.some, c.in_ok-spots.spots.ok)) grown)

use Rattle.std.proofs.Common.{arith, ⊎_elim, subst}
use Rattle.std.proofs.lemmas.List.Elements.{All-contains}
use Rattle.point_grid.specs.declared.spot.Spot.{Spot}
use Rattle.point_grid.specs.Frames.{IsInFrame}
use Rattle.point_grid.specs.Tree.{IsHeadOrAmong}
use Rattle.point_grid.proofs.Growing.{AreFramed-leaf, Grows-fork}
use Rattle.point_grid.proofs.Parting.{Grows-leaves, Grows-parted, Grows-parted_back, length_parted}
use Rattle.point_grid.proofs.box_tree.+grow.Goals as goal
use Rattle.point_grid.proofs.box_tree.+grow.Goals.{then-others-lt-FEW+in_ok-push+in_ok-push_leaves, else-others-lt-FEW+then-across+in_ok-grow+in_ok-grow-2, else-others-lt-FEW+else-across+in_ok-grow-3+in_ok-grow-4}

pub push_leaves-requires : goal.push_leaves-requires
push_leaves-requires t c = record { framed = rw c.in_ok-push.ensures.items (AreFramed-leaf _ _ c.requires.framed) }

pub grow-requires-then-across : goal.grow-requires-then-across
grow-requires-then-across t c =
    let front = c.select_nth_unstable_by_key-near.ensures.front_len in
    let parts = length_parted _ _ _ _ c.select_nth_unstable_by_key-near.ensures.permutation in
    (omega arith, c.in_ok-grow.ensures.framed)

pub grow-requires-else-across-2 : goal.grow-requires-else-across-2
grow-requires-else-across-2 t c =
    let front = c.select_nth_unstable_by_key-near.ensures.front_len in
    let parts = length_parted _ _ _ _ c.select_nth_unstable_by_key-near.ensures.permutation in
    (omega arith, c.in_ok-grow-3.ensures.framed)

pub returns : goal.returns
returns t c =
    rw c.in_ok-push-2.ensures.items
    (Grows-fork (IsHeadOrAmong c.args.head.now c.args.others.now) c.args.entries.now.items _ _ _ (omega (arith, c.len-start.ensures, c.args.entries.now.ok))
    (elim c.if-others-lt-FEW.branch [
      | then-others-lt-FEW+in_ok-push+in_ok-push_leaves w ↦
          let leaves = rw w.in_ok-push.ensures.items at w.in_ok-push_leaves.ensures in
          rw w.entries-is (Grows-leaves _ _ _ _ c.requires.framed leaves)
      | else-others-lt-FEW+then-across+in_ok-grow+in_ok-grow-2 w ↦
          rw w.entries-is (Grows-parted _ _ _ _ _ _ _ _ w.select_nth_unstable_by_key-near.ensures.permutation w.in_ok-grow.ensures w.in_ok-grow-2.ensures)
      | else-others-lt-FEW+else-across+in_ok-grow-3+in_ok-grow-4 w ↦
          rw w.entries-is (Grows-parted_back _ _ _ _ _ _ _ _ w.select_nth_unstable_by_key-near.ensures.permutation w.in_ok-grow-3.ensures w.in_ok-grow-4.ensures)
    ])
    (λ s k.
    ⊎_elim
    (λ e. subst (λ (x : Spot). IsInFrame c.frame_around-frame.result x.point) e c.frame_around-frame.ensures.head)
    (λ m. All-contains (λ (x : Spot). IsInFrame c.frame_around-frame.result x.point) c.args.others.now s c.frame_around-frame.ensures.others m)
    k))

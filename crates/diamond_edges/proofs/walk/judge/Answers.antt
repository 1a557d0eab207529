use Rattle.std.proofs.Common.{arith, sym, subst}
use Rattle.exact_predicates.specs.declared.diamond.Diamond.TheVariants.{On}
use Rattle.point_grid.specs.declared.spot.Spot.{Spot}
use Rattle.point_grid.specs.Tree.{HasLeaf}
use Rattle.diamond_edges.specs.Rows.{IsNext}
use Rattle.point_grid.proofs.Entries.{same_leaf}
use Rattle.diamond_edges.proofs.Walks.{Adds-push, Adds-skip, entry_leaf}
use Rattle.diamond_edges.proofs.walk.judge.Goals as goal
use Rattle.diamond_edges.proofs.walk.judge.Goals.{in-Leaf-entry+then-a-spot+then-is_linked+in_ok-push, in-Leaf-entry+else-a-spot, else-a-spot-via-then-a-spot+else-is_linked, else-a-spot-via-else-a-spot, in_default-entry}

pub loop-k-2-preserved : goal.loop-k-2-preserved
loop-k-2-preserved c =
    let ps = c.args.points.now.points in
    let es = c.args.tree.now in
    let k = c.loop-k-2.k in
    elim c.match-entry-2.branch [
      | in-Leaf-entry+then-a-spot+then-is_linked+in_ok-push w ↦
          let s = w.in-Leaf-entry.spot in
          let leaf : HasLeaf es k s = (omega arith, sym w.in-Leaf-entry.ensures.value) in (
            rw w.slots-is w.is_linked.ensures.slots,
            rw (w.row-is, w.in_ok-push.ensures.items)
                (Adds-push ps c.args.a es c.args.low k _ _ s c.loop-k-2.invariant.1 leaf
                (w.if-a-spot.true, (c.requires.tree.each k s leaf).0, w.is_linked.ensures.is.0 w.if-is_linked.true)),
          )
      | in-Leaf-entry+else-a-spot w ↦
          let s = w.in-Leaf-entry.spot in
          let leaf : HasLeaf es k s = (omega arith, sym w.in-Leaf-entry.ensures.value) in (
            rw w.slots-is
                (elim w.else-a-spot.branch [
                  | else-a-spot-via-then-a-spot+else-is_linked v ↦ rw v.slots-is v.is_linked.ensures.slots
                  | else-a-spot-via-else-a-spot v ↦ rw v.slots-is c.loop-k-2.invariant.0
                ]),
            rw w.row-is
                (Adds-skip ps c.args.a es c.args.low k _ _ c.loop-k-2.invariant.1
                (λ t other m.
                let n = subst (λ (x : Spot). IsNext On ps c.args.a x.number) (sym (same_leaf es k s t leaf other)) m in
                elim w.else-a-spot.branch [
                  | else-a-spot-via-then-a-spot+else-is_linked v ↦ let yes = v.is_linked.ensures.is.1 n.2 in let no = v.if-is_linked.false in cc
                  | else-a-spot-via-else-a-spot v ↦ let l = n.0 in let h = v.if-a-spot.false in omega arith
                ])),
          )
      | in_default-entry w ↦ (
        rw w.slots-is c.loop-k-2.invariant.0,
        rw w.row-is
            (Adds-skip ps c.args.a es c.args.low k _ _ c.loop-k-2.invariant.1
            (λ t other m. let e = entry_leaf es k _ t c.entry-in-loop-k-2.ensures.value other in let i = w.in_default-entry.is in cc)),
      )
    ]

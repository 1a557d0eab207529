use Rattle.std.proofs.Common.{ℕ, ◌+◌, ◌/◌, Bool, List, sym, ap, ◌∙◌, subst}
use Rattle.std.specs.Mem.Slots.{slots_items}
use Rattle.mark_seats.specs.Bits.{bit_in}
use Rattle.edge_marks.proofs.Closes.{FlagsTo, one_falls, one_stays}
use Rattle.mark_seats.proofs.Members.{item_at}
use Rattle.edge_marks.proofs.close.drop_killed.Goals.{then-edge_bit-ne0, else-edge_bit-ne0}
use Rattle.edge_marks.proofs.close.drop_killed.Goals as goal

pub loop-e-preserved : goal.loop-e-preserved
loop-e-preserved c = let n = c.args.count in let e = c.loop-e.e in let ws = slots_items c.args.closed.now.words in let P : List Bool → Type 0 = λ fs. FlagsTo n ws fs (e + 1) in
    let is = ap (λ (x : ℕ). bit_in x e) (item_at ws (e / 64) 0 c.word.result c.word.ensures).1 ∙ sym c.edge_bit.ensures in elim c.if-edge_bit-ne0.branch [
      | then-edge_bit-ne0 w ↦ subst P (sym (w.flags-is ∙ w.drop_edge.ensures)) (one_falls n ws c.loop-e.flags e c.edge_bit.result c.loop-e.invariant c.loop-e-test.true is w.if-edge_bit-ne0.true)
      | else-edge_bit-ne0 w ↦ subst P (sym w.flags-is) (one_stays n ws c.loop-e.flags e c.edge_bit.result c.loop-e.invariant c.loop-e-test.true is w.if-edge_bit-ne0.false)
    ]

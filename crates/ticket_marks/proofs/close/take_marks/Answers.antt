use Rattle.std.specs.Mem.Slots.{slots_items}
use Rattle.ticket_marks.proofs.Closes.{one_taken, word_at}
use Rattle.ticket_marks.proofs.close.take_marks.Goals as goal

pub loop-e-preserved : goal.loop-e-preserved
loop-e-preserved c =
    let ws = slots_items c.args.closed.now.words in
    rw c.set.ensures (one_taken c.args.count ws c.loop-e.ranks c.loop-e.e c.word.result c.loop-e.invariant c.loop-e-test.true (word_at ws c.loop-e.e c.word.result c.word.ensures))

use Rattle.std.specs.Mem.Slots.{slots_items}
use Rattle.flip_claims.proofs.Closes.{one_taken, word_at}
use Rattle.flip_claims.proofs.close.take_words.Goals as goal

pub loop-t-preserved : goal.loop-t-preserved
loop-t-preserved c =
    let ws = slots_items c.args.closed.now.words in
    one_taken c.args.count ws c.loop-t.words.items c.loop-t.t c.word.result c.loop-t.invariant c.loop-t-test.true (word_at ws c.loop-t.t c.word.result c.word.ensures)

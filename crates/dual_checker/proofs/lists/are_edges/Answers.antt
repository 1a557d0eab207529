use Rattle.dual_checker.proofs.LiveLists.{edges_more, edges_differ, edges_all}
use Rattle.dual_checker.proofs.lists.are_edges.Goals as goal

pub returns-then-ne : goal.returns-then-ne
returns-then-ne c =
    edges_differ c.args.net.now c.args.numbers.now c.args.lines.now c.loop-k.k c.index-lines-k.result c.edge.result c.ne.result c.requires.one_each c.loop-k-test.true
    c.index-lines-k.is c.edge.ensures.value c.ne.ensures c.if-ne.true

pub loop-k-preserved : goal.loop-k-preserved
loop-k-preserved c =
    edges_more c.args.net.now c.args.numbers.now c.args.lines.now c.loop-k.k c.index-lines-k.result c.edge.result c.ne.result c.requires.one_each c.loop-k-test.true
    c.index-lines-k.is c.edge.ensures.value c.ne.ensures c.if-ne.false c.loop-k.invariant

pub returns : goal.returns
returns c = edges_all c.args.net.now c.args.numbers.now c.args.lines.now c.loop-k.k c.requires.one_each c.loop-k-test.false c.loop-k.invariant

use Rattle.lmt_network.proofs.Passes.{IsPass}
use Rattle.lmt_network.proofs.settle.drop_unsupported.Given as goal

abbrev pub invariant-loop-k : goal.invariant-loop-k
invariant-loop-k l = IsPass l.net l.fn.live l.live l.due l.downwards l.k l.dropped

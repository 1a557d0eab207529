use Rattle.std.proofs.Common.{ℕ, true, replicate, ap, ◌∙◌}
use Rattle.lmt_network.proofs.Passes.{none_lost_all}
use Rattle.dual_checker.proofs.Networks.{IsElimination-settled}
use Rattle.dual_checker.proofs.elimination.Elimination.of_network.Goals as goal

pub plain_settle-requires-clause-none_lost : goal.plain_settle-requires-clause-none_lost
plain_settle-requires-clause-none_lost c =
    none_lost_all c.args.net c.in_ok-flags.flags (c.in_ok-flags.ensures ∙ ap (λ (n : ℕ). replicate n true) c.edges-count.ensures.value)

pub returns : goal.returns
returns c = λ ps hull diamond network.
    IsElimination-settled ps hull diamond c.args.net c.plain_settle.new.flags network c.plain_settle.ensures.one_each c.plain_settle.ensures.live_edges

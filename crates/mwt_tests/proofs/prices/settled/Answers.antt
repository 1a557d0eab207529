use Rattle.std.proofs.Common.{ℕ, true, replicate, ap, ◌∙◌}
use Rattle.lmt_network.proofs.Passes.{none_lost_all}
use Rattle.mwt_tests.proofs.prices.settled.Goals as goal

pub plain_settle-requires-clause-none_lost : goal.plain_settle-requires-clause-none_lost
plain_settle-requires-clause-none_lost c =
    none_lost_all c.args.net.now c.in-Ok.flags (c.in-Ok.ensures ∙ ap (λ (n : ℕ). replicate n true) c.edges-count.ensures.value)

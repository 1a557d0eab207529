-- No later side has this start.
use Rattle.std.proofs.Common.{sym, ◌∙◌}
use Rattle.skeleton_faces.proofs.Links.{past_last}
use Rattle.skeleton_faces.proofs.turns.last_round.Goals as goal

pub returns-else-start-from-clause-last : goal.returns-else-start-from-clause-last
returns-else-start-from-clause-last c = λ k l k_in.
    past_last c.args.edges.now c.args.order.now c.requires.rise c.loop-last.last _ k (c.loop-last.invariant.2 ∙ c.start-from.ensures)
    (λ e. c.if-start-from.false (c.start.ensures ∙ (e ∙ sym c.start-from.ensures))) l k_in

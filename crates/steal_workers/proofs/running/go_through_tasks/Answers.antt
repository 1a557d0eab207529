use Rattle.std.proofs.Common.{ℕ, ◌<◌, length, ap, ◌∙◌, subst}
use Rattle.lmt_network.specs.Network.{NetworkParts}
use Rattle.steal_workers.proofs.Ends.{goes_self, goes_on, goes_next}
use Rattle.steal_workers.proofs.running.go_through_tasks.Goals as goal

pub tasks-init : goal.tasks-init
tasks-init g c = goes_self _ _ _ c.requires.belongs.0

pub returns-in_default : goal.returns-in_default
returns-in_default g c = goes_on _ _ _ _ _ _ _ c.tasks.invariant (goes_next _ c.tasks.seat c.tasks.supply c.next.new.self c.tasks.invariant.belongs c.next.ensures.edges c.next.ensures.stolen)

pub attend-requires-clause-belongs : goal.attend-requires-clause-belongs
attend-requires-clause-belongs g c = λ _ _. (c.tasks.invariant.belongs, c.requires.belongs.1)

pub attend-requires-clause-edges : goal.attend-requires-clause-edges
attend-requires-clause-edges g c = λ _ _. c.next.ensures.edges ∙ (c.tasks.invariant.edges ∙ c.requires.edges)

pub attend-requires-clause-inside : goal.attend-requires-clause-inside
attend-requires-clause-inside g c = λ _ _. subst (λ (n : ℕ). c.in-Some.e < n) (c.tasks.invariant.edges ∙ (c.requires.edges ∙ ap (λ (n : NetworkParts). length n.edges) c.requires.belongs.1)) c.in-Some.ensures.below

pub tasks-preserved : goal.tasks-preserved
tasks-preserved g c = goes_on _ _ _ _ _ _ _ c.tasks.invariant
    (goes_on _ _ _ _ _ _ _ (goes_next _ c.tasks.seat c.tasks.supply c.next.new.self c.tasks.invariant.belongs c.next.ensures.edges c.next.ensures.stolen) c.attend.ensures)

pub returns : goal.returns
returns g c = c.tasks.invariant

use Rattle.std.proofs.Common.{◌≡◌, ◌≤◌}
use Rattle.steal_workers.proofs.supply.Supply.next.Given as goal

abbrev pub invariant-groups : goal.invariant-groups
invariant-groups l = (l.self.edges ≡ l.initial.self.edges) × (l.initial.self.stolen ≤ l.self.stolen)

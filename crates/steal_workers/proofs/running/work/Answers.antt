use Rattle.std.proofs.Common.{◌∙◌, arith}
use Rattle.steal_workers.proofs.Ends.{goes_self, goes_on, ends_later}
use Rattle.edge_marks.proofs.Remembering.{remembers_on}
use Rattle.steal_workers.proofs.running.work.Goals as goal

pub rounds-init : goal.rounds-init
rounds-init g c = goes_self _ _ _ c.requires.belongs.0

pub go_through_tasks-requires-clause-belongs : goal.go_through_tasks-requires-clause-belongs
go_through_tasks-requires-clause-belongs g c = λ _ _. (c.rounds.invariant.belongs, c.requires.belongs.1)

pub go_through_tasks-requires-clause-edges : goal.go_through_tasks-requires-clause-edges
go_through_tasks-requires-clause-edges g c = λ _ _. c.rounds.invariant.edges ∙ c.requires.edges

pub settle_once-requires-clause-belongs : goal.settle_once-requires-clause-belongs
settle_once-requires-clause-belongs g c = (c.go_through_tasks.ensures.belongs, c.requires.belongs.1)

pub settle_once-requires-clause-edges : goal.settle_once-requires-clause-edges
settle_once-requires-clause-edges g c = c.go_through_tasks.ensures.edges ∙ (c.rounds.invariant.edges ∙ c.requires.edges)

pub returns-in-Some-clause-on : goal.returns-in-Some-clause-on
returns-in-Some-clause-on g c = goes_on _ _ _ _ _ _ _ c.rounds.invariant (goes_on _ _ _ _ _ _ _ c.go_through_tasks.ensures c.settle_once.ensures.on)

pub returns-in-Some-clause-ends : goal.returns-in-Some-clause-ends
returns-in-Some-clause-ends g c = ends_later c.args.seat.now.known c.go_through_tasks.new.seat.known c.settle_once.new.seat.known c.in-Some.end
    (remembers_on c.args.seat.now.known c.rounds.seat.known c.go_through_tasks.new.seat.known c.rounds.invariant.kept c.go_through_tasks.ensures.kept) c.in-Some.ensures.ends

pub rounds-preserved : goal.rounds-preserved
rounds-preserved g c = goes_on _ _ _ _ _ _ _ c.rounds.invariant (goes_on _ _ _ _ _ _ _ c.go_through_tasks.ensures c.settle_once.ensures.on)

pub rounds-smaller : goal.rounds-smaller
rounds-smaller g c = let went = c.go_through_tasks.ensures.kept.low in let later = c.in_default.ensures.later in let l₀ = later.0 in let l₁ = later.1 in omega arith

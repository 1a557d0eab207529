use Rattle.std.proofs.Common.{ap}
use Rattle.edge_marks.specs.declared.view.Known.{Known}
use Rattle.steal_workers.proofs.Ends.{looks_self}
use Rattle.steal_workers.proofs.examining.is_live_or.Goals as goal

pub returns-then-f-e : goal.returns-then-f-e
returns-then-f-e c = looks_self _ _ c.requires.belongs

pub returns : goal.returns
returns c = record { seat = c.look.ensures.seat.0; belongs = c.look.ensures.seat.1; kept = c.look.ensures.kept; low = ap (λ (d : Known). d.low) c.look.ensures.step.2 }

use Rattle.steal_workers.proofs.Ends.{looks_self, looks_on}
use Rattle.steal_workers.proofs.examining.has_live_sides.Goals as goal

pub loop-k-init : goal.loop-k-init
loop-k-init c = looks_self _ _ c.requires.belongs.0

pub returns-then-not-is_live_or : goal.returns-then-not-is_live_or
returns-then-not-is_live_or c = looks_on _ _ _ _ c.loop-k.invariant c.is_live_or.ensures

pub loop-k-preserved : goal.loop-k-preserved
loop-k-preserved c = looks_on _ _ _ _ c.loop-k.invariant c.is_live_or.ensures

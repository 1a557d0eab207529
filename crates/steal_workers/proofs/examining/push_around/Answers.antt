use Rattle.std.proofs.Common.{refl, ◌∙◌}
use Rattle.std.proofs.lemmas.List.Elements.{Contains-get_or}
use Rattle.steal_workers.proofs.Ends.{looks_self, looks_on}
use Rattle.steal_workers.proofs.examining.push_around.Goals as goal

pub loop-l-init : goal.loop-l-init
loop-l-init c = (looks_self _ _ c.requires.belongs.0, refl)

pub push_from-requires-clause-inside : goal.push_from-requires-clause-inside
push_from-requires-clause-inside c = ((c.left-l-items.ensures.members _).0 (Contains-get_or c.left-l-items.result.now c.loop-l.l-index 0 c.loop-l-test.true)).0

pub loop-l-preserved : goal.loop-l-preserved
loop-l-preserved c = (looks_on _ _ _ _ c.loop-l.invariant.0 c.push_from.ensures.looks, c.push_from.ensures.supply ∙ c.loop-l.invariant.1)

pub loop-r-init : goal.loop-r-init
loop-r-init c = (looks_self _ _ c.loop-l.invariant.0.belongs, refl)

pub push_from-requires-in-loop-r-clause-inside : goal.push_from-requires-in-loop-r-clause-inside
push_from-requires-in-loop-r-clause-inside c = ((c.right-r-items.ensures.members _).0 (Contains-get_or c.right-r-items.result.now c.loop-r.r-index 0 c.loop-r-test.true)).0

pub loop-r-preserved : goal.loop-r-preserved
loop-r-preserved c = (looks_on _ _ _ _ c.loop-r.invariant.0 c.push_from-in-loop-r.ensures.looks, c.push_from-in-loop-r.ensures.supply ∙ c.loop-r.invariant.1)

pub returns-clause-looks : goal.returns-clause-looks
returns-clause-looks c = looks_on _ _ _ _ c.loop-l.invariant.0 c.loop-r.invariant.0

pub returns-clause-supply : goal.returns-clause-supply
returns-clause-supply c = c.loop-r.invariant.1 ∙ c.loop-l.invariant.1

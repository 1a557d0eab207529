use Rattle.std.proofs.Common.{◌≡◌, refl, of_z, ap, arith}
use Rattle.std.proofs.lemmas.Int.{ints}
use Rattle.dual_checker.proofs.Tightness.{bound_decides, bound_fails}
use Rattle.dual_checker.proofs.ledger.Ledger.has_bound.Goals as goal
use mir.Syntax.{w128}

pub returns-then-self-sum_of_anchors : goal.returns-then-self-sum_of_anchors
returns-then-self-sum_of_anchors c =
    bound_fails c.args.self.now.report.now c.sum_of_anchors.result _ c.requires.marks c.sum_of_anchors.ensures (λ same. c.if-self-sum_of_anchors.true (ap (of_z w128) same)) refl

pub returns : goal.returns
returns c =
    let numbers = c.requires.ledger.numbers_are in
    let h = c.if-self-sum_of_anchors.false in
    let same : c.args.self.now.report.now.bound ≡ c.sum_of_anchors.result = omega (arith, ints, h) in
    bound_decides c.args.self.now.report.now c.sum_of_anchors.result c.is_tight.result numbers.within c.requires.hull c.requires.live c.requires.skeleton c.requires.marks c.sum_of_anchors.ensures same c.is_tight.ensures

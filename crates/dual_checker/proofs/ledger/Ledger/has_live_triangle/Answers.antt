use Rattle.std.proofs.Common.{get_or, inl, inr}
use Rattle.std.proofs.lemmas.List.Elements.{Contains-get_or}
use Rattle.dual_checker.proofs.TightRows.{side_live, side_found, none_live}
use Rattle.dual_checker.proofs.ledger.Ledger.has_live_triangle.Goals as goal

pub has_live-requires-clause-row : goal.has_live-requires-clause-row
has_live-requires-clause-row c = λ k d inside. ((c.left.ensures.members (get_or c.left.result.now k d)).0 (Contains-get_or c.left.result.now k d inside)).0

pub has_live-requires-else-has_live-clause-row : goal.has_live-requires-else-has_live-clause-row
has_live-requires-else-has_live-clause-row c = λ k d inside. ((c.right.ensures.members (get_or c.right.result.now k d)).0 (Contains-get_or c.right.result.now k d inside)).0

pub returns-then-has_live : goal.returns-then-has_live
returns-then-has_live c = (
  λ t. let (x, side, live) = side_live c.args.self.now.report.now c.args.self.now.net.now c.args.self.now.flags.now c.args.self.now.numbers.now c.left.result.now _ _ c.requires.numbers c.left.ensures.members (c.has_live.ensures.0 t) in
      (x, inl side, live),
  λ h. c.if-has_live.true,
)

pub returns-else-has_live : goal.returns-else-has_live
returns-else-has_live c = (
  λ t. let (x, side, live) = side_live c.args.self.now.report.now c.args.self.now.net.now c.args.self.now.flags.now c.args.self.now.numbers.now c.right.result.now _ _ c.requires.numbers c.right.ensures.members (c.has_live-else-has_live.ensures.0 t) in
      (x, inr side, live),
  λ (x, side, live). elim side [
    | inl left ↦ absurd (none_live c.has_live.result _ c.has_live.ensures c.if-has_live.false
        (side_found c.args.self.now.report.now c.args.self.now.net.now c.args.self.now.flags.now c.args.self.now.numbers.now c.left.result.now _ _ x c.requires.numbers c.left.ensures.members left live))
    | inr right ↦ c.has_live-else-has_live.ensures.1
        (side_found c.args.self.now.report.now c.args.self.now.net.now c.args.self.now.flags.now c.args.self.now.numbers.now c.right.result.now _ _ x c.requires.numbers c.right.ensures.members right live)
  ],
)

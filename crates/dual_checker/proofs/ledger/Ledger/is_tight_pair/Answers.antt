use Rattle.std.proofs.Common.{◌↔◌, get_or, Contains, IsTrue, ℤ, w64, subst}
use Rattle.std.proofs.lemmas.Int.{to_z-of_z}
use Rattle.std.proofs.lemmas.List.Elements.{Contains-get_or}
use Rattle.exact_predicates.specs.Hull.{IsHullPair}
use Rattle.lmt_network.specs.Prices.{IsTightSide}
use Rattle.dual_checker.specs.GoodReport.{prices_of}
use Rattle.dual_checker.proofs.Deciding.{not_asked, asked}
use Rattle.dual_checker.proofs.Rims.{rim_has}
use Rattle.dual_checker.proofs.ledger.Ledger.is_tight_pair.Goals as goal

pub is_tight_side-requires-clause-row : goal.is_tight_side-requires-clause-row
is_tight_side-requires-clause-row c = λ k d inside. ((c.requires.row (get_or c.args.row.now k d)).0 (Contains-get_or c.args.row.now k d inside)).0

pub returns-then-not-has : goal.returns-then-not-has
returns-then-not-has c =
    not_asked (Contains c.args.rim.now c.args.side) (IsHullPair c.args.self.now.report.now.hull c.args.side.from c.args.side.to)
    (IsTightSide c.args.self.now.report.now.points c.args.self.now.report.now.hull (prices_of c.args.self.now.report.now) c.args.side.from c.args.side.to c.args.anchor)
    c.has.result c.has.ensures (rim_has c.args.self.now.report.now.hull c.args.rim.now c.args.side c.requires.rim) c.if-not-has.true

pub returns-else-not-has : goal.returns-else-not-has
returns-else-not-has c =
    asked (Contains c.args.rim.now c.args.side) (IsHullPair c.args.self.now.report.now.hull c.args.side.from c.args.side.to)
    (IsTightSide c.args.self.now.report.now.points c.args.self.now.report.now.hull (prices_of c.args.self.now.report.now) c.args.side.from c.args.side.to c.args.anchor)
    c.has.result c.is_tight_side.result c.has.ensures (rim_has c.args.self.now.report.now.hull c.args.rim.now c.args.side c.requires.rim) c.if-not-has.false
    (subst
    (λ (y : ℤ). IsTrue c.is_tight_side.result ↔ IsTightSide c.args.self.now.report.now.points c.args.self.now.report.now.hull (prices_of c.args.self.now.report.now) c.args.side.from c.args.side.to y)
    (to_z-of_z w64 c.args.anchor c.ranges.anchor) (c.is_tight_side.ensures c.args.side.from c.args.side.to c.requires.row))

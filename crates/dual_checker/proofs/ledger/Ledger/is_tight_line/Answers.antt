use Rattle.std.proofs.Common.{◌≡◌, ◌↔◌, get_or, IsTrue, ℤ, of_z, to_z, w64, sym, subst, arith}
use Rattle.std.proofs.lemmas.Int.{ints}
use Rattle.std.proofs.lemmas.List.Elements.{Contains-get_or}
use Rattle.exact_predicates.specs.declared.edge.Edge.{Edge}
use Rattle.exact_predicates.specs.Hull.{IsHullPair}
use Rattle.lmt_network.specs.Prices.{IsTightSide}
use Rattle.cert_text.specs.declared.report.LineKind.{LineKind}
use Rattle.dual_checker.specs.declared.half_edges.Side.{Side}
use Rattle.dual_checker.specs.GoodReport.{prices_of}
use Rattle.dual_checker.specs.LiveLines.{IsRowOf, IsTightKind}
use Rattle.dual_checker.proofs.Deciding.{both_hold, first_fails}
use Rattle.dual_checker.proofs.ledger.Ledger.is_tight_line.Goals as goal

pub is_tight_pair-requires-clause-row : goal.is_tight_pair-requires-clause-row
is_tight_pair-requires-clause-row c = subst (λ (x : Edge). IsRowOf c.args.self.now.net.now c.left.result.now x.a x.b) (sym c.requires.line) c.left.ensures.members

pub is_tight_pair-requires-then-is_tight_pair-clause-row : goal.is_tight_pair-requires-then-is_tight_pair-clause-row
is_tight_pair-requires-then-is_tight_pair-clause-row c =
    subst (λ (s : Side). IsRowOf c.args.self.now.net.now c.right.result.now s.from s.to) (sym c.reversed.ensures)
    (subst (λ (x : Edge). IsRowOf c.args.self.now.net.now c.right.result.now x.b x.a) (sym c.requires.line) c.right.ensures.members)

pub is_tight_side-requires-clause-row : goal.is_tight_side-requires-clause-row
is_tight_side-requires-clause-row c = λ k d inside. ((c.left-in-Skeleton.ensures.members (get_or c.left-in-Skeleton.result.now k d)).0 (Contains-get_or c.left-in-Skeleton.result.now k d inside)).0

pub is_tight_side-requires-then-is_tight_side-clause-row : goal.is_tight_side-requires-then-is_tight_side-clause-row
is_tight_side-requires-then-is_tight_side-clause-row c =
    λ k d inside. ((c.right-then-is_tight_side.ensures.members (get_or c.right-then-is_tight_side.result.now k d)).0 (Contains-get_or c.right-then-is_tight_side.result.now k d inside)).0

pub returns-then-is_tight_pair : goal.returns-then-is_tight_pair
returns-then-is_tight_pair c =
    let r = c.args.self.now.report.now in
    let l = c.args.line in
    let kept : to_z w64 (of_z w64 c.args.line.value) ≡ c.args.line.value = omega (arith, ints) in
    let up = IsHullPair r.hull l.edge.a l.edge.b → IsTightSide r.points r.hull (prices_of r) l.edge.a l.edge.b l.value in
    let down = IsHullPair r.hull l.edge.b l.edge.a → IsTightSide r.points r.hull (prices_of r) l.edge.b l.edge.a l.value in
    let first : IsTrue c.is_tight_pair.result ↔ (IsHullPair r.hull l.edge.a l.edge.b → IsTightSide r.points r.hull (prices_of r) l.edge.a l.edge.b l.value) =
    subst (λ (y : ℤ). IsTrue c.is_tight_pair.result ↔ (IsHullPair r.hull l.edge.a l.edge.b → IsTightSide r.points r.hull (prices_of r) l.edge.a l.edge.b y)) kept c.is_tight_pair.ensures in
    let turned = subst (λ (s : Side). IsTrue c.is_tight_pair-then-is_tight_pair.result ↔ (IsHullPair r.hull s.from s.to → IsTightSide r.points r.hull (prices_of r) s.from s.to (to_z w64 (of_z w64 l.value)))) c.reversed.ensures
    c.is_tight_pair-then-is_tight_pair.ensures in
    let second = subst (λ (y : ℤ). IsTrue c.is_tight_pair-then-is_tight_pair.result ↔ (IsHullPair r.hull l.edge.b l.edge.a → IsTightSide r.points r.hull (prices_of r) l.edge.b l.edge.a y)) kept turned in
    subst (λ (k : LineKind). IsTrue c.is_tight_pair-then-is_tight_pair.result ↔ IsTightKind r k l) (sym c.in-Hull.is)
    (both_hold up down c.is_tight_pair.result c.is_tight_pair-then-is_tight_pair.result first second c.if-is_tight_pair.true)

pub returns-else-is_tight_pair : goal.returns-else-is_tight_pair
returns-else-is_tight_pair c =
    let r = c.args.self.now.report.now in
    let l = c.args.line in
    let kept : to_z w64 (of_z w64 c.args.line.value) ≡ c.args.line.value = omega (arith, ints) in
    let up = IsHullPair r.hull l.edge.a l.edge.b → IsTightSide r.points r.hull (prices_of r) l.edge.a l.edge.b l.value in
    let down = IsHullPair r.hull l.edge.b l.edge.a → IsTightSide r.points r.hull (prices_of r) l.edge.b l.edge.a l.value in
    let first = subst (λ (y : ℤ). IsTrue c.is_tight_pair.result ↔ (IsHullPair r.hull l.edge.a l.edge.b → IsTightSide r.points r.hull (prices_of r) l.edge.a l.edge.b y)) kept c.is_tight_pair.ensures in
    subst (λ (k : LineKind). IsTrue c.is_tight_pair.result ↔ IsTightKind r k l) (sym c.in-Hull.is) (first_fails up down c.is_tight_pair.result first c.if-is_tight_pair.false)

pub returns-then-is_tight_side : goal.returns-then-is_tight_side
returns-then-is_tight_side c =
    let r = c.args.self.now.report.now in
    let l = c.args.line in
    let kept_left : to_z w64 (of_z w64 c.args.line.left) ≡ c.args.line.left = omega (arith, ints) in
    let kept_right : to_z w64 (of_z w64 c.args.line.right) ≡ c.args.line.right = omega (arith, ints) in
    let on_left = subst (λ (x : Edge). IsRowOf c.args.self.now.net.now c.left-in-Skeleton.result.now x.a x.b) (sym c.requires.line) c.left-in-Skeleton.ensures.members in
    let on_right = subst (λ (x : Edge). IsRowOf c.args.self.now.net.now c.right-then-is_tight_side.result.now x.b x.a) (sym c.requires.line) c.right-then-is_tight_side.ensures.members in
    let first = subst (λ (y : ℤ). IsTrue c.is_tight_side.result ↔ IsTightSide r.points r.hull (prices_of r) l.edge.a l.edge.b y) kept_left (c.is_tight_side.ensures l.edge.a l.edge.b on_left) in
    let second = subst (λ (y : ℤ). IsTrue c.is_tight_side-then-is_tight_side.result ↔ IsTightSide r.points r.hull (prices_of r) l.edge.b l.edge.a y) kept_right
    (c.is_tight_side-then-is_tight_side.ensures l.edge.b l.edge.a on_right) in
    subst (λ (k : LineKind). IsTrue c.is_tight_side-then-is_tight_side.result ↔ IsTightKind r k l) (sym c.in-Skeleton.is)
    (both_hold (IsTightSide r.points r.hull (prices_of r) l.edge.a l.edge.b l.left) (IsTightSide r.points r.hull (prices_of r) l.edge.b l.edge.a l.right)
    c.is_tight_side.result c.is_tight_side-then-is_tight_side.result first second c.if-is_tight_side.true)

pub returns-else-is_tight_side : goal.returns-else-is_tight_side
returns-else-is_tight_side c =
    let r = c.args.self.now.report.now in
    let l = c.args.line in
    let kept_left : to_z w64 (of_z w64 c.args.line.left) ≡ c.args.line.left = omega (arith, ints) in
    let on_left = subst (λ (x : Edge). IsRowOf c.args.self.now.net.now c.left-in-Skeleton.result.now x.a x.b) (sym c.requires.line) c.left-in-Skeleton.ensures.members in
    let first = subst (λ (y : ℤ). IsTrue c.is_tight_side.result ↔ IsTightSide r.points r.hull (prices_of r) l.edge.a l.edge.b y) kept_left (c.is_tight_side.ensures l.edge.a l.edge.b on_left) in
    subst (λ (k : LineKind). IsTrue c.is_tight_side.result ↔ IsTightKind r k l) (sym c.in-Skeleton.is)
    (first_fails (IsTightSide r.points r.hull (prices_of r) l.edge.a l.edge.b l.left) (IsTightSide r.points r.hull (prices_of r) l.edge.b l.edge.a l.right) c.is_tight_side.result first c.if-is_tight_side.false)

use Rattle.std.proofs.Common.{◌≡◌, ◌↔◌, ◌⊎◌, not, ap, IsTrue, pos, ℤ, of_z, to_z, w64, sym, subst, ◌∙◌, arith}
use Rattle.std.proofs.lemmas.Bool.{false≢true}
use Rattle.std.proofs.lemmas.Int.{ints}
use Rattle.exact_predicates.specs.declared.edge.Edge.{Edge}
use Rattle.lmt_network.specs.Network.{edge_at}
use Rattle.dual_checker.specs.GoodReport.{HasLiveTriangle}
use Rattle.dual_checker.proofs.MarkedLines.{hull_says, marked_hull, marked_inner, marked_skeleton, unmarked_hull, unmarked_inner}
use Rattle.dual_checker.proofs.ledger.Ledger.is_marked.Goals as goal

pub returns-then-on_hull : goal.returns-then-on_hull
returns-then-on_hull c =
    let self = c.args.self.now in
    let r = c.args.self.now.report.now in
    let says = hull_says self.report.now self.net.now self.flags.now self.numbers.now c.args.e c.args.line c.is_hull-on_hull.result c.requires.numbers c.requires.line c.is_hull-on_hull.ensures in
    let kept : to_z w64 (of_z w64 c.args.line.value) ≡ c.args.line.value = omega (arith, ints) in
    let held = subst (λ (v : ℤ). IsTrue c.is_held.result ↔ (HasLiveTriangle c.args.self.now.report.now (edge_at c.args.self.now.net.now c.args.e) ⊎ (v ≡ pos 0))) kept c.is_held.ensures in
    marked_hull r c.args.line c.is_held.result c.in-Hull.is (says.0 c.if-on_hull.true)
    (subst (λ (x : Edge). IsTrue c.is_held.result ↔ (HasLiveTriangle c.args.self.now.report.now x ⊎ (c.args.line.value ≡ pos 0))) (sym c.requires.line) held)

pub returns-else-on_hull : goal.returns-else-on_hull
returns-else-on_hull c =
    let self = c.args.self.now in
    let says = hull_says self.report.now self.net.now self.flags.now self.numbers.now c.args.e c.args.line c.is_hull-on_hull.result c.requires.numbers c.requires.line c.is_hull-on_hull.ensures in
    let un = unmarked_hull c.args.self.now.report.now c.args.line c.in-Hull.is (λ on. false≢true (sym c.if-on_hull.false ∙ says.1 on)) in
    (λ t. absurd (false≢true (sym c.if-on_hull.false ∙ t)), λ m. absurd (false≢true (un.1 m)))

pub returns-then-not-on_hull : goal.returns-then-not-on_hull
returns-then-not-on_hull c =
    let self = c.args.self.now in
    let says = hull_says self.report.now self.net.now self.flags.now self.numbers.now c.args.e c.args.line c.is_hull-on_hull.result c.requires.numbers c.requires.line c.is_hull-on_hull.ensures in
    marked_inner c.args.self.now.report.now c.args.line c.is_listed_in_version_2.result c.in-Inner.is (λ on. false≢true (sym c.if-not-on_hull.true ∙ says.1 on)) c.is_listed_in_version_2.ensures

pub returns-then-not-on_hull-2 : goal.returns-then-not-on_hull-2
returns-then-not-on_hull-2 c =
    let self = c.args.self.now in
    let says = hull_says self.report.now self.net.now self.flags.now self.numbers.now c.args.e c.args.line c.is_hull-on_hull.result c.requires.numbers c.requires.line c.is_hull-on_hull.ensures in
    marked_skeleton c.args.self.now.report.now c.args.line c.is_listed_in_version_2-then-not-on_hull-2.result c.in-Skeleton.is (λ on. false≢true (sym c.if-not-on_hull-2.true ∙ says.1 on))
    c.is_listed_in_version_2-then-not-on_hull-2.ensures

pub returns-else-not-on_hull : goal.returns-else-not-on_hull
returns-else-not-on_hull c =
    let self = c.args.self.now in
    let says = hull_says self.report.now self.net.now self.flags.now self.numbers.now c.args.e c.args.line c.is_hull-on_hull.result c.requires.numbers c.requires.line c.is_hull-on_hull.ensures in
    let un = unmarked_inner c.args.self.now.report.now c.args.line (λ k. cc) (says.0 c.if-not-on_hull.false) in
    (λ t. absurd (false≢true (sym (ap not c.if-not-on_hull.false) ∙ t)), λ m. absurd (false≢true (un.1 m)))

pub returns-else-not-on_hull-2 : goal.returns-else-not-on_hull-2
returns-else-not-on_hull-2 c =
    let self = c.args.self.now in
    let says = hull_says self.report.now self.net.now self.flags.now self.numbers.now c.args.e c.args.line c.is_hull-on_hull.result c.requires.numbers c.requires.line c.is_hull-on_hull.ensures in
    let un = unmarked_inner c.args.self.now.report.now c.args.line (λ k. cc) (says.0 c.if-not-on_hull-2.false) in
    (λ t. absurd (false≢true (sym (ap not c.if-not-on_hull-2.false) ∙ t)), λ m. absurd (false≢true (un.1 m)))

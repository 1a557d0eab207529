use Rattle.std.proofs.Common.{◌≡◌, ℕ, ◌<◌, ◌≤ℤ◌, length, pos, refl, sym, subst, ◌∙◌, arith, inl, inr}
use Rattle.std.proofs.lemmas.Bool.{false≢true, cases_lt}
use Rattle.std.proofs.lemmas.Int.{ints}
use Rattle.exact_predicates.specs.declared.tri.Tri.{Tri}
use Rattle.lmt_network.specs.Network.{tri_at}
use Rattle.lmt_network.specs.Prices.{IsLiveTriangle, slack}
use Rattle.dual_checker.specs.GoodReport.{prices_of}
use Rattle.dual_checker.proofs.Ledgers.{live_by_sides, live_in_network}
use Rattle.dual_checker.proofs.TightRows.{slack_of}
use Rattle.dual_checker.proofs.ledger.Ledger.has_slack.Goals as goal
use Rattle.dual_checker.proofs.ledger.Ledger.has_slack.Goals.{else-is_live-via-then-is_live+else-slack-lt0, else-is_live-via-else-is_live}

pub returns-then-slack-lt0 : goal.returns-then-slack-lt0
returns-then-slack-lt0 c = (
  λ f. absurd (false≢true f),
  λ feasible.
      let self = c.args.self.now in
      let inside : c.loop-t.t < length self.net.now.tris = omega (arith, c.loop-t-test.true, c.tris-t-end.ensures.value) in
      let live = (live_by_sides self.report.now self.net.now self.flags.now self.numbers.now c.loop-t.t c.tris-t-end.ensures.valid c.requires.numbers_are inside).1 (c.is_live.ensures.0 c.if-is_live.true) in
      let low = feasible (tri_at self.net.now c.loop-t.t) live in
      let is = c.slack.ensures in
      let negative = c.if-slack-lt0.true in
      absurd (omega (arith, ints, low, is, negative)),
)

pub loop-t-preserved : goal.loop-t-preserved
loop-t-preserved c = λ i l live. elim (cases_lt i c.loop-t.t) [
  | inl before ↦ c.loop-t.invariant i before live
  | inr last ↦
      let self = c.args.self.now in
      let here : c.loop-t.t ≡ i = omega arith in
      let inside : c.loop-t.t < length self.net.now.tris = omega (arith, c.loop-t-test.true, c.tris-t-end.ensures.value) in
      elim c.else-is_live.branch [
        | else-is_live-via-then-is_live+else-slack-lt0 w ↦
            let is = w.slack.ensures in
            let low = w.if-slack-lt0.false in
            let fine : pos 0 ≤ℤ slack_of self.report.now self.net.now c.loop-t.t = omega (arith, ints, is, low) in
            subst (λ (j : ℕ). pos 0 ≤ℤ slack_of self.report.now self.net.now j) here fine
        | else-is_live-via-else-is_live w ↦
            let alive = (live_by_sides self.report.now self.net.now self.flags.now self.numbers.now c.loop-t.t c.tris-t-end.ensures.valid c.requires.numbers_are inside).0
            (subst (λ (j : ℕ). IsLiveTriangle self.report.now.points (prices_of self.report.now) (tri_at self.net.now j)) (sym here) live) in
            absurd (false≢true (sym w.if-is_live.false ∙ c.is_live.ensures.1 alive))
      ]
]

pub returns : goal.returns
returns c = (
  λ _ t live.
      let self = c.args.self.now in
      let (i, i_in, at) = live_in_network self.report.now self.net.now self.flags.now self.numbers.now t c.tris-t-end.ensures.valid c.requires.numbers_are live in
      let before : i < c.loop-t.t = omega (arith, i_in, c.loop-t-test.false, c.tris-t-end.ensures.value) in
      subst (λ (s : Tri). pos 0 ≤ℤ slack self.report.now.points self.report.now.hull (prices_of self.report.now) s) at
      (c.loop-t.invariant i before (subst (λ (s : Tri). IsLiveTriangle self.report.now.points (prices_of self.report.now) s) (sym at) live)),
  λ _. refl,
)

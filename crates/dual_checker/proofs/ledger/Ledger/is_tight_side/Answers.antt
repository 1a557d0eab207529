use Rattle.std.proofs.Common.{◌≡◌, ◌+◌, pos, of_z, refl, sym, ap, subst, ◌∙◌, arith}
use Rattle.std.proofs.lemmas.Bool.{false≢true}
use Rattle.std.proofs.lemmas.Int.{ints}
use Rattle.dual_checker.proofs.TightRows.{IsSeen, IsSeen-dead, IsSeen-live, IsOnSide, tight_found, row_decides}
use Rattle.dual_checker.proofs.ledger.Ledger.is_tight_side.Goals as goal
use Rattle.dual_checker.proofs.ledger.Ledger.is_tight_side.Goals.{then-is_live+else-slack-eq0, else-is_live}
use mir.Syntax.{w128}

pub returns-then-slack-eq0 : goal.returns-then-slack-eq0
returns-then-slack-eq0 c = λ u v row.
    let self = c.args.self.now in
    let on : IsOnSide self.report.now self.net.now self.flags.now self.numbers.now c.args.row.now u v = record { numbers_are = c.requires.ledger.numbers_are; row_is = row } in
    let none : c.slack.result ≡ pos 0 = let h = c.if-slack-eq0.true in omega (arith, ints, h) in (
      λ _. tight_found self.report.now self.net.now self.flags.now self.numbers.now c.args.row.now u v c.args.anchor c.loop-t.t-index on c.loop-t-test.true
          (c.is_live.ensures.0 c.if-is_live.true) (sym c.slack.ensures ∙ none),
      λ _. refl,
    )

pub loop-t-preserved : goal.loop-t-preserved
loop-t-preserved c =
    let self = c.args.self.now in
    elim c.if-is_live.branch [
      | then-is_live+else-slack-eq0 w ↦
          subst (IsSeen self.report.now self.net.now self.flags.now c.args.row.now (c.loop-t.t-index + 1)) (sym w.bare-is)
          (IsSeen-live self.report.now self.net.now self.flags.now c.args.row.now c.loop-t.t-index c.loop-t.bare c.loop-t.invariant (c.is_live.ensures.0 w.if-is_live.true)
          (λ zero. w.if-slack-eq0.false (ap (of_z w128) (w.slack.ensures ∙ zero))))
      | else-is_live w ↦
          subst (IsSeen self.report.now self.net.now self.flags.now c.args.row.now (c.loop-t.t-index + 1)) (sym w.bare-is)
          (IsSeen-dead self.report.now self.net.now self.flags.now c.args.row.now c.loop-t.t-index c.loop-t.bare c.loop-t.invariant
          (λ live. false≢true (sym w.if-is_live.false ∙ c.is_live.ensures.1 live)))
    ]

pub returns-then-bare : goal.returns-then-bare
returns-then-bare c = λ u v row.
    let self = c.args.self.now in
    let both = row_decides self.report.now self.net.now self.flags.now self.numbers.now c.args.row.now u v c.loop-t.t-index c.args.anchor c.loop-t.bare c.requires.ledger.numbers_are row
    c.loop-t.invariant (omega (arith, c.loop-t-test.false, c.loop-t.auto.t-index-end)) c.ranges.anchor in
    (λ z. both.0 (c.if-bare.true, z), λ t. (both.1 t).1)

pub returns-else-bare : goal.returns-else-bare
returns-else-bare c = λ u v row.
    let self = c.args.self.now in
    let both = row_decides self.report.now self.net.now self.flags.now self.numbers.now c.args.row.now u v c.loop-t.t-index c.args.anchor c.loop-t.bare c.requires.ledger.numbers_are row
    c.loop-t.invariant (omega (arith, c.loop-t-test.false, c.loop-t.auto.t-index-end)) c.ranges.anchor in
    (λ b. absurd (false≢true (sym c.if-bare.false ∙ b)), λ t. (both.1 t).0)

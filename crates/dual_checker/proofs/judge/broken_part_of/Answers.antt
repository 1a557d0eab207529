use Rattle.std.proofs.Common.{refl, sym, ◌∙◌, inl, inr}
use Rattle.std.proofs.lemmas.Bool.{false≢true}
use Rattle.dual_checker.proofs.judge.broken_part_of.Goals as goal

pub returns-then-not-has_marks : goal.returns-then-not-has_marks
returns-then-not-has_marks c = inl (refl, λ h. false≢true (sym c.if-not-has_marks.true ∙ c.has_marks.ensures.1 h))

pub returns-then-not-has_slack : goal.returns-then-not-has_slack
returns-then-not-has_slack c =
    inr (c.has_marks.ensures.0 c.if-not-has_marks.false, inl (refl, λ h. false≢true (sym c.if-not-has_slack.true ∙ c.has_slack.ensures.1 h)))

pub returns-then-not-branch : goal.returns-then-not-branch
returns-then-not-branch c =
    inr (
      c.has_marks.ensures.0 c.if-not-has_marks.false,
      inr (
        c.has_slack.ensures.0 c.if-not-has_slack.false,
        inl (refl, λ h. false≢true (sym c.if-not-branch.true ∙ c.in_ok-has_bound.ensures.1 h)),
      ),
    )

pub returns-then-not-has_gap : goal.returns-then-not-has_gap
returns-then-not-has_gap c =
    inr (
      c.has_marks.ensures.0 c.if-not-has_marks.false,
      inr (
        c.has_slack.ensures.0 c.if-not-has_slack.false,
        inr (
          c.in_ok-has_bound.ensures.0 c.if-not-branch.false,
          inl (refl, λ h. false≢true (sym c.if-not-has_gap.true ∙ c.has_gap.ensures.1 h)),
        ),
      ),
    )

pub returns-then-not-has_faces : goal.returns-then-not-has_faces
returns-then-not-has_faces c =
    inr (
      c.has_marks.ensures.0 c.if-not-has_marks.false,
      inr (
        c.has_slack.ensures.0 c.if-not-has_slack.false,
        inr (
          c.in_ok-has_bound.ensures.0 c.if-not-branch.false,
          inr (
            c.has_gap.ensures.0 c.if-not-has_gap.false,
            inl (refl, λ h. false≢true (sym c.if-not-has_faces.true ∙ c.has_faces.ensures.1 h)),
          ),
        ),
      ),
    )

pub returns : goal.returns
returns c = (
  c.has_marks.ensures.0 c.if-not-has_marks.false,
  (
    c.has_slack.ensures.0 c.if-not-has_slack.false,
    (
      c.in_ok-has_bound.ensures.0 c.if-not-branch.false,
      (c.has_gap.ensures.0 c.if-not-has_gap.false, (c.has_faces.ensures.0 c.if-not-has_faces.false, tt)),
    ),
  ),
)

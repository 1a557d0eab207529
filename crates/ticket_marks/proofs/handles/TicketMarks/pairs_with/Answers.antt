use Rattle.std.proofs.Common.{sym, ◌∙◌, subst}
use Rattle.std.proofs.lemmas.Bool.{false≢true}
use Rattle.lmt_network.specs.Network.{NetworkParts}
use Rattle.lmt_network.specs.Numbers.{IsMinimalPair}
use Rattle.ticket_marks.proofs.handles.TicketMarks.pairs_with.Goals as goal

pub returns-then-not-has_live_sides-clause-told : goal.returns-then-not-has_live_sides-clause-told
returns-then-not-has_live_sides-clause-told c = let t = c.has_live_sides.ensures.told in
    (t.0, t.1, t.2, (λ h. absurd (false≢true h)), λ _ _. t.4 c.if-not-has_live_sides.true)

pub returns-clause-told : goal.returns-clause-told
returns-clause-told c = let t = c.has_live_sides.ensures.told in (
  t.0,
  t.1,
  t.2,
  (λ h. (subst (λ (n : NetworkParts). IsMinimalPair n c.args.e c.args.l c.args.r) c.requires.belongs.1 (c.minimal_pair.ensures.0 h), t.3 c.if-not-has_live_sides.false)),
  λ h pair. absurd (false≢true (sym h ∙ c.minimal_pair.ensures.1 (subst (λ (n : NetworkParts). IsMinimalPair n c.args.e c.args.l c.args.r) (sym c.requires.belongs.1) pair))),
)

use Rattle.std.proofs.Common.{sym, ◌∙◌}
use Rattle.std.proofs.lemmas.Bool.{eq-eqb, eqb-true}
use Rattle.flip_claims.proofs.Triangles.{has_left, has_right}
use Rattle.flip_claims.proofs.Winning.{both_held}
use Rattle.flip_claims.proofs.winners.holds_both.Goals as goal

pub returns-then-get-slot : goal.returns-then-get-slot
returns-then-get-slot c = let pair = c.in-Some.ensures.pair in (
  (λ same. both_held c.args.mesh.now c.args.words.now c.args.slot c.in-Some.left c.in-Some.right pair (sym c.get.ensures ∙ c.if-get-slot.true) (sym c.get-then-get-slot.ensures ∙ eqb-true _ _ same)),
  λ both. eq-eqb _ _ (c.get-then-get-slot.ensures ∙ both c.in-Some.right (has_right _ _ _ _ pair)),
)

pub returns-else-get-slot : goal.returns-else-get-slot
returns-else-get-slot c = let pair = c.in-Some.ensures.pair in (
  (λ same. absurd (c.if-get-slot.false (eqb-true _ _ same))),
  λ both. eq-eqb _ _ (c.get.ensures ∙ both c.in-Some.left (has_left _ _ _ _ pair)),
)

use Rattle.std.proofs.Common.{ℕ, List, subst}
use Rattle.flip_finish.specs.Flipping.{Shortens}
use Rattle.flip_claims.specs.Rounds.{ArePicked}
use Rattle.flip_claims.proofs.Winning.{shortening_are}
use Rattle.flip_claims.proofs.rounds.all_shortening.Goals as goal

pub returns-clause-shortening : goal.returns-clause-shortening
returns-clause-shortening c =
    let P = Shortens c.args.points.now.points c.args.mesh.now in
    shortening_are c.args.points.now.points c.args.mesh.now c.in_ok-all.all.items c.in_ok-slots.slots.items (λ s short. c.in_ok-all.ensures.all s short.quad.left.slot_at.inside)
    (subst (λ (l : List ℕ). ArePicked P l c.in_ok-slots.slots.items) c.deref.ensures.value c.in_ok-slots.ensures)

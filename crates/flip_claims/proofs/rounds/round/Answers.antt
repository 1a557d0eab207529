use Rattle.std.proofs.Common.{◌≡◌, ◌↔◌, ℕ, List, length, sym, subst, arith}
use Rattle.flip_finish.specs.Flipping.{Shortens}
use Rattle.flip_claims.specs.Rounds.{AreFlipped}
use Rattle.flip_claims.proofs.Winning.{few_winners, none_wins, winners_apart}
use Rattle.flip_claims.proofs.rounds.round.Goals as goal

pub overflow_cast-result : goal.overflow_cast-result
overflow_cast-result g c =
    let few = c.all_shortening.ensures.mesh.1 in
    let most = few_winners c.args.points.now.points c.args.mesh.now c.in_ok-winners.winners.items c.in_ok-winners.ensures in
    let count = c.len.ensures in
    let capacity = c.in_ok-winners.winners.ok.0 in
    omega arith

pub returns-clause-winners : goal.returns-clause-winners
returns-clause-winners g c = (
  c.in_ok-winners.winners.items,
  (let count = c.len.ensures in let capacity = c.in_ok-winners.winners.ok.0 in omega arith),
  record {
    winners_are = c.in_ok-winners.ensures;
    apart = winners_apart c.args.points.now.points c.args.mesh.now c.in_ok-winners.winners.items c.in_ok-winners.ensures;
    flipped = subst (λ (l : List ℕ). AreFlipped c.args.points.now.points c.args.mesh.now l c.flip_all.new.mesh) c.deref-2.ensures.value c.flip_all.ensures.flipped;
  },
)

pub returns-clause-none : goal.returns-clause-none
returns-clause-none g c =
    let count = c.len.ensures in
    let capacity = c.in_ok-winners.winners.ok.0 in
    let same : c.len.result ≡ length c.in_ok-winners.winners.items = omega arith in
    subst (λ (n : ℕ). (n ≡ 0) ↔ ((slot : ℕ) → ¬ Shortens c.args.points.now.points c.args.mesh.now slot)) (sym same)
    (none_wins c.args.points.now.points c.args.mesh.now c.in_ok-winners.winners.items c.in_ok-winners.ensures)

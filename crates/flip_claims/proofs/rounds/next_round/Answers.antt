use Rattle.std.proofs.Common.{◌⊎◌, ℕ, List, length, All, Contains, sym, ap, subst, arith}
use Rattle.flip_finish.specs.Flipping.{Shortens}
use Rattle.flip_finish.specs.Winners.{HasTriangle}
use Rattle.flip_claims.specs.Rounds.{AreFlipped, AreNear, ArePicked, HasTwo, IsTouched}
use Rattle.flip_claims.proofs.Nearing.{near_short}
use Rattle.flip_claims.proofs.Winning.{has_two, some_wins, winners_apart}
use Rattle.flip_claims.proofs.rounds.next_round.Goals as goal

pub triangles_of-requires : goal.triangles_of-requires
triangles_of-requires g c = subst (All (HasTwo c.args.mesh.now)) (sym c.deref.ensures.value) (λ k d low. has_two c.args.points.now.points c.args.mesh.now _ (c.in_ok-winners.ensures.each k d low).shortens)

pub returns-clause-round : goal.returns-clause-round
returns-clause-round g c = (
  c.in_ok-winners.winners.items,
  record {
    winners_are = c.in_ok-winners.ensures;
    apart = winners_apart c.args.points.now.points c.args.mesh.now c.in_ok-winners.winners.items c.in_ok-winners.ensures;
    flipped = subst (λ (l : List ℕ). AreFlipped c.args.points.now.points c.args.mesh.now l c.flip_all.new.mesh) c.deref-2.ensures.value c.flip_all.ensures.flipped;
  },
)

pub returns-clause-shortening : goal.returns-clause-shortening
returns-clause-shortening g c =
    let ps = c.args.points.now.points in
    let old = c.args.mesh.now in
    let new = c.flip_all.new.mesh in
    let winners = c.in_ok-winners.winners.items in
    let near = c.in_ok-near.near.items in
    let found = c.in_ok-slots.slots.items in
    near_short ps old new c.args.slots.now winners c.in_ok-triangles.triangles.items near found c.requires.shortening
    (subst (λ (l : List ℕ). AreNear new c.args.slots.now l near) c.deref-3.ensures.value c.in_ok-near.ensures)
    (subst (λ (l : List ℕ). (p t : ℕ) → Contains l p → HasTriangle old p t → Contains c.in_ok-triangles.triangles.items t) c.deref.ensures.value c.in_ok-triangles.ensures.all)
    (subst (λ (l : List ℕ). (p : ℕ) → Shortens ps new p → IsTouched old new l p ⊎ Shortens ps old p) c.deref-2.ensures.value c.flip_all.ensures.back)
    (subst (λ (l : List ℕ). ArePicked (Shortens ps new) l found) c.deref-4.ensures.value c.in_ok-slots.ensures)

pub returns-clause-falls : goal.returns-clause-falls
returns-clause-falls g c some =
    let won = some_wins c.args.points.now.points c.args.mesh.now c.args.slots.now c.in_ok-winners.winners.items c.requires.shortening c.in_ok-winners.ensures some in
    let same = ap length c.deref-2.ensures.value in
    let falls = c.flip_all.ensures.falls in
    omega arith

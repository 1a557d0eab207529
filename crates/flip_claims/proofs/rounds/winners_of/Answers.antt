use Rattle.std.proofs.Common.{arith}
use Rattle.flip_claims.proofs.Winning.{has_two, winners_are}
use Rattle.flip_claims.proofs.rounds.winners_of.Goals as goal

pub holding-requires-clause-two : goal.holding-requires-clause-two
holding-requires-clause-two g c k d low = has_two c.args.points.now.points c.args.mesh.now _ (c.requires.shortening.each k d low)

pub returns : goal.returns
returns g c =
    let few = c.requires.mesh.1 in
    winners_are c.args.points.now.points c.args.mesh.now c.args.slots.now c.in_ok-words.words c.requires.shortening c.in_ok-words.ensures c.requires.mesh.0 (omega arith) c.in_ok-winners.winners.items c.in_ok-winners.ensures

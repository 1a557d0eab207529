use Rattle.std.proofs.Common.{refl, arith}
use Rattle.ticket_marks.proofs.Ranking.{ranks_begin, stand_on, unranked_live}
use Rattle.ticket_marks.proofs.finishing.finish.Goals as goal

pub passes-init : goal.passes-init
passes-init c = let most = c.greatest-last.ensures.least _ c.requires.most in
    record {
      ranks_are = ranks_begin c.args.net.now c.args.ranks.now c.greatest-last.result c.requires.one_each c.requires.derivation c.greatest-last.ensures.above most;
      stand = λ e above. refl;
    }

pub returns-then-next-last-clause-stand : goal.returns-then-next-last-clause-stand
returns-then-next-last-clause-stand c = stand_on c.args.ranks.now c.passes.ranks c.rank_unsupported-next.new.ranks c.passes.invariant.stand c.rank_unsupported-next.ensures.stand

pub returns-then-next-last-clause-live : goal.returns-then-next-last-clause-live
returns-then-next-last-clause-live c = unranked_live c.args.net.now c.rank_unsupported-next.new.ranks c.rank_unsupported-next.result c.rank_unsupported-next.ensures.ranks (c.rank_unsupported-next.ensures.closed c.if-next-last.true)

pub returns-then-next-last-clause-most : goal.returns-then-next-last-clause-most
returns-then-next-last-clause-most c e = let are = c.rank_unsupported-next.ensures.ranks in let low = are.low e in let room = are.room in omega arith

pub passes-preserved : goal.passes-preserved
passes-preserved c =
    record {
      ranks_are = c.rank_unsupported-next.ensures.ranks;
      stand = stand_on c.args.ranks.now c.passes.ranks c.rank_unsupported-next.new.ranks c.passes.invariant.stand c.rank_unsupported-next.ensures.stand;
    }

pub passes-smaller : goal.passes-smaller
passes-smaller c = let up = c.rank_unsupported-next.ensures.grows in let other = c.if-next-last.false in c.rank_unsupported-next.ensures.fewer (omega arith)

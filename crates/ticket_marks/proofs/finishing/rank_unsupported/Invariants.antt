use Rattle.ticket_marks.proofs.Ranking.{IsRankPass}
use Rattle.ticket_marks.proofs.finishing.rank_unsupported.Given as goal

abbrev pub invariant-loop-k : goal.invariant-loop-k
invariant-loop-k l = IsRankPass l.net l.fn.ranks l.ranks l.last l.now l.downwards l.k

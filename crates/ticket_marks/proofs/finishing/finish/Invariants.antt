use Rattle.ticket_marks.specs.Finish.{left_over, AreRanksUpTo, RanksStand}
use Rattle.ticket_marks.proofs.finishing.finish.Given as goal

abbrev pub invariant-passes : goal.invariant-passes
invariant-passes l = record {
  ranks_are : AreRanksUpTo l.net l.ranks l.last;
  stand : RanksStand l.fn.ranks l.ranks;
}

abbrev pub decreases-passes : goal.decreases-passes
decreases-passes l = left_over l.ranks

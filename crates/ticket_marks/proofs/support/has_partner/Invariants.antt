use Rattle.std.proofs.Common.{ℕ, ◌<◌, get_or}
use Rattle.lmt_network.specs.Numbers.{IsMinimalPair}
use Rattle.ticket_marks.specs.Finish.{HasRankedSide}
use Rattle.ticket_marks.proofs.support.has_partner.Given as goal

abbrev pub invariant-loop-r : goal.invariant-loop-r
invariant-loop-r l = (j : ℕ) → j < l.r-index → IsMinimalPair l.net l.e l.l (get_or l.r-items j 0) → HasRankedSide l.net l.ranks (get_or l.r-items j 0)

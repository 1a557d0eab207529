-- The answers, by the marks and tickets that the steps gave.
use Rattle.std.specs.Prelude.{ℕ, zero, suc, ◌+◌}
use Rattle.ticket_marks.specs.declared.answer.Rank.{Rank}
use Rattle.ticket_marks.specs.declared.answer.Rank.TheVariants.{Live, Killed}
use Rattle.ticket_marks.specs.declared.answer.TicketKill.{TicketKill}
use Rattle.ticket_marks.specs.declared.answer.TicketKill.TheVariants.{First, Already}

-- an edge with the mark 0 is live, and another is killed
abbrev pub rank_of : ℕ → Rank
rank_of zero = Live
rank_of (suc m) = Killed (suc m)

-- a kill with the ticket t that found the mark 0 is the first, and its rank is one more
abbrev pub kill_of : ℕ → ℕ → TicketKill
kill_of t zero = First (t + 1)
kill_of t (suc m) = Already (suc m)

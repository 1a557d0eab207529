use Rattle.std.proofs.Common.{◌≡◌, ◌≤◌, length}
use Rattle.mwt_tool.proofs.KilledRows.{killed_before}
use Rattle.mwt_tool.proofs.kills.killed.Given as goal

abbrev pub invariant-loop-e : goal.invariant-loop-e
invariant-loop-e l = (l.count ≡ length (killed_before l.ranks l.e)) × (l.count ≤ l.e)

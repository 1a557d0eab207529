use Rattle.cert_text.specs.Texts.{Grows}
use Rattle.mwt_tool.proofs.KilledRows.{kill_rows, killed_before}
use Rattle.mwt_tool.proofs.kills.write_kills.Given as goal

abbrev pub invariant-loop-e : goal.invariant-loop-e
invariant-loop-e l = Grows l.initial.text.items l.text.items (kill_rows l.net l.ranks (killed_before l.ranks l.e))

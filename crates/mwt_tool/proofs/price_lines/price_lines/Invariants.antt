use Rattle.mwt_tool.proofs.PriceLines.{AreLinesUpto}
use Rattle.mwt_tool.proofs.price_lines.price_lines.Given as goal

abbrev pub invariant-loop-e : goal.invariant-loop-e
invariant-loop-e l = AreLinesUpto l.net l.prices l.lines.items l.e

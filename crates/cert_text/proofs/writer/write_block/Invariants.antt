use Rattle.std.proofs.Common.{take, map}
use Rattle.cert_text.specs.Texts.{Grows, spaced}
use Rattle.cert_text.proofs.writer.write_block.Given as goal

abbrev pub invariant-loop-row : goal.invariant-loop-row
invariant-loop-row g l = Grows l.initial.text l.text (map (λ x. spaced (g.R.Row.spelling x)) (take l.row-index l.row-items))

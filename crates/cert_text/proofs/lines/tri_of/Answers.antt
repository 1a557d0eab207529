use Rattle.std.proofs.Common.{sym}
use Rattle.cert_text.proofs.Shapes.{tri_again}
use Rattle.cert_text.proofs.lines.tri_of.Goals as goal

pub returns-then-b-c : goal.returns-then-b-c
returns-then-b-c c = sym (tri_again _)

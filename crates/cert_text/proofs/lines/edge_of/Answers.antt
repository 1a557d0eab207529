use Rattle.std.proofs.Common.{sym}
use Rattle.cert_text.proofs.Shapes.{edge_again}
use Rattle.cert_text.proofs.lines.edge_of.Goals as goal

pub returns-then-a-b : goal.returns-then-a-b
returns-then-a-b c = sym (edge_again _)

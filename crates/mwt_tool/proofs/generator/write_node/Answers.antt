use Rattle.std.proofs.Common.{arith}
use Rattle.std.proofs.lemmas.Fmt.{length-decimal-le}
use Rattle.std.proofs.lemmas.Result.{on_ok_weaker}
use Rattle.mwt_tool.proofs.Made.{line_short}
use Rattle.mwt_tool.proofs.generator.write_node.Goals as goal

pub returns-clause-short : goal.returns-clause-short
returns-clause-short c =
    let i = length-decimal-le 10 c.args.i (omega arith) (omega arith) (omega arith) in
    let x = length-decimal-le 10 c.coordinate-x.result (omega arith) (omega arith) (omega arith) in
    let y = length-decimal-le 10 c.coordinate-y.result (omega arith) (omega arith) (omega arith) in
    on_ok_weaker c.write.result (λ is. line_short _ _ _ _ _ is i x y) c.write.ensures.bytes

use Rattle.std.proofs.Common.{◌∙◌, arith, sym}
use Rattle.mwt_tool.proofs.NumberWords.{plain, read, unread}
use Rattle.mwt_tool.proofs.options.number_within.Goals as goal

pub returns-in_err-n-clause-is : goal.returns-in_err-n-clause-is
returns-in_err-n-clause-is c =
    let no_sign = plain c.args.text.now (c.if-starts_with.ensures.byte (omega arith) (omega arith) (λ _ _ is. is)) in
    c.from_residual.ensures ∙ unread c.args.least c.args.most c.args.text.now c.parse.result c.ranges.most.fits no_sign c.parse.ensures.value.0 (sym c.in_err-n.ensures.value)

pub returns-then-n-most-clause-is : goal.returns-then-n-most-clause-is
returns-then-n-most-clause-is c =
    let no_sign = plain c.args.text.now (c.if-starts_with.ensures.byte (omega arith) (omega arith) (λ _ _ is. is)) in
    read c.args.least c.args.most c.args.text.now c.parse.result c.in_ok-n.n no_sign c.parse.ensures.value.0 (sym c.in_ok-n.ensures.value) c.if-least-n.true c.if-n-most.true

-- The digits as far as the loop has come.
use Rattle.std.proofs.Common.{arith, sym, ◌∙◌}
use Rattle.length_enclosure.proofs.Digits.{digits_more}
use Rattle.tsplib_points.proofs.DigitTexts.{number_more_behind}
use Rattle.tsplib_points.proofs.digits.Digits.push_all.Goals as goal

pub loop-b-preserved : goal.loop-b-preserved
loop-b-preserved c =
    let text = c.args.text.now in
    let i = c.loop-b.b-index in
    record {
      digits = digits_more text i c.loop-b-test.true c.loop-b.invariant.digits (sym c.is_ascii_digit.ensures.value ∙ c.if-not-is_ascii_digit.false);
      value = λ front held. rw (number_more_behind front text i c.loop-b-test.true) (c.push.ensures.value _ (c.loop-b.invariant.value front held));
      zeros = omega (arith, c.push.ensures.zeros, c.loop-b.invariant.zeros);
    }

use Rattle.std.proofs.Common.{refl, arith, sym, ◌∙◌}
use Rattle.length_enclosure.proofs.Digits.{number_none, number_more, digits_more}
use Rattle.length_enclosure.proofs.number.digits_up_to.Goals as goal

pub loop-b-init : goal.loop-b-init
loop-b-init c = record { digits = refl; value = rw number_none (omega arith) }

pub loop-b-preserved : goal.loop-b-preserved
loop-b-preserved c =
    let text = c.args.text.now in
    let i = c.loop-b.b-index in
    let more = number_more text i c.loop-b-test.true in
    record {
      digits = digits_more text i c.loop-b-test.true c.loop-b.invariant.digits (sym c.is_ascii_digit.ensures.value ∙ c.if-not-is_ascii_digit.false);
      value = omega (arith, more, c.min-n.ensures);
    }

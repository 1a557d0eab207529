-- One digit more: a digit above 0 moves the zeros before it into the head.
use Rattle.std.proofs.Common.{◌≡◌, ◌-◌, arith}
use Rattle.length_enclosure.proofs.Digits.{digit_low, digit_high}
use Rattle.tsplib_points.proofs.Tens.{holds_push, holds_more}
use Rattle.tsplib_points.proofs.digits.Digits.push.Goals as goal

pub returns-then-b-ne48-clause-value : goal.returns-then-b-ne48-clause-value
returns-then-b-ne48-clause-value c = λ n h.
    let low = digit_low c.args.b c.requires.digit in
    let high = digit_high c.args.b c.requires.digit in
    let e : c.from.result ≡ c.args.b - 48 = omega (arith, c.from.ensures) in
    let s = rw e at c.shifted-self.ensures in
    rw s (holds_push _ _ n (c.args.b - 48) h (omega (arith, c.if-b-ne48.true)) (omega arith))

pub returns-then-self-ne0-clause-value : goal.returns-then-self-ne0-clause-value
returns-then-self-ne0-clause-value c = λ n h.
    let e : c.args.b - 48 ≡ 0 = omega (arith, c.if-b-ne48.false) in
    rw e (holds_more _ _ n h)

use Rattle.std.proofs.Common.{arith}
use Rattle.std.proofs.lemmas.Int.{ints}
use Rattle.exact_predicates.proofs.Gaps.{kept}
use Rattle.point_grid.proofs.Bits.{mul-le_up, mul-le_down}
use Rattle.point_grid.proofs.forms.largest.Goals as goal

pub returns-then-a-lt0-clause-above : goal.returns-then-a-lt0-clause-above
returns-then-a-lt0-clause-above c = λ x l h.
    rw (kept c.product.result (omega (arith, c.product.ensures.bound)), c.product.ensures.value, kept c.args.a (omega (arith, c.requires.a_in)), kept c.args.low (omega (arith, c.requires.low_in))) (mul-le_down c.args.a c.args.low x (omega (arith, ints)) l)

pub returns-else-a-lt0-clause-above : goal.returns-else-a-lt0-clause-above
returns-else-a-lt0-clause-above c = λ x l h.
    rw (kept c.product-else-a-lt0.result (omega (arith, c.product-else-a-lt0.ensures.bound)), c.product-else-a-lt0.ensures.value, kept c.args.a (omega (arith, c.requires.a_in)), kept c.args.high (omega (arith, c.requires.high_in))) (mul-le_up c.args.a x c.args.high (omega (arith, ints)) h)

use Rattle.std.proofs.Common.{ℕ, ◌*◌, ◌^◌, ◌<◌, arith}
use Rattle.exact_predicates.specs.Root.{root_down}
use Rattle.exact_predicates.proofs.Roots.{below-square, root_down_is}
use Rattle.length_enclosure.proofs.root.weight.Goals as goal

root_down-small : (n : ℕ) → n < 9 * 10 ^ 30 → root_down n < 3 * 10 ^ 15
root_down-small n small = below-square (root_down n) (3 * 10 ^ 15) (omega (arith, (root_down_is n).fits))

pub returns-clause-bound : goal.returns-clause-bound
returns-clause-bound c =
    omega (arith, root_down-small (10 ^ 12 * c.from.result) (omega (arith, c.from.ensures)), c.root_between.ensures)

use Rattle.std.proofs.Common.{◌≡◌, ◌*◌, ◌^◌, ◌≤◌, take, unsigned_abs}
use Rattle.dual_checker.specs.LiveLines.{sum_of_anchors}
use Rattle.dual_checker.proofs.bound.sum_of_anchors.Given as goal

abbrev pub invariant-loop-line : goal.invariant-loop-line
invariant-loop-line l = record {
  is : l.sum ≡ sum_of_anchors (take l.line-index l.lines);
  small : unsigned_abs l.sum ≤ 2 ^ 65 * l.line-index;
}

use Rattle.std.proofs.Common.{◌≡◌, length, take}
use Rattle.std.specs.List.{items_where_true, range_with_len}
use Rattle.dual_checker.proofs.elimination.Elimination.live_numbers.Given as goal

abbrev pub invariant-loop-e : goal.invariant-loop-e
invariant-loop-e l = l.numbers.items ≡ items_where_true l.self.flags (take l.e (range_with_len 0 (length l.self.flags)))

use Rattle.std.proofs.Common.{◌≡◌, ◌+◌, ◌≤◌, true, List, ℕ, take, ◌++◌}
use Rattle.std.specs.List.{list_all}
use Rattle.length_enclosure.specs.Number.{is_digit, number}
use Rattle.tsplib_points.specs.Kept.{Holds}
use Rattle.tsplib_points.proofs.digits.Digits.push_all.Given as goal

abbrev pub invariant-loop-b : goal.invariant-loop-b
invariant-loop-b l = record {
  digits : list_all is_digit (take l.b-index l.text) ≡ true;
  value : (front : List ℕ) → Holds l.initial.self.head l.initial.self.zeros (number front) → Holds l.self.head l.self.zeros (number (front ++ take l.b-index l.text));
  zeros : l.self.zeros ≤ l.initial.self.zeros + l.b-index;
}

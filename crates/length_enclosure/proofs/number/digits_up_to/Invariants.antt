use Rattle.std.proofs.Common.{◌≡◌, true, take, min}
use Rattle.std.specs.List.{list_all}
use Rattle.length_enclosure.specs.Number.{is_digit, number}
use Rattle.length_enclosure.proofs.number.digits_up_to.Given as goal

abbrev pub invariant-loop-b : goal.invariant-loop-b
invariant-loop-b l = record {
  digits : list_all is_digit (take l.b-index l.text) ≡ true;
  value : l.n ≡ min (number (take l.b-index l.text)) l.cap;
}

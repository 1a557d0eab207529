use Rattle.std.proofs.Common.{◌≡◌, ◌-◌, ℕ, List, length, take, drop, arith}
use Rattle.std.proofs.lemmas.Bool.{false_from_ne_true}
use Rattle.std.proofs.lemmas.List.{length-drop, take_all}
use Rattle.length_enclosure.specs.Amount.{size_in}
use Rattle.length_enclosure.proofs.Amounts.{long_enough}
use Rattle.length_enclosure.proofs.units.size_of.Goals as goal

pub returns-then-text-lt8-clause-is : goal.returns-then-text-lt8-clause-is
returns-then-text-lt8-clause-is c = false_from_ne_true _ (λ h. omega (arith, long_enough c.args.text.now h))

-- a range that goes on to the end
to_the_end : (s : List ℕ) → take (length s - 1) (drop 1 s) ≡ drop 1 s
to_the_end s = take_all (length s - 1) (drop 1 s) (omega (arith, length-drop 1 s))

pub returns-clause-value : goal.returns-clause-value
unfolding size_in
returns-clause-value c =
    let w = rw (c.split_at.ensures.front) at c.in_ok-whole.ensures.value in
    let r = rw (c.split_at.ensures.back, to_the_end) at c.in_ok-rest.ensures.value in
    omega (arith, c.min.ensures, w, r)

-- What is kept of a real, by how many decimals it needs.
use Rattle.tsplib_points.proofs.KeptReals.{keeps_zero, not_kept, keeps_fraction, keeps_whole}
use Rattle.tsplib_points.proofs.decimal.Reading.keep.Goals as goal

pub returns-then-up-down : goal.returns-then-up-down
returns-then-up-down c = λ r given.
    not_kept (record { read = given; zeros_in = c.requires.zeros_in; places_in = c.requires.places_in }) c.if-head-eq0.false c.if-up-down.true

pub returns-then-head-eq0 : goal.returns-then-head-eq0
returns-then-head-eq0 c = λ r given.
    keeps_zero (record { read = given; zeros_in = c.requires.zeros_in; places_in = c.requires.places_in }) c.if-head-eq0.true

pub returns-then-up-down-2 : goal.returns-then-up-down-2
returns-then-up-down-2 c = λ r given.
    keeps_fraction (record { read = given; zeros_in = c.requires.zeros_in; places_in = c.requires.places_in }) c.if-head-eq0.false c.if-up-down-2.true c.if-up-down.false

pub returns-else-up-down-2 : goal.returns-else-up-down-2
returns-else-up-down-2 c = λ r given.
    keeps_whole (record { read = given; zeros_in = c.requires.zeros_in; places_in = c.requires.places_in }) _ c.if-head-eq0.false c.if-up-down-2.false c.shifted.ensures

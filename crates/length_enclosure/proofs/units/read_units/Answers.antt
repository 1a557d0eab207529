use Rattle.length_enclosure.proofs.UnitTexts.{units_value, units_none, units_outside}
use Rattle.length_enclosure.proofs.units.read_units.Goals as goal

pub returns-clause-value : goal.returns-clause-value
returns-clause-value c = λ n. rw c.read.ensures (units_value c.args.text.now n)

pub returns-clause-none : goal.returns-clause-none
returns-clause-none c = rw c.read.ensures (units_none c.args.text.now)

pub returns-clause-outside : goal.returns-clause-outside
returns-clause-outside c = rw c.read.ensures (units_outside c.args.text.now)

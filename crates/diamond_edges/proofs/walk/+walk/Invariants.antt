use Rattle.std.proofs.Common.{◌-◌}
use Rattle.diamond_edges.proofs.walk.+walk.Given as goal

abbrev pub decreases-walk : goal.decreases-walk
decreases-walk l = l.high - l.low

use Rattle.std.proofs.Common.{◌≡◌, ◌-◌, ◌<◌, ◌≤◌, length, slice_index}
use Rattle.skeleton_faces.specs.Sides.{side_start}
use Rattle.skeleton_faces.proofs.turns.last_round.Given as goal

abbrev pub invariant-loop-last : goal.invariant-loop-last
invariant-loop-last l = (l.place ≤ l.last) × (l.last < length l.order) × (side_start l.edges (slice_index l.order l.last) ≡ l.from)

abbrev pub decreases-loop-last : goal.decreases-loop-last
decreases-loop-last l = length l.order - l.last

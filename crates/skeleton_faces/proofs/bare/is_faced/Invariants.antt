use Rattle.std.proofs.Common.{ℕ, ◌<◌, slice_index}
use Rattle.skeleton_faces.specs.Reaches.{IsLiveTri}
use Rattle.skeleton_faces.proofs.bare.is_faced.Given as goal

abbrev pub invariant-loop-t : goal.invariant-loop-t
invariant-loop-t l = (k : ℕ) → k < l.t-index → ¬ IsLiveTri l.net l.flags (slice_index l.row k)

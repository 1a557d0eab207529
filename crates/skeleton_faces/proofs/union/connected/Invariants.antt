use Rattle.std.proofs.Common.{◌≡◌, ℕ, ◌<◌, vec_len, slice_index, length}
use Rattle.skeleton_faces.proofs.Groups.{AreGrouped}
use Rattle.skeleton_faces.proofs.union.connected.Given as goal

abbrev pub invariant-loop-p : goal.invariant-loop-p
invariant-loop-p l = (vec_len l.parents ≡ l.p) × ((k : ℕ) → k < l.p → slice_index l.parents.items k ≡ k)

abbrev pub invariant-loop-edge : goal.invariant-loop-edge
invariant-loop-edge l = AreGrouped (length l.points.points) l.skeleton l.edge-index l.parents.items

use Rattle.std.proofs.Common.{◌≡◌, ℕ, ◌-◌, ◌<◌, ◌≤◌, length, slice_index}
use Rattle.empty_triangles.proofs.fan.first_not_left.Given as goal

abbrev pub invariant-loop-from : goal.invariant-loop-from
invariant-loop-from l = record {
  rises : l.from ≤ l.to;
  within : l.to ≤ length l.heads;
  between : (k : ℕ) → k < length l.heads → slice_index l.heads k ≡ l.b → (l.from ≤ k) × (k ≤ l.to);
}

abbrev pub decreases-loop-from : goal.decreases-loop-from
decreases-loop-from l = l.to - l.from

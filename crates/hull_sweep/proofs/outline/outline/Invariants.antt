use Rattle.std.proofs.Common.{◌≡◌, ◌+◌, ◌<◌, ◌≤◌, ℕ, length, slice_index}
use Rattle.hull_sweep.proofs.outline.outline.Given as goal

abbrev pub invariant-loop-i : goal.invariant-loop-i
invariant-loop-i l =
    let c = l.fn.lower.items in
    record {
      low : 1 ≤ l.i;
      size : length l.hull.items + l.i + 1 ≡ length c + length l.upper;
      up : (k : ℕ) → k < length c → slice_index l.hull.items k ≡ slice_index c k;
      down : (k j : ℕ) → l.i ≤ k → k + j + 2 ≡ length l.upper → slice_index l.hull.items (length c + j) ≡ slice_index l.upper k;
    }

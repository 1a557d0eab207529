use Rattle.std.proofs.Common.{◌≡◌, ℕ, ◌<◌, length, slice_index}
use Rattle.skeleton_faces.proofs.fans.places.Given as goal

abbrev pub invariant-loop-place : goal.invariant-loop-place
invariant-loop-place l = record {
  one_each : length l.places.items ≡ l.numbers;
  inside : (k : ℕ) → k < l.place → slice_index l.places.items (slice_index l.order k) < l.place;
  there : (k : ℕ) → k < l.place → slice_index l.order (slice_index l.places.items (slice_index l.order k)) ≡ slice_index l.order k;
}

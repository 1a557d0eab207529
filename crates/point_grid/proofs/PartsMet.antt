-- The parts of an axis that meet a range, by numbers on their way through the bits of an i64.
use Rattle.std.proofs.Common.{ℕ, ◌*◌, ◌^◌, ◌<◌, ◌≤◌, ℤ, ◌≤ℤ◌, to_z, of_z, unsigned_abs, arith}
use Rattle.point_grid.specs.Cells.{part_of}
use Rattle.point_grid.proofs.Bits.{kept64}
use mir.Syntax.{w64}

module _ (g : ℕ) (low high x : ℤ) (l_in : unsigned_abs low ≤ 10 ^ 9) (h_in : unsigned_abs high ≤ 10 ^ 9) (above : low ≤ℤ x) (below : x ≤ℤ high) where
  pub part_from : (from : ℤ) (first : ℕ) → unsigned_abs from ≤ 2 * 10 ^ 10
      → ((y : ℤ) → to_z w64 (of_z w64 low) ≤ℤ y → y ≤ℤ to_z w64 (of_z w64 high) → to_z w64 (of_z w64 from) ≤ℤ y → first ≤ part_of g (to_z w64 (of_z w64 low)) (to_z w64 (of_z w64 high)) y)
      → from ≤ℤ x → first ≤ part_of g low high x
  part_from from first f_in met h =
      let l = kept64 low (omega arith) in
      let r = kept64 high (omega arith) in
      let k = met x (rw l above) (rw r below) (rw (kept64 from f_in) h) in
      rw (l, r) at k

  pub part_to : (to : ℤ) (end : ℕ) → unsigned_abs to ≤ 2 * 10 ^ 10
      → ((y : ℤ) → to_z w64 (of_z w64 low) ≤ℤ y → y ≤ℤ to_z w64 (of_z w64 high) → y ≤ℤ to_z w64 (of_z w64 to) → part_of g (to_z w64 (of_z w64 low)) (to_z w64 (of_z w64 high)) y < end)
      → x ≤ℤ to → part_of g low high x < end
  part_to to end t_in met h =
      let l = kept64 low (omega arith) in
      let r = kept64 high (omega arith) in
      let k = met x (rw l above) (rw r below) (rw (kept64 to t_in) h) in
      rw (l, r) at k

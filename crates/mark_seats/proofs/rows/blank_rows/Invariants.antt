use Rattle.std.proofs.Common.{◌≡◌, length, replicate, All}
use Rattle.mark_seats.proofs.rows.blank_rows.Given as goal

abbrev pub invariant-fill : goal.invariant-fill
invariant-fill l = (length l.rows.items ≡ l.counter) × All (λ r. r.items ≡ replicate l.len 0) l.rows.items

use Rattle.std.proofs.Common.{◌≡◌, ◌-◌, None, length}
use Rattle.cert_text.specs.Places.{place}
use Rattle.cert_text.specs.Reading.{rows_at}
use Rattle.cert_text.proofs.Loops.{with_front}
use Rattle.cert_text.proofs.reader.Reader.rows.Given as goal

abbrev pub invariant-loop : goal.invariant-loop
invariant-loop g l = record {
  so_far : with_front l.rows.items (rows_at (g.R.Row.says l.limits) g.R.Row.may_follow l.last (l.count - l.counter) (place l.self))
      ≡ rows_at (g.R.Row.says l.limits) g.R.Row.may_follow None l.count (place l.initial.self);
  count : length l.rows.items ≡ l.counter;
}

-- A source and a sink in memory whose failures are planned: which of their calls fail, by number.
use Rattle.std.specs.Prelude.{ℕ, ◌+◌, ◌-◌, ◌^◌, min, Bool, true, false, ◌&&◌, List, ◌++◌, length, take, drop, nat_lt, ◌==◌, if◌then◌else◌}
use Rattle.std.specs.List.{list_any}

-- The numbers, from 1, of the calls that are to fail, how many calls were made, and how many failed. Each of the two
-- counts stays at 2^64 - 1 once it is reached.
pub record PlannedCalls : Type 0 where
  pub fail : List ℕ
  pub calls : ℕ
  pub faults : ℕ

-- before the first call
abbrev pub planned : List ℕ → PlannedCalls
planned fail = record { fail = fail; calls = 0; faults = 0 }

abbrev pub one_more : ℕ → ℕ
one_more count = min (count + 1) (2 ^ 64 - 1)

-- whether the next call is to fail
abbrev pub fails_next : PlannedCalls → Bool
fails_next plan = list_any (λ call. call == one_more plan.calls) plan.fail

-- after one more call, which failed or not
abbrev pub counted : Bool → PlannedCalls → PlannedCalls
counted failed plan = record {
  fail = plan.fail;
  calls = one_more plan.calls;
  faults = if failed then one_more plan.faults else plan.faults;
}

-- a source: what it has left, and at most how many bytes it gives a call
pub record PlannedSource : Type 0 where
  pub left : List ℕ
  pub chunk : ℕ
  pub plan : PlannedCalls

-- a sink: what was written to it, at most how many bytes it takes a call, and how many at all
pub record PlannedSink : Type 0 where
  pub written : List ℕ
  pub chunk : ℕ
  pub room : ℕ
  pub plan : PlannedCalls

-- how many bytes a call takes of a piece, where it does not fail: as many as there are, at most a chunk, and as fit
abbrev pub taken_count : PlannedSink → List ℕ → ℕ
taken_count sink piece = min (min (length piece) sink.chunk) (sink.room - length sink.written)

-- nothing can be taken of a piece that is not empty
abbrev pub is_full : PlannedSink → List ℕ → Bool
is_full sink piece = nat_lt 0 (length piece) && (length sink.written == sink.room)

-- a source that has given k bytes, and one whose read has failed
abbrev pub after_read : PlannedSource → ℕ → PlannedSource
after_read source k = record source { left = drop k source.left; plan = counted false source.plan }

abbrev pub after_failed_read : PlannedSource → PlannedSource
after_failed_read source = record source { plan = counted true source.plan }

-- a sink that has taken the first k bytes of a piece, and one whose write has failed
abbrev pub after_write : PlannedSink → List ℕ → ℕ → PlannedSink
after_write sink piece k = record sink { written = sink.written ++ take k piece; plan = counted false sink.plan }

abbrev pub after_failed_write : PlannedSink → PlannedSink
after_failed_write sink = record sink { plan = counted true sink.plan }

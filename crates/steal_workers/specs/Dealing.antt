-- How edges are dealt.
use Rattle.std.specs.Prelude.{ℕ, ◌*◌, ◌/◌, ◌%◌}
use Rattle.steal_workers.specs.declared.dealing.Dealing as dealing
use Rattle.steal_workers.specs.declared.dealing.Dealing.TheVariants.{Blocks, Stripes}

-- the worker of k to whom the edge e of m goes
abbrev pub dealt_to : dealing.Dealing → ℕ → ℕ → ℕ → ℕ
dealt_to Blocks e m k = e * k / m
dealt_to Stripes e m k = e % k

-- The answers, by the bit that a step gave.
use Rattle.std.specs.Prelude.{ℕ, zero, suc}
use Rattle.edge_marks.specs.declared.answer.Look.{Look}
use Rattle.edge_marks.specs.declared.answer.Look.TheVariants.{Live, Killed}
use Rattle.edge_marks.specs.declared.answer.Kill.{Kill}
use Rattle.edge_marks.specs.declared.answer.Kill.TheVariants.{First, Already}

abbrev pub look_of : ℕ → Look
look_of zero = Live
look_of (suc x) = Killed

abbrev pub kill_of : ℕ → Kill
kill_of zero = First
kill_of (suc x) = Already

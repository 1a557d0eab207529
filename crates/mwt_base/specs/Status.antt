-- How a run of the program ends.
use Rattle.std.specs.Prelude.{ℕ}
use Rattle.mwt_base.specs.declared.status.Status.{Status}
use Rattle.mwt_base.specs.declared.status.Status.TheVariants.{Done, Broken, Refused, ReadFault, WriteFault, NoMemory}

-- the exit status of the program
abbrev pub status_number : Status → ℕ
status_number Done = 0
status_number Broken = 1
status_number Refused = 2
status_number ReadFault = 3
status_number WriteFault = 4
status_number NoMemory = 5

-- The numbers of the statuses. docs/FORMATS.md, "Statuses", lists them with their lines.
use Rattle.std.specs.Prelude.{ℕ}
use Rattle.planner_cli.specs.declared.status.Status.{Status}
use Rattle.planner_cli.specs.declared.status.Status.TheVariants.{Done, NoPlan, Words, Input, ReadFault, WriteFault, TooManyStates, CostRange, NoMemory, RowRange}

-- the number of a status, which is the program's exit status
abbrev pub number_of : Status → ℕ
number_of Done = 0
number_of NoPlan = 1
number_of Words = 2
number_of (Input fault) = 3
number_of (ReadFault file) = 4
number_of WriteFault = 5
number_of (TooManyStates node) = 6
number_of CostRange = 7
number_of NoMemory = 9
number_of (RowRange node) = 10

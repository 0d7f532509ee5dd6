-- The status of a command whose files were not loaded.
use Rattle.command_input.specs.declared.load_no.LoadNo.{LoadNo}
use Rattle.command_input.specs.declared.load_no.LoadNo.TheVariants.{Refused, Failed, NoMemory}
use Rattle.planner_cli.specs.declared.status.Status.{Status}
use Rattle.planner_cli.specs.declared.status.Status.TheVariants as status

-- the status of files that were not loaded
abbrev pub status_of : LoadNo → Status
status_of (Refused fault) = status.Input fault
status_of (Failed file) = status.ReadFault file
status_of NoMemory = status.NoMemory

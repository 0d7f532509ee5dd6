-- Words of private functions alone: what a check of the lists found.
use Rattle.std.specs.Prelude.{Option, None, Result, Ok, Err}
use Rattle.mq_base.specs.declared.refusal.Refusal.{Refusal}
use Rattle.policy_reader.specs.declared.fault.Fault.{Fault}
use Rattle.policy_reader.specs.Faults.{fault}

-- what a check found: its fault, or nothing
abbrev pub fault_of : {A : Type 0} → Result A Fault → Option Refusal
fault_of (Ok passed) = None
fault_of (Err found) = fault found.code found.at found.item

-- Words of private functions alone: what a check of the lists found, and numbers within 64 bits.
use Rattle.std.specs.Prelude.{ℕ, ◌^◌, ◌<◌, List, [], slice_index, slice_index_or, Option, None, Result, Ok, Err}
use Rattle.mq_base.specs.declared.refusal.Refusal.{Refusal}
use Rattle.price_reader.specs.declared.fault.Fault.{Fault}
use Rattle.price_reader.specs.Faults.{fault}

-- what a check found: its fault, or nothing
abbrev pub fault_of : {A : Type 0} → Result A Fault → Option Refusal
fault_of (Ok passed) = None
fault_of (Err found) = fault found.code found.at found.item

-- each number of a list, and of a list of lists, is within 64 bits
abbrev pub Fits64 : List ℕ → Type 0
Fits64 numbers = (k : ℕ) → slice_index numbers k < 2 ^ 64

abbrev pub AllFit64 : List (List ℕ) → Type 0
AllFit64 lists = (k n : ℕ) → slice_index (slice_index_or lists k []) n < 2 ^ 64

-- What the status of the top call says, for every command. docs/ARCHITECTURE.md, "The top call", tells it in prose.
use Rattle.std.specs.Prelude.{◌≡◌, ◌⊎◌, ℕ, Bool, true, false, List, Option, Some}
use Rattle.command_input.specs.declared.fault.FileRole.{FileRole}
use Rattle.command_input.specs.declared.fault.InputFault.{InputFault}
use Rattle.command_input.specs.declared.task.Task.{Task}
use Rattle.command_input.specs.Files.{Lookup, Agrees, hidden}
use Rattle.command_input.specs.Input.{absent, refused, Input, wrong_words, stopped, accepted, input_of}
use Rattle.outside_io.specs.Outside.{ShelfState, SinkState, Appends, AppendsFront, Rose}
use Rattle.planner_cli.specs.declared.status.Status.{Status}
use Rattle.planner_cli.specs.declared.status.Status.TheVariants as status
use Rattle.planner_cli.specs.Ends.{Ends}

-- a fact of the task that the input is, where it is accepted; there is none for another input
abbrev pub ForTask : Input → (Task → Type 0) → Type 0
ForTask wrong_words P = ⊥
ForTask (stopped stop) P = ⊥
ForTask (accepted task) P = P task

-- what was written grew by the whole of a text with which the task may end, with this status
abbrev pub AppendsEnd : Task → Status → Option (List ℕ) → Option (List ℕ) → Type 0
AppendsEnd task s before after = (text : List ℕ) × Ends task s text × Appends before after text

-- what was written grew by a front of a text with which the task may end, or by nothing
abbrev pub AppendsCut : Task → Option (List ℕ) → Option (List ℕ) → Type 0
AppendsCut task before after = (s : Status) × (text : List ℕ) × Ends task s text × AppendsFront before after text

-- the status that an input has where no fault rises and memory suffices
abbrev pub IsDue : Input → Status → Type 0
IsDue wrong_words s = s ≡ status.Words
IsDue (stopped (absent file name)) s = s ≡ status.ReadFault file
IsDue (stopped (refused fault)) s = s ≡ status.Input fault
IsDue (accepted task) s = (text : List ℕ) × Ends task s text

-- whether a command has ended, so that all of its text was written, where there is one to write
abbrev pub is_end : Status → Bool
is_end status.Done = true
is_end status.NoPlan = true
is_end (status.TooManyStates node) = true
is_end status.CostRange = true
is_end (status.RowRange node) = true
is_end _ = false

-- whether nothing is written with this status
abbrev pub is_silent : Status → Bool
is_silent status.Words = true
is_silent (status.Input fault) = true
is_silent (status.ReadFault file) = true
is_silent (status.TooManyStates node) = true
is_silent status.CostRange = true
is_silent (status.RowRange node) = true
is_silent _ = false

-- a file could not be read: the count of faults rose, the name that failed is that of the file, and with that name hidden
-- the input stops exactly there, so that all earlier files are accepted
pub record IsUnread (before after : ShelfState) (words : List (List ℕ)) (lookup : Lookup) (file : FileRole) : Type 0 where
  pub rose : Rose before.faults after.faults
  pub name : List ℕ
  pub failed : after.failed ≡ Some name
  pub stops : input_of words (hidden file name lookup) ≡ stopped (absent file name)

-- what a status says of some content of the files that agrees with what the shelf tells, and of what was written
pub record Tells (words : List (List ℕ)) (shelf shelf_after : ShelfState) (sink sink_after : SinkState) (s : Status) : Type 0 where
  pub lookup : Lookup
  pub agrees : Agrees shelf.held lookup
  pub refused : (fault : InputFault) → s ≡ status.Input fault → input_of words lookup ≡ stopped (refused fault)
  pub read_fault : (file : FileRole) → s ≡ status.ReadFault file → IsUnread shelf shelf_after words lookup file
  pub steady_shelf : shelf.steady ≡ true → (file : FileRole) → s ≡ status.ReadFault file →
      (name : List ℕ) × (input_of words lookup ≡ stopped (absent file name))
  pub ended : is_end s ≡ true → ForTask (input_of words lookup) (λ task. AppendsEnd task s sink.written sink_after.written)
  pub cut : s ≡ status.WriteFault → ForTask (input_of words lookup) (λ task. AppendsCut task sink.written sink_after.written)
  pub wanting : s ≡ status.NoMemory → (sink_after.written ≡ sink.written)
      ⊎ ForTask (input_of words lookup) (λ task. AppendsCut task sink.written sink_after.written)
  pub decided : IsDue (input_of words lookup) s
      ⊎ ((s ≡ status.NoMemory) ⊎ (Rose shelf.faults shelf_after.faults ⊎ Rose sink.faults sink_after.faults))

-- What the calls that read the files of a command say of the files that they saw.
use Rattle.std.specs.Prelude.{◌≡◌, ◌<◌, ◌≤◌, ℕ, true, List, [], ◌∷◌, ◌++◌, length, map, Option, Some, None, Result, Ok, Err}
use Rattle.std.specs.List.{AllByRecursion}
use Rattle.mq_base.specs.declared.refusal.Refusal.{Refusal}
use Rattle.mq_base.specs.declared.table.PlainTable.{PlainTable}
use Rattle.mq_base.specs.BoundQuery.{AreDistinct, IsBound}
use Rattle.mq_base.specs.Refusal.{refusal}
use Rattle.mq_base.specs.Table.{HasForm}
use Rattle.outside_io.specs.Outside.{Files, ShelfState, IsHeld, IsAbsent, TakesWithin, Rose}
use Rattle.policy_base.specs.Accepted.{IsAccepted}
use Rattle.policy_base.specs.Priced.{IsPriced}
use Rattle.command_input.specs.declared.fault.FileRole.{FileRole}
use Rattle.command_input.specs.declared.fault.InputFault.{InputFault}
use Rattle.command_input.specs.declared.load_no.LoadNo.{LoadNo}
use Rattle.command_input.specs.declared.load_no.LoadNo.TheVariants.{Refused, Failed, NoMemory}
use Rattle.command_input.specs.declared.task.RunTask.{RunTask}
use Rattle.command_input.specs.declared.task.Task.{Task}
use Rattle.command_input.specs.declared.task.Task.TheVariants as task
use Rattle.command_input.specs.Files.{Lookup, role_number}
use Rattle.command_input.specs.Input.{Stop, absent, refused, most, fault_of}

-- a file that was read: its role, its name and its bytes
pub record Seen : Type 0 where
  pub file : FileRole
  pub name : List ℕ
  pub bytes : List ℕ

-- the lookup gives the files that were read
abbrev pub Gives : Lookup → List Seen → Type 0
Gives lookup [] = Unit {0}
Gives lookup (s ∷ rest) = (lookup s.file s.name ≡ Some s.bytes) × Gives lookup rest

-- the shelf holds the files that were read, where it tells that
abbrev pub AreHeld : Option Files → List Seen → Type 0
AreHeld held [] = Unit {0}
AreHeld held (s ∷ rest) = IsHeld held s.name s.bytes × AreHeld held rest

-- no two of these roles are one
abbrev pub AreApart : List FileRole → Type 0
AreApart files = AreDistinct (map role_number files)

-- what is known once files with these roles were read: a fact of every lookup that gives them
pub record Knows (held : Option Files) (files : List FileRole) (P : Lookup → Type 0) : Type 0 where
  pub seen : List Seen
  pub roles : map (λ (s : Seen). s.file) seen ≡ files
  pub are_held : AreHeld held seen
  pub always : (lookup : Lookup) → Gives lookup seen → P lookup

-- some of these files were read, and the last of them is refused; code 0 comes only where more bytes than the limit were taken
pub record IsRefused {X : Type 0} (before after : ShelfState) (files : List FileRole) (expected : Lookup → Result X Stop) (fault : InputFault) : Type 0 where
  pub too_long : fault.code ≡ 0 → most < after.taken
  pub read : List FileRole
  pub rest : List FileRole
  pub split : files ≡ read ++ rest
  pub knows : Knows before.held read (λ lookup. expected lookup ≡ Err (refused fault))

-- the files before this one were read, and this one could not be: the count of faults rose, and the name that failed stops
-- the command where it is absent
pub record IsUnreadable {X : Type 0} (before after : ShelfState) (files : List FileRole) (expected : Lookup → Result X Stop) (file : FileRole) : Type 0 where
  pub rose : Rose before.faults after.faults
  pub name : List ℕ
  pub failed : after.failed ≡ Some name
  pub absent_if_steady : before.steady ≡ true → IsAbsent before.held name
  pub read : List FileRole
  pub rest : List FileRole
  pub split : files ≡ read ++ file ∷ rest
  pub knows : Knows before.held read (λ lookup. lookup file name ≡ None → expected lookup ≡ Err (absent file name))

-- files with these roles were read one after the other: they come to what is expected, or the reading stopped
abbrev pub Loads : {X : Type 0} → ShelfState → ShelfState → List FileRole → (Lookup → Result X Stop) → Result X LoadNo → Type 0
Loads before after files expected (Ok x) = Knows before.held files (λ lookup. expected lookup ≡ Ok x)
Loads before after files expected (Err (Refused fault)) = IsRefused before after files expected fault
Loads before after files expected (Err (Failed file)) = IsUnreadable before after files expected file
Loads before after files expected (Err NoMemory) = Unit {0}

-- all files of a command were read, or the reading stopped; each role was read once
pub record Loaded {X : Type 0} (before after : ShelfState) (expected : Lookup → Result X Stop) (answer : Result X LoadNo) : Type 0 where
  pub files : List FileRole
  pub apart : AreApart files
  pub loads : Loads before after files expected answer

-- more bytes than the limit were taken of a file, and no fewer are held where the shelf tells them
pub record IsTooLong (before after : ShelfState) (file : FileRole) (name : List ℕ) (fault : InputFault) : Type 0 where
  pub same : fault ≡ fault_of file (refusal 0 0 0)
  pub taken : most < after.taken
  pub held : TakesWithin before.held name after.taken

-- a file could not be read: the count of faults rose, the name that failed is this one, and over a steady shelf it is absent
pub record FailsAt (before after : ShelfState) (file : FileRole) (name : List ℕ) (other : FileRole) : Type 0 where
  pub same : other ≡ file
  pub rose : Rose before.faults after.faults
  pub failed : after.failed ≡ Some name
  pub absent_if_steady : before.steady ≡ true → IsAbsent before.held name

-- why the bytes of a file with this role and name do not come
abbrev pub StopsReading : ShelfState → ShelfState → FileRole → List ℕ → LoadNo → Type 0
StopsReading before after file name (Refused fault) = IsTooLong before after file name fault
StopsReading before after file name (Failed other) = FailsAt before after file name other
StopsReading before after file name NoMemory = Unit {0}

-- why an error of a reader does not load its file: its refusal, or want of memory
abbrev pub no_of : FileRole → Option Refusal → LoadNo
no_of file None = NoMemory
no_of file (Some told) = Refused (fault_of file told)

-- an answer of a reader, with the error of loading in place of its own
abbrev pub judged_as : {X E : Type 0} → FileRole → (E → Option Refusal) → Result X E → Result X LoadNo
judged_as file told (Ok x) = Ok x
judged_as file told (Err error) = Err (no_of file (told error))

-- an answer for the content of a file is what the content comes to, and a refusal has a number from 1 on
abbrev pub Judges : {X : Type 0} → FileRole → Result X LoadNo → Result X Refusal → Type 0
Judges file (Ok x) outcome = outcome ≡ Ok x
Judges file (Err (Refused fault)) outcome = (r : Refusal) × (1 ≤ r.code) × (fault ≡ fault_of file r) × (outcome ≡ Err r)
Judges file (Err (Failed other)) outcome = ⊥
Judges file (Err NoMemory) outcome = Unit {0}

-- what the end of `run` relies on in its task
pub record IsSoundRun (t : RunTask) : Type 0 where
  pub policy : IsAccepted t.policy
  pub prices : IsPriced (length t.policy.schema.attrs) t.prices
  pub query : IsBound t.policy.schema t.query
  pub listed : map (λ (table : PlainTable). table.table) t.tables ≡ t.query.tables
  pub form : AllByRecursion (HasForm t.policy.schema) t.tables

abbrev pub IsSound : Task → Type 0
IsSound (task.Run t) = IsSoundRun t

-- What a shelf tells of its files and of its last call, and what a put does to the bytes of a sink.
-- docs/ARCHITECTURE.md, "The outside", says the same in prose.
use Rattle.std.specs.Prelude.{◌≡◌, ◌⊎◌, ℕ, ◌-◌, ◌^◌, ◌<◌, ◌≤◌, Bool, List, [], ◌∷◌, ◌++◌, length, take, if◌then◌else◌, bytes_eq, Option, Some, None, unwrap_or, Result, Ok, Err}
use Rattle.outside_io.specs.declared.shelf.ShelfNo.{ShelfNo}
use Rattle.outside_io.specs.declared.shelf.ShelfNo.TheVariants as no

-- names with their bytes
abbrev pub Files : Type 0
Files = List (List ℕ × List ℕ)

-- what a shelf means: its files, where it tells them, the number of bytes that its last call took, its count of faults,
-- the name of the last call that failed, and whether every name that is held can be read
pub record ShelfState : Type 0 where
  pub held : Option Files
  pub taken : ℕ
  pub faults : ℕ
  pub failed : Option (List ℕ)
  pub steady : Bool

-- what a sink means: what was written, where it tells that, its count of faults, and whether every piece is taken for
-- which there is memory
pub record SinkState : Type 0 where
  pub written : Option (List ℕ)
  pub faults : ℕ
  pub steady : Bool

-- the bytes of the first file with this name, where there is one
abbrev pub content_of : Files → List ℕ → Option (List ℕ)
content_of [] name = None
content_of (file ∷ files) name = if bytes_eq file.0 name then Some file.1 else content_of files name

-- no two files have one name
abbrev pub HasDistinctNames : Files → Type 0
HasDistinctNames [] = Unit {0}
HasDistinctNames (file ∷ files) = (content_of files file.0 ≡ None) × HasDistinctNames files

-- where the files are told, the name is held with these bytes
abbrev pub IsHeld : Option Files → List ℕ → List ℕ → Type 0
IsHeld None name bytes = Unit {0}
IsHeld (Some files) name bytes = content_of files name ≡ Some bytes

-- the files are told, and none has this name
abbrev pub IsAbsent : Option Files → List ℕ → Type 0
IsAbsent None name = ⊥
IsAbsent (Some files) name = content_of files name ≡ None

-- where the files are told, no more bytes are taken than the name is held with, and none where it is not held
abbrev pub TakesWithin : Option Files → List ℕ → ℕ → Type 0
TakesWithin None name taken = Unit {0}
TakesWithin (Some files) name taken = taken ≤ length (unwrap_or (content_of files name) [])

-- the count is larger than before, or stands at its last value
abbrev pub Rose : ℕ → ℕ → Type 0
Rose before after = (before < after) ⊎ (after ≡ 2 ^ 64 - 1)

-- a later state of a shelf: what it holds and whether it is steady are as they were, and its count has not fallen
pub record Follows (before after : ShelfState) : Type 0 where
  pub held : after.held ≡ before.held
  pub steady : after.steady ≡ before.steady
  pub rising : before.faults ≤ after.faults

-- a later state of a sink: whether it is steady is as it was, and its count has not fallen
pub record SinkFollows (before after : SinkState) : Type 0 where
  pub steady : after.steady ≡ before.steady
  pub rising : before.faults ≤ after.faults

-- the name of the last call that failed stays as it was, unless this call failed
abbrev pub KeepsName : {T : Type 0} → Result T ShelfNo → Option (List ℕ) → Option (List ℕ) → Type 0
KeepsName (Ok x) before after = after ≡ before
KeepsName (Err no.Failed) before after = Unit {0}
KeepsName (Err no.TooLong) before after = after ≡ before
KeepsName (Err no.NoMemory) before after = after ≡ before

-- what is written is told before and after or at neither time, and where it is told it grew by the piece
abbrev pub Appends : Option (List ℕ) → Option (List ℕ) → List ℕ → Type 0
Appends None None piece = Unit {0}
Appends None (Some after) piece = ⊥
Appends (Some before) None piece = ⊥
Appends (Some before) (Some after) piece = after ≡ before ++ piece

-- the same, where it grew by some front of the piece
abbrev pub AppendsFront : Option (List ℕ) → Option (List ℕ) → List ℕ → Type 0
AppendsFront None None piece = Unit {0}
AppendsFront None (Some after) piece = ⊥
AppendsFront (Some before) None piece = ⊥
AppendsFront (Some before) (Some after) piece = (n : ℕ) × (n ≤ length piece) × (after ≡ before ++ take n piece)

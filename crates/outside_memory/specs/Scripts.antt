-- What the shelf and the sink in memory answer, call by call, as their lists of failing calls say.
-- docs/ARCHITECTURE.md, "The outside", says the same in prose.
use Rattle.std.specs.Prelude.{◌≡◌, ℕ, ◌+◌, ◌-◌, ◌^◌, ◌==◌, min, nat_lt, List, [], ◌∷◌, ◌++◌, length, take, if◌then◌else◌, Option, Some, None, Result, Ok, Err, Vec}
use Rattle.std.specs.List.{list_any}
use Rattle.std.specs.declared.alloc.Global.{Global}
use Rattle.outside_io.specs.declared.shelf.ShelfNo.{ShelfNo}
use Rattle.outside_io.specs.declared.shelf.ShelfNo.TheVariants as shelf
use Rattle.outside_io.specs.declared.sink.SinkNo.{SinkNo}
use Rattle.outside_io.specs.declared.sink.SinkNo.TheVariants as sink
use Rattle.outside_io.specs.Outside.{Files, content_of}

-- the number of the call after so many: calls are numbered from 1, and the count stays at its last value
abbrev pub next_call : ℕ → ℕ
next_call calls = min (calls + 1) (2 ^ 64 - 1)

-- what a call answers that takes so many bytes of a content
abbrev pub answer_within : Option (List ℕ) → ℕ → Result (List ℕ) ShelfNo
answer_within None most = Err shelf.Failed
answer_within (Some bytes) most = if nat_lt most (length bytes) then Err shelf.TooLong else Ok bytes

-- what the call with this number answers: it fails where it is listed
abbrev pub scripted_answer : List ℕ → ℕ → Files → List ℕ → ℕ → Result (List ℕ) ShelfNo
scripted_answer failing call files name most =
    if list_any (λ number. number == call) failing then Err shelf.Failed else answer_within (content_of files name) most

-- the answer is the one that is due, if there is memory
abbrev pub IsAnswer : Result (List ℕ) ShelfNo → Result (Vec ℕ Global) ShelfNo → Type 0
IsAnswer due (Ok bytes) = due ≡ Ok bytes.items
IsAnswer due (Err shelf.Failed) = due ≡ Err shelf.Failed
IsAnswer due (Err shelf.TooLong) = due ≡ Err shelf.TooLong
IsAnswer due (Err shelf.NoMemory) = Unit {0}

-- how many bytes of its piece the call with this number keeps, where it is listed
abbrev pub kept_of : List (ℕ × ℕ) → ℕ → Option ℕ
kept_of [] call = None
kept_of (pair ∷ pairs) call = if pair.0 == call then Some pair.1 else kept_of pairs call

-- a put answers as it is due and leaves what is due: all of its piece, or the front that is kept where it is to fail
abbrev pub PutsAs : Option ℕ → List ℕ → List ℕ → List ℕ → Result (Unit {0}) SinkNo → Type 0
PutsAs None piece before after (Ok x) = after ≡ before ++ piece
PutsAs None piece before after (Err sink.Failed) = ⊥
PutsAs (Some kept) piece before after (Ok x) = ⊥
PutsAs (Some kept) piece before after (Err sink.Failed) = after ≡ before ++ take kept piece
PutsAs kept piece before after (Err sink.NoMemory) = after ≡ before

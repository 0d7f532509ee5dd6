-- What an answer says of what was read: it is the value or the refusal that the definition gives.
use Rattle.std.specs.Prelude.{◌≡◌, ℕ, Option, Some, None, Result, Ok, Err}
use Rattle.mq_base.specs.declared.refusal.Refusal.{Refusal}

-- what was read comes to this refusal, where there is one; want of memory has none, and is tied to no cause
abbrev pub Refuses : {X : Type 0} → Option Refusal → Result X Refusal → Type 0
Refuses None outcome = Unit {0}
Refuses (Some refusal) outcome = outcome ≡ Err refusal

-- an answer is the outcome: its value, or its refusal
abbrev pub Answers : {X E : Type 0} → (E → Option Refusal) → Result X E → Result X Refusal → Type 0
Answers told (Ok value) outcome = outcome ≡ Ok value
Answers told (Err error) outcome = Refuses (told error) outcome

-- a refusal with its number and its two places
abbrev pub refusal : ℕ → ℕ → ℕ → Refusal
refusal code at item = record { code = code; at = at; item = item }

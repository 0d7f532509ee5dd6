-- The tables on a stack, the last made first.
use Rattle.std.proofs.Common.{◌≡◌, List, [], ◌∷◌, ◌++◌, length, reverse}
use Rattle.std.proofs.lemmas.List.{length-reverse, reverse-append}
use Rattle.step_check.specs.declared.stack.Slot.{Slot}

-- a table that is put behind the others is on top
pub reverse-push : (slots : List Slot) (slot : Slot) → reverse (slots ++ slot ∷ []) ≡ slot ∷ reverse slots
reverse-push slots slot = reverse-append slots (slot ∷ [])

pub slots-length : (slots : List Slot) → length (reverse slots) ≡ length slots
slots-length slots = length-reverse slots

pub ruleset tops = (reverse-push, slots-length)

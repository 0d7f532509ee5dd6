-- The items of a pile, the top one first.
use Rattle.std.proofs.Common.{◌≡◌, List, [], ◌∷◌, ◌++◌, length, reverse}
use Rattle.std.proofs.lemmas.List.{length-reverse, reverse-append}

-- an item that is put behind the others is on top
pub reverse-push : {X : Type 0} (xs : List X) (x : X) → reverse (xs ++ x ∷ []) ≡ x ∷ reverse xs
reverse-push xs x = reverse-append xs (x ∷ [])

pub reverse_length : {X : Type 0} (xs : List X) → length (reverse xs) ≡ length xs
reverse_length xs = length-reverse xs

pub ruleset piles = (reverse-push, reverse_length)

-- Whether a list of rows begins with a row: the group that it lists is then met for the first time.
use Rattle.std.specs.Prelude.{ℕ, ◌==◌, Bool, false, List, [], ◌∷◌}

abbrev pub begins : List ℕ → ℕ → Bool
begins [] row = false
begins (first ∷ rest) row = first == row

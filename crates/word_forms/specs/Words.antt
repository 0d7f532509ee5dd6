-- What a word is. docs/FORMATS.md, "Query", has the rule.
use Rattle.std.specs.Prelude.{ℕ, ◌==◌, Bool, false, ◌&&◌, ◌||◌, List, [], ◌∷◌}
use Rattle.std.specs.Char.{is_ascii_alphabetic, is_ascii_alphanumeric}
use Rattle.std.specs.List.{list_all}

-- whether a byte may begin a word: a letter of ASCII or `_`
abbrev pub is_first : ℕ → Bool
is_first byte = is_ascii_alphabetic byte || byte == 95

-- whether a byte may stand later in a word: a letter or a digit of ASCII or `_`
abbrev pub is_later : ℕ → Bool
is_later byte = is_ascii_alphanumeric byte || byte == 95

-- whether the text is a word: a byte that begins one, and bytes that may stand later
abbrev pub is_word : List ℕ → Bool
is_word [] = false
is_word (first ∷ rest) = is_first first && list_all is_later rest

-- Which lists of bytes are tokens, and what it is that the longest is taken each time. docs/FORMATS.md, "Query", tells it in prose.
use Rattle.std.specs.Prelude.{◌≡◌, ◌≢◌, ◌⊎◌, ℕ, ◌+◌, ◌-◌, ◌<◌, ◌≤◌, true, false, List, [], ◌∷◌, ◌++◌, map, length, take, drop, slice_index, All, Result, Ok, Err}
use Rattle.std.specs.List.{list_all}
use Rattle.std.specs.Char.{is_ascii_digit}
use Rattle.word_forms.specs.Words.{is_word}
use Rattle.sql_lexer.specs.declared.token.TokenKind.{TokenKind}
use Rattle.sql_lexer.specs.declared.token.TokenKind.TheVariants.{Word, Number, Text, Symbol}
use Rattle.sql_lexer.specs.declared.token.Token.{Token}
use Rattle.sql_lexer.specs.declared.refusal.LexNo.{LexNo}
use Rattle.sql_lexer.specs.declared.refusal.LexNo.TheVariants.{BadChar, OpenText, NoMemory}
use Rattle.sql_lexer.specs.declared.fronts.Front.{Front}
use Rattle.sql_lexer.specs.declared.fronts.Front.TheVariants.{White, Taken, Bad, Open}
use Rattle.sql_lexer.specs.Lexing.{is_white, is_short_symbol, is_long_symbol, Lexeme, lexeme}

-- a letter or `_`, followed by letters, digits or `_`
abbrev pub IsWord : List ℕ → Type 0
IsWord text = is_word text ≡ true

-- at least one digit
abbrev pub AreDigits : List ℕ → Type 0
AreDigits [] = ⊥
AreDigits (b ∷ rest) = (is_ascii_digit b ≡ true) × (list_all is_ascii_digit rest ≡ true)

-- digits, with a `-` before them or without
abbrev pub IsNumber : List ℕ → Type 0
IsNumber [] = ⊥
IsNumber (b ∷ rest) = AreDigits (b ∷ rest) ⊎ ((b ≡ 45) × AreDigits rest)

-- bytes that end no text: each quote is doubled, in pairs from the left
abbrev pub IsInside : List ℕ → Type 0
IsInside [] = Unit {0}
IsInside (b ∷ []) = b ≢ 39
IsInside (b ∷ c ∷ rest) = ((b ≡ 39) × (c ≡ 39) × IsInside rest) ⊎ ((b ≢ 39) × IsInside (c ∷ rest))

-- a quote, what is inside, and a quote
pub record IsText (text : List ℕ) : Type 0 where
  pub inside : List ℕ
  pub spelled : text ≡ 39 ∷ (inside ++ 39 ∷ [])
  pub ends_none : IsInside inside

-- one of the symbols
abbrev pub IsSymbol : List ℕ → Type 0
IsSymbol [] = ⊥
IsSymbol (a ∷ []) = is_short_symbol a ≡ true
IsSymbol (a ∷ b ∷ []) = is_long_symbol a b ≡ true
IsSymbol (a ∷ b ∷ c ∷ rest) = ⊥

-- the bytes are one token of the kind
abbrev pub IsToken : TokenKind → List ℕ → Type 0
IsToken Word text = IsWord text
IsToken Number text = IsNumber text
IsToken Text text = IsText text
IsToken Symbol text = IsSymbol text

-- no front of the bytes that is longer than n is a token, of any kind
abbrev pub NoneLonger : ℕ → List ℕ → Type 0
NoneLonger n bytes = (kind : TokenKind) (m : ℕ) → n < m → m ≤ length bytes → IsToken kind (take m bytes) → ⊥

-- the first n of the bytes are a token of the kind, and no longer front of the bytes is a token
pub record IsLongest (kind : TokenKind) (n : ℕ) (bytes : List ℕ) : Type 0 where
  pub within : n ≤ length bytes
  pub token : IsToken kind (take n bytes)
  pub longest : NoneLonger n bytes

-- no token begins the bytes, and neither white space nor a quote does
pub record BeginsNone (bytes : List ℕ) : Type 0 where
  pub no_white : is_white (slice_index bytes 0) ≡ false
  pub no_quote : slice_index bytes 0 ≢ 39
  pub no_token : NoneLonger 0 bytes

-- the bytes are a quote, and then none that ends a text
pub record IsOpen (bytes : List ℕ) : Type 0 where
  pub inside : List ℕ
  pub spelled : bytes ≡ 39 ∷ inside
  pub ends_none : IsInside inside

-- what stands in front of the bytes is this, and a token is the longest that can be taken
abbrev pub StandsBefore : List ℕ → Front → Type 0
StandsBefore bytes White = is_white (slice_index bytes 0) ≡ true
StandsBefore bytes (Taken kind n) = IsLongest kind n bytes
StandsBefore bytes Bad = BeginsNone bytes
StandsBefore bytes Open = IsOpen bytes

-- the token is the longest that can be taken where it begins
abbrev pub IsLongestIn : List ℕ → Lexeme → Type 0
IsLongestIn source x = IsLongest x.kind (length x.text) (drop x.at source)

-- from this place on, only white space stands before, between and behind the tokens
abbrev pub OnlyWhite : ℕ → List ℕ → List Lexeme → Type 0
OnlyWhite from source [] = list_all is_white (drop from source) ≡ true
OnlyWhite from source (x ∷ xs) =
    (list_all is_white (take (x.at - from) (drop from source)) ≡ true) × OnlyWhite (x.at + length x.text) source xs

-- each token is the longest where it begins, and white space alone is left out
pub record AreLongest (source : List ℕ) (xs : List Lexeme) : Type 0 where
  pub longest : All (IsLongestIn source) xs
  pub white : OnlyWhite 0 source xs

-- the answer takes the longest token each time, and where it refuses, none begins. Want of memory is tied to no cause
abbrev pub TakesLongest : List ℕ → Result (List Token) LexNo → Type 0
TakesLongest source (Ok ts) = AreLongest source (map lexeme ts)
TakesLongest source (Err NoMemory) = Unit {0}
TakesLongest source (Err (BadChar at)) = BeginsNone (drop at source)
TakesLongest source (Err (OpenText at)) = IsOpen (drop at source)

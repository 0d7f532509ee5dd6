-- What tokens a text has, or which refusal is the first in it. docs/FORMATS.md, "Query", tells it in prose.
-- A text is a list of bytes, and a place is counted in bytes from 0.
use Rattle.std.specs.Prelude.{ℕ, zero, suc, ◌+◌, ◌-◌, Bool, ◌||◌, ◌==◌, if◌then◌else◌, List, [], ◌∷◌, take, codes, bytes_eq, Option, Some, None, option_map, Result, Ok, Err}
use Rattle.std.specs.List.{prefix_len, list_any}
use Rattle.std.specs.Char.{is_ascii_digit}
use Rattle.word_forms.specs.Words.{is_first, is_later}
use Rattle.sql_lexer.specs.declared.token.TokenKind.{TokenKind}
use Rattle.sql_lexer.specs.declared.token.TokenKind.TheVariants.{Word, Number, Text, Symbol}
use Rattle.sql_lexer.specs.declared.token.Token.{Token}
use Rattle.mq_base.specs.declared.refusal.Refusal.{Refusal}
use Rattle.mq_base.specs.Refusal.{refusal}
use Rattle.sql_lexer.specs.Codes.{bad_char, open_text}
use Rattle.sql_lexer.specs.declared.fronts.Front.{Front}
use Rattle.sql_lexer.specs.declared.fronts.Front.TheVariants.{White, Taken, Bad, Open}

-- white space: space, tab, CR and LF
abbrev pub is_white : ℕ → Bool
is_white b = b == 32 || b == 9 || b == 13 || b == 10

-- a quote, which begins and ends a text
abbrev pub is_quote : ℕ → Bool
is_quote b = b == 39

-- the symbols of one byte
abbrev pub short_symbols : List ℕ
short_symbols = codes ",.()*;=<>"

-- the symbols of two bytes
abbrev pub long_symbols : List (List ℕ)
long_symbols = codes "<>" ∷ codes "!=" ∷ codes "<=" ∷ codes ">=" ∷ []

-- a byte that is a symbol alone
abbrev pub is_short_symbol : ℕ → Bool
is_short_symbol b = list_any (λ c. b == c) short_symbols

-- two bytes that are one symbol
abbrev pub is_long_symbol : ℕ → ℕ → Bool
is_long_symbol a b = list_any (bytes_eq (a ∷ b ∷ [])) long_symbols

-- how many bytes after its first quote a text takes, with the quote that ends it, or nothing where it has no end:
-- from the left, two adjacent quotes are one doubled quote inside, and a quote that no quote follows is the end
abbrev pub text_end : List ℕ → Option ℕ
text_end [] = None
text_end (b ∷ []) = if is_quote b then Some 1 else None
text_end (b ∷ c ∷ rest) =
    if is_quote b then (if is_quote c then option_map (λ n. n + 2) (text_end rest) else Some 1)
    else option_map (λ n. n + 1) (text_end (c ∷ rest))

-- what stands in front of a quote, where a text that begins there has its end behind so many bytes, or has no end
abbrev pub quoted : Option ℕ → Front
quoted None = Open
quoted (Some n) = Taken Text (1 + n)

-- what stands in front where these bytes follow a `-`: a number, if a digit is the next
abbrev pub minus_front : List ℕ → Front
minus_front [] = Bad
minus_front (b ∷ rest) = if is_ascii_digit b then Taken Number (2 + prefix_len is_ascii_digit rest) else Bad

-- the symbol in front: one of two bytes before one of a byte
abbrev pub symbol_front : List ℕ → Front
symbol_front [] = Bad
symbol_front (a ∷ []) = if is_short_symbol a then Taken Symbol 1 else Bad
symbol_front (a ∷ b ∷ rest) =
    if is_long_symbol a b then Taken Symbol 2 else (if is_short_symbol a then Taken Symbol 1 else Bad)

-- what stands in front of the rest of a text: white space, the longest token, or what begins no token
unfoldable pub front_of : List ℕ → Front
front_of [] = Bad
front_of (b ∷ rest) =
    if is_white b then White
    else (if is_first b then Taken Word (1 + prefix_len is_later rest)
    else (if is_ascii_digit b then Taken Number (1 + prefix_len is_ascii_digit rest)
    else (if b == 45 then minus_front rest
    else (if is_quote b then quoted (text_end rest)
    else symbol_front (b ∷ rest)))))

-- a token with its text as a plain list of bytes, and the place where it begins
pub record Lexeme : Type 0 where
  pub kind : TokenKind
  pub text : List ℕ
  pub at : ℕ

-- the tokens that follow a first one, with it
abbrev pub with_first : Lexeme → Result (List Lexeme) Refusal → Result (List Lexeme) Refusal
with_first x (Ok xs) = Ok (x ∷ xs)
with_first x (Err e) = Err e

-- the tokens of the rest of a text that begins at a place, of which the first `skip` bytes are passed over
unfoldable pub lexed_from : ℕ → ℕ → List ℕ → Result (List Lexeme) Refusal
lexed_from skip at [] = Ok []
lexed_from (suc skip) at (b ∷ rest) = lexed_from skip (at + 1) rest
lexed_from zero at (b ∷ rest) = elim (front_of (b ∷ rest)) [
  | White ↦ lexed_from 0 (at + 1) rest
  | Taken kind n ↦ with_first (record { kind = kind; text = take n (b ∷ rest); at = at }) (lexed_from (n - 1) (at + 1) rest)
  | Bad ↦ Err (refusal bad_char at 0)
  | Open ↦ Err (refusal open_text at 0)
]

-- the tokens of a text, or the first refusal in it
unfoldable pub lexed : List ℕ → Result (List Lexeme) Refusal
lexed text = lexed_from 0 0 text

-- a token as a lexeme
abbrev pub lexeme : Token → Lexeme
lexeme t = record { kind = t.kind; text = t.text.now; at = t.at }

-- What a text reads as: its one query, or its first refusal. docs/FORMATS.md, "Query", tells it in prose.
use Rattle.std.specs.Prelude.{◌≡◌, ℕ, Bool, ◌&&◌, List, [], ◌∷◌, ◌++◌, length, find, is_none, Option, Some, None, Result, Ok, Err}
use Rattle.word_forms.specs.Integers.{integer_of}
use Rattle.mq_base.specs.Refusal.{refusal}
use Rattle.sql_lexer.specs.Codes.{bad_char, open_text}
use Rattle.sql_lexer.specs.Lexing.{Lexeme, lexed}
use Rattle.sql_reader.specs.declared.mark.Mark.TheVariants as mark
use Rattle.sql_reader.specs.declared.raw.RawQuery.{RawQuery}
use Rattle.sql_reader.specs.declared.refusal.SqlNo.{SqlNo}
use Rattle.sql_reader.specs.declared.refusal.SqlNo.TheVariants.{BadChar, OpenText, Unexpected, NumberRange, NoMemory}
use Rattle.sql_reader.specs.Marks.{is_mark}
use Rattle.sql_reader.specs.Syntax.{Query, query_of}
use Rattle.sql_reader.specs.Grammar.{IsQuery}

-- the tokens spell this query, and no other
pub record IsOnlyQuery (q : Query) (ts : List Lexeme) : Type 0 where
  pub is_query : IsQuery q ts
  pub only : (other : Query) → IsQuery other ts → other ≡ q

-- a query begins with the tokens: some tokens behind them, or none, make them one
pub record BeginsQuery (ts : List Lexeme) : Type 0 where
  pub behind : List Lexeme
  pub value : Query
  pub is_query : IsQuery value (ts ++ behind)

-- the tokens in front cannot go on with the first one behind them; where none is behind them, they are no query
abbrev pub IsStuck : List Lexeme → List Lexeme → Type 0
IsStuck front [] = (q : Query) → IsQuery q front → ⊥
IsStuck front (x ∷ rest) = BeginsQuery (front ++ x ∷ []) → ⊥

-- the place of the first token, or the end of the text where there is none
abbrev pub place_of : ℕ → List Lexeme → ℕ
place_of end [] = end
place_of end (x ∷ rest) = x.at

-- the first number outside 64 bits
abbrev pub is_wide : Lexeme → Bool
is_wide x = is_mark mark.Number x && is_none (integer_of x.text)

abbrev pub first_wide : List Lexeme → Option Lexeme
first_wide ts = find is_wide ts

-- the text has tokens that spell this query alone, with each number within 64 bits
pub record IsQueryOf (text : List ℕ) (q : Query) : Type 0 where
  pub tokens : List Lexeme
  pub has_tokens : lexed text ≡ Ok tokens
  pub reads : IsOnlyQuery q tokens
  pub in_range : first_wide tokens ≡ None

-- the place is that of the first token with which the tokens so far are no beginning of a query, or the end of the text
-- where its tokens only begin one
pub record IsUnexpected (text : List ℕ) (at : ℕ) : Type 0 where
  pub front : List Lexeme
  pub rest : List Lexeme
  pub has_tokens : lexed text ≡ Ok (front ++ rest)
  pub place : at ≡ place_of (length text) rest
  pub begins : BeginsQuery front
  pub stuck : IsStuck front rest

-- the text has tokens that spell a query, and the place is that of the first number outside 64 bits
pub record IsOutOfRange (text : List ℕ) (at : ℕ) : Type 0 where
  pub tokens : List Lexeme
  pub has_tokens : lexed text ≡ Ok tokens
  pub value : Query
  pub is_query : IsQuery value tokens
  pub wide : Lexeme
  pub first : first_wide tokens ≡ Some wide
  pub place : at ≡ wide.at

-- the answer is what the text reads as. Want of memory is tied to no cause
abbrev pub IsRead : List ℕ → Result RawQuery SqlNo → Type 0
IsRead text (Ok q) = IsQueryOf text (query_of q)
IsRead text (Err (BadChar at)) = lexed text ≡ Err (refusal bad_char at 0)
IsRead text (Err (OpenText at)) = lexed text ≡ Err (refusal open_text at 0)
IsRead text (Err (Unexpected at)) = IsUnexpected text at
IsRead text (Err (NumberRange at)) = IsOutOfRange text at
IsRead text (Err NoMemory) = Unit {0}

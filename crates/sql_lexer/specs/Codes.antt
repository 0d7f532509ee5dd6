-- The numbers of the refusals of a query text, which are those of the crates above too. docs/FORMATS.md, "Query", lists them.
use Rattle.std.specs.Prelude.{ℕ, Option, Some, None}
use Rattle.mq_base.specs.declared.refusal.Refusal.{Refusal}
use Rattle.mq_base.specs.Refusal.{refusal}
use Rattle.sql_lexer.specs.declared.refusal.LexNo.{LexNo}
use Rattle.sql_lexer.specs.declared.refusal.LexNo.TheVariants.{BadChar, OpenText, NoMemory}

-- a character that begins no token
abbrev pub bad_char : ℕ
bad_char = 1

-- a text in quotes that has no end
abbrev pub open_text : ℕ
open_text = 2

-- a token with which no query goes on
abbrev pub unexpected : ℕ
unexpected = 3

-- a number outside 64 bits
abbrev pub number_range : ℕ
number_range = 4

-- the refusal that an error of the lexer is
abbrev pub lexical_refusal : LexNo → Option Refusal
lexical_refusal (BadChar at) = Some (refusal bad_char at 0)
lexical_refusal (OpenText at) = Some (refusal open_text at 0)
lexical_refusal NoMemory = None

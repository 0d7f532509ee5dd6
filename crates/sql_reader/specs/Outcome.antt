-- What a text reads as, computed: the query, or the first refusal. Lexical refusals come first, then `Unexpected`, and
-- then `NumberRange`. docs/FORMATS.md, "Query", tells it in prose.
use Rattle.std.specs.Prelude.{ℕ, List, [], ◌∷◌, length, Option, Some, None, option_map, Result, Ok, Err}
use Rattle.mq_base.specs.declared.refusal.Refusal.{Refusal}
use Rattle.mq_base.specs.Refusal.{refusal}
use Rattle.sql_lexer.specs.Codes.{unexpected, number_range}
use Rattle.sql_lexer.specs.Lexing.{Lexeme, lexed}
use Rattle.sql_reader.specs.Syntax.{Query}
use Rattle.sql_reader.specs.Reading.{first_wide}
use Rattle.sql_reader.specs.Readers.{Reading, Took, Stuck}
use Rattle.sql_reader.specs.Grammar.{query}

-- the place of the first number outside 64 bits
abbrev pub wide_place : List Lexeme → Option ℕ
wide_place ts = option_map (λ x. x.at) (first_wide ts)

-- a query in whose tokens the first number outside 64 bits stands at this place, or none does
abbrev pub ranged : Query → Option ℕ → Result Query Refusal
ranged q None = Ok q
ranged q (Some at) = Err (refusal number_range at 0)

-- a reading of tokens in which the first number outside 64 bits stands at such a place, in a text that ends here
abbrev pub read_outcome : ℕ → Option ℕ → Reading Query → Result Query Refusal
read_outcome end wide (Took q []) = ranged q wide
read_outcome end wide (Took q (t ∷ rest)) = Err (refusal unexpected t.at 0)
read_outcome end wide (Stuck (Some place)) = Err (refusal unexpected place 0)
read_outcome end wide (Stuck None) = Err (refusal unexpected end 0)

-- the tokens of a text that ends at this place, or its first lexical refusal
abbrev pub lexed_outcome : ℕ → Result (List Lexeme) Refusal → Result Query Refusal
lexed_outcome end (Ok ts) = read_outcome end (wide_place ts) (query.read ts)
lexed_outcome end (Err lexical) = Err lexical

-- a text
unfoldable pub query_outcome : List ℕ → Result Query Refusal
query_outcome text = lexed_outcome (length text) (lexed text)

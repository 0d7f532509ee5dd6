-- What the functions over the tokens of a text answer, in the words of the readers. They keep how far the tokens are read:
-- the place of the next one among them, counted in tokens, and the first number outside 64 bits that was read.
use Rattle.std.specs.Prelude.{◌≡◌, ℕ, ◌==◌, false, List, [], ◌∷◌, map, drop, All, Option, Some, None, Result, Ok, Err}
use Rattle.std.specs.Option.{option_or}
use Rattle.std.specs.Borrow.{Bor}
use Rattle.sql_lexer.specs.declared.token.Token.{Token}
use Rattle.sql_lexer.specs.Lexing.{Lexeme, lexeme}
use Rattle.sql_lexer.specs.Longest.{IsToken}
use Rattle.sql_reader.specs.declared.mark.Mark.{Mark}
use Rattle.sql_reader.specs.declared.mark.Mark.TheVariants as mark
use Rattle.sql_reader.specs.declared.reached.Reached.{Reached}
use Rattle.sql_reader.specs.declared.stop.Stop.{Stop}
use Rattle.sql_reader.specs.declared.stop.Stop.TheVariants.{Unexpected, NoMemory}
use Rattle.sql_reader.specs.declared.terminals.FunctionWord.{FunctionWord}
use Rattle.sql_reader.specs.declared.groups.Groups.{Groups}
use Rattle.sql_reader.specs.Marks.{mark_number}
use Rattle.sql_reader.specs.Outcome.{wide_place}
use Rattle.sql_reader.specs.Syntax.{column_of, having_of}
use Rattle.sql_reader.specs.Grammar.{Function, Grouping, make_grouping}
use Rattle.sql_reader.specs.Readers.{Reading, Took, Stuck}

-- each token is one, of its kind
abbrev pub IsWhole : Lexeme → Type 0
IsWhole x = IsToken x.kind x.text

abbrev pub AreWhole : List Token → Type 0
AreWhole ts = All IsWhole (map lexeme ts)

-- the tokens from this one on, and those that are left where a reading has come so far
abbrev pub tokens_from : List Token → ℕ → List Lexeme
tokens_from ts at = drop at (map lexeme ts)

abbrev pub left : List Token → Reached → List Lexeme
left ts reached = tokens_from ts reached.at

-- the place of the first number outside 64 bits: the one that was found, or else that of the tokens behind it
abbrev pub wide_in : Option ℕ → List Lexeme → Option ℕ
wide_in found rest = option_or found (wide_place rest)

-- what was found behind a token says, with the tokens that follow, what the earlier said with this token too
abbrev pub KeepsWide : Option ℕ → Lexeme → Option ℕ → Type 0
KeepsWide found t later = (rest : List Lexeme) → wide_in later rest ≡ wide_in found (t ∷ rest)

-- the mark is not that of a number
abbrev pub IsNoNumber : Mark → Type 0
IsNoNumber k = (mark_number k == mark_number mark.Number) ≡ false

-- the first token, if there is one, before those behind it
abbrev pub with_next : Option (Bor Token) → List Lexeme → List Lexeme
with_next None rest = []
with_next (Some t) rest = lexeme t.now ∷ rest

-- the refusal is this reading. Want of memory is tied to no cause
abbrev pub Refuses : {X : Type 0} → Stop → Reading X → Type 0
Refuses (Unexpected place) r = r ≡ Stuck place
Refuses NoMemory r = Unit {0}

-- the answer is this reading: the plain value of what it has, and the tokens from its place on. The first number outside
-- 64 bits of the whole text stays the same
abbrev pub Gives : {X Y : Type 0} → (X → Y) → List Token → Reached → Result (X × Reached) Stop → Reading Y → Type 0
Gives plain ts from (Ok x) r =
    (r ≡ Took (plain x.0) (left ts x.1)) × (wide_in x.1.wide (left ts x.1) ≡ wide_in from.wide (left ts from))
Gives plain ts from (Err e) r = Refuses e r

-- plain values of what they answer
abbrev pub function_of : FunctionWord → Function
function_of f = record { func = f.func; at = f.at }

abbrev pub grouping_of : Groups → Grouping
grouping_of g = make_grouping (map column_of g.group) (map having_of g.having)

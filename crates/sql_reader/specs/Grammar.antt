-- The grammar of queries: each production once, as a rule that says which tokens spell which value, and how it is read.
-- docs/FORMATS.md, "Query", gives the productions in the same order.
use Rattle.std.specs.Prelude.{ℕ, ℤ, pos, Bool, List, [], ◌∷◌, Option, Some, None, unwrap_or, take, drop, length, ◌-◌, if◌then◌else◌}
use Rattle.word_forms.specs.declared.keyword.Keyword.{Keyword}
use Rattle.word_forms.specs.declared.keyword.Keyword.TheVariants as keyword
use Rattle.word_forms.specs.Integers.{integer_of}
use Rattle.mq_base.specs.declared.query.Agg.{Agg}
use Rattle.mq_base.specs.declared.query.Agg.TheVariants as agg
use Rattle.mq_base.specs.declared.query.CmpOp.{CmpOp}
use Rattle.mq_base.specs.declared.query.CmpOp.TheVariants as cmp
use Rattle.sql_lexer.specs.Lexing.{Lexeme}
use Rattle.sql_reader.specs.declared.mark.Mark.{Mark}
use Rattle.sql_reader.specs.declared.mark.Mark.TheVariants as mark
use Rattle.sql_reader.specs.Marks.{mark_of, is_mark, is_one_of}
use Rattle.sql_reader.specs.Rules.{Rule, always, token, chain, either, several}
use Rattle.sql_reader.specs.Syntax.{Column, Literal, Number, Text, Side, Col, Lit, Condition, Item, Plain, Aggregate, Count, Source, Having, Query}

-- a token of this mark
abbrev pub marked : Mark → Lexeme → Option Lexeme
marked k x = if is_mark k x then Some x else None

abbrev pub sign : Mark → Rule Lexeme
sign k = token (marked k)

abbrev pub reserved : Keyword → Rule Lexeme
reserved k = sign (mark.Keyword k)

-- whether a token is of this mark, and whether it is this keyword
abbrev pub is_sign : Mark → Lexeme → Bool
is_sign k = is_one_of (k ∷ [])

abbrev pub is_reserved : Keyword → Lexeme → Bool
is_reserved k = is_sign (mark.Keyword k)

-- name = a word that is no keyword
abbrev pub name : Rule Lexeme
name = sign mark.Name

-- op = "=" | "<>" | "!=" | "<" | "<=" | ">" | ">="
abbrev pub op_marked : Mark → Option CmpOp
op_marked mark.Eq = Some cmp.Eq
op_marked mark.Ne = Some cmp.Ne
op_marked mark.Lt = Some cmp.Lt
op_marked mark.Le = Some cmp.Le
op_marked mark.Gt = Some cmp.Gt
op_marked mark.Ge = Some cmp.Ge
op_marked _ = None

abbrev pub op_in : Lexeme → Option CmpOp
op_in x = op_marked (mark_of x)

abbrev pub op : Rule CmpOp
op = token op_in

-- the value of a number; a number outside 64 bits has the value 0 here, and its text is refused
abbrev pub number_in : Lexeme → ℤ
number_in x = unwrap_or (integer_of x.text) (pos 0)

-- what stands between the outer quotes of a text
abbrev pub inside_of : List ℕ → List ℕ
inside_of text = take (length text - 2) (drop 1 text)

-- literal = number | text
abbrev pub literal_marked : Mark → Lexeme → Option Literal
literal_marked mark.Number x = Some (Number (number_in x))
literal_marked mark.Text x = Some (Text (inside_of x.text))
literal_marked _ x = None

abbrev pub literal_in : Lexeme → Option Literal
literal_in x = literal_marked (mark_of x) x

abbrev pub literal : Rule Literal
literal = token literal_in

-- the functions SUM, MIN and MAX, with the place of the word
pub record Function : Type 0 where
  pub func : Agg
  pub at : ℕ

abbrev pub function_marked : Mark → ℕ → Option Function
function_marked (mark.Keyword keyword.Sum) at = Some (record { func = agg.Sum; at = at })
function_marked (mark.Keyword keyword.Min) at = Some (record { func = agg.Min; at = at })
function_marked (mark.Keyword keyword.Max) at = Some (record { func = agg.Max; at = at })
function_marked _ at = None

abbrev pub function_in : Lexeme → Option Function
function_in x = function_marked (mark_of x) x.at

abbrev pub function : Rule Function
function = token function_in

-- separator x
abbrev pub behind : {X : Type 0} → Mark → Rule X → Rule X
behind separator p = chain (sign separator) (λ _. p)

-- x { separator x }
abbrev pub listed : {X : Type 0} → Mark → Rule X → Rule (List X)
listed separator p = several p (is_sign separator) (behind separator p)

-- col = name | name "." name
abbrev pub bare : Lexeme → Column
bare word = record { table = None; name = word.text; at = word.at }

abbrev pub qualified : Lexeme → Lexeme → Column
qualified table word = record { table = Some table.text; name = word.text; at = table.at }

unfoldable pub column : Rule Column
column = chain name (λ first. either (is_sign mark.Dot) (behind mark.Dot (chain name (λ word. always (qualified first word)))) (always (bare first)))

-- col | literal
unfoldable pub side : Rule Side
side = either (is_sign mark.Name) (chain column (λ c. always (Col c))) (chain literal (λ l. always (Lit l)))

-- cond = col op ( col | literal )
abbrev pub make_condition : Column → CmpOp → Side → Condition
make_condition left op right = record { left = left; op = op; right = right }

unfoldable pub condition : Rule Condition
condition = chain column (λ left. chain op (λ o. chain side (λ right. always (make_condition left o right))))

-- conds = cond { AND cond }
unfoldable pub conditions : Rule (List Condition)
conditions = listed (mark.Keyword keyword.And) condition

-- agg = ( SUM | MIN | MAX ) "(" col ")" | COUNT "(" "*" ")"
unfoldable pub over_column : Rule Item
over_column = chain function (λ f. behind mark.Open (chain column (λ c. behind mark.Close (always (Aggregate f.func c f.at)))))

unfoldable pub count : Rule Item
count = chain (reserved keyword.Count) (λ word. behind mark.Open (behind mark.Star (behind mark.Close (always (Count word.at)))))

unfoldable pub aggregate : Rule Item
aggregate = either (is_reserved keyword.Count) count over_column

-- item = col | agg
unfoldable pub item : Rule Item
item = either (is_sign mark.Name) (chain column (λ c. always (Plain c))) aggregate

unfoldable pub items : Rule (List Item)
items = listed mark.Comma item

-- source = "," name | JOIN name ON conds
abbrev pub make_source : Lexeme → List Condition → Source
make_source word on = record { table = word.text; at = word.at; on = on }

unfoldable pub first_source : Rule Source
first_source = chain name (λ word. always (make_source word []))

unfoldable pub joined : Rule Source
joined = chain (reserved keyword.Join) (λ _. chain name (λ word. chain (reserved keyword.On) (λ _. chain conditions (λ on. always (make_source word on)))))

unfoldable pub source : Rule Source
source = either (is_sign mark.Comma) (behind mark.Comma first_source) joined

-- name { source }
abbrev pub begins_source : Lexeme → Bool
begins_source = is_one_of (mark.Comma ∷ mark.Keyword keyword.Join ∷ [])

unfoldable pub sources : Rule (List Source)
sources = several first_source begins_source source

-- [ WHERE conds ]
unfoldable pub filters : Rule (List Condition)
filters = either (is_reserved keyword.Where) (chain (reserved keyword.Where) (λ _. conditions)) (always [])

-- having = agg op literal
abbrev pub make_having : Item → CmpOp → Literal → Having
make_having item op literal = record { item = item; op = op; literal = literal }

unfoldable pub having : Rule Having
having = chain aggregate (λ i. chain op (λ o. chain literal (λ l. always (make_having i o l))))

-- [ HAVING having { AND having } ]
unfoldable pub having_list : Rule (List Having)
having_list = listed (mark.Keyword keyword.And) having

unfoldable pub havings : Rule (List Having)
havings = either (is_reserved keyword.Having) (chain (reserved keyword.Having) (λ _. having_list)) (always [])

-- [ GROUP BY col { "," col } [ HAVING having { AND having } ] ]
pub record Grouping : Type 0 where
  pub group : List Column
  pub having : List Having

abbrev pub make_grouping : List Column → List Having → Grouping
make_grouping group having = record { group = group; having = having }

unfoldable pub group : Rule (List Column)
group = listed mark.Comma column

unfoldable pub grouped_by : Rule Grouping
grouped_by = chain (reserved keyword.Group) (λ _. chain (reserved keyword.By) (λ _. chain group (λ cs. chain havings (λ hs. always (make_grouping cs hs)))))

unfoldable pub grouping : Rule Grouping
grouping = either (is_reserved keyword.Group) grouped_by (always (make_grouping [] []))

-- [ ";" ]
unfoldable pub ending : Rule (Unit {0})
ending = either (is_sign mark.Semicolon) (behind mark.Semicolon (always tt)) (always tt)

-- query = SELECT item { "," item } FROM name { source } [ WHERE conds ] [ GROUP BY .. ] [ ";" ]
abbrev pub make_query : List Item → List Source → List Condition → Grouping → Query
make_query items sources conds groups =
    record { items = items; sources = sources; conds = conds; group = groups.group; having = groups.having }

unfoldable pub tail : List Item → List Source → Rule Query
tail is ss = chain filters (λ conds. chain grouping (λ groups. chain ending (λ _. always (make_query is ss conds groups))))

unfoldable pub query : Rule Query
query = chain (reserved keyword.Select) (λ _. chain items (λ is. chain (reserved keyword.From) (λ _. chain sources (λ ss. tail is ss))))

-- the tokens spell this query
abbrev pub IsQuery : Query → List Lexeme → Type 0
IsQuery = query.spells

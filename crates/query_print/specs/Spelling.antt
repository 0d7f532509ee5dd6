-- The canonical spelling of a query. docs/FORMATS.md, "Query", tells it in prose.
use Rattle.std.specs.Prelude.{ℕ, List, [], ◌∷◌, ◌++◌, map, codes, Option, Some, None}
use Rattle.std.specs.Fmt.{signed_decimal}
use Rattle.mq_base.specs.declared.query.Agg.{Agg}
use Rattle.mq_base.specs.declared.query.Agg.TheVariants as agg
use Rattle.mq_base.specs.declared.query.CmpOp.{CmpOp}
use Rattle.mq_base.specs.declared.query.CmpOp.TheVariants as cmp
use Rattle.sql_reader.specs.Syntax.{Column, Literal, Number, Text, Side, Col, Lit, Condition, Item, Plain, Aggregate, Count, Source, Having, Query}

-- the byte that begins and ends a text
abbrev pub quote : ℕ
quote = 39

-- texts one behind the other, with a separator between each two
abbrev pub separated : List ℕ → List (List ℕ) → List ℕ
separated separator [] = []
separated separator (x ∷ []) = x
separated separator (x ∷ y ∷ rest) = x ++ separator ++ separated separator (y ∷ rest)

abbrev pub op_text : CmpOp → List ℕ
op_text cmp.Eq = codes "="
op_text cmp.Ne = codes "<>"
op_text cmp.Lt = codes "<"
op_text cmp.Le = codes "<="
op_text cmp.Gt = codes ">"
op_text cmp.Ge = codes ">="

abbrev pub function_text : Agg → List ℕ
function_text agg.Sum = codes "SUM"
function_text agg.Min = codes "MIN"
function_text agg.Max = codes "MAX"

-- a name, behind its table and a dot where it has one
abbrev pub qualifier_text : Option (List ℕ) → List ℕ
qualifier_text None = []
qualifier_text (Some table) = table ++ codes "."

abbrev pub column_text : Column → List ℕ
column_text c = qualifier_text c.table ++ c.name

-- a number in decimal, and a text between quotes
abbrev pub literal_text : Literal → List ℕ
literal_text (Number value) = signed_decimal value
literal_text (Text inside) = quote ∷ (inside ++ quote ∷ [])

abbrev pub side_text : Side → List ℕ
side_text (Col c) = column_text c
side_text (Lit l) = literal_text l

abbrev pub condition_text : Condition → List ℕ
condition_text c = column_text c.left ++ codes " " ++ op_text c.op ++ codes " " ++ side_text c.right

abbrev pub conditions_text : List Condition → List ℕ
conditions_text conds = separated (codes " AND ") (map condition_text conds)

abbrev pub item_text : Item → List ℕ
item_text (Plain c) = column_text c
item_text (Aggregate func c at) = function_text func ++ codes "(" ++ column_text c ++ codes ")"
item_text (Count at) = codes "COUNT(*)"

-- a table behind the first: behind a comma, or joined on its conditions where it has some
abbrev pub joined_text : List ℕ → List Condition → List ℕ
joined_text table [] = codes ", " ++ table
joined_text table (c ∷ on) = codes " JOIN " ++ table ++ codes " ON " ++ conditions_text (c ∷ on)

abbrev pub source_text : Source → List ℕ
source_text s = joined_text s.table s.on

-- the tables behind the first
abbrev pub more_sources_text : List Source → List ℕ
more_sources_text [] = []
more_sources_text (s ∷ rest) = source_text s ++ more_sources_text rest

abbrev pub sources_text : List Source → List ℕ
sources_text [] = []
sources_text (first ∷ rest) = first.table ++ more_sources_text rest

abbrev pub where_text : List Condition → List ℕ
where_text [] = []
where_text (c ∷ conds) = codes " WHERE " ++ conditions_text (c ∷ conds)

abbrev pub group_text : List Column → List ℕ
group_text [] = []
group_text (c ∷ group) = codes " GROUP BY " ++ separated (codes ", ") (map column_text (c ∷ group))

abbrev pub having_text : Having → List ℕ
having_text h = item_text h.item ++ codes " " ++ op_text h.op ++ codes " " ++ literal_text h.literal

abbrev pub havings_text : List Having → List ℕ
havings_text [] = []
havings_text (h ∷ having) = codes " HAVING " ++ separated (codes " AND ") (map having_text (h ∷ having))

-- the canonical spelling: keywords in capitals, one space between tokens, but none around `.`, `(` and `)` and before `,`;
-- `<>` for inequality; numbers in decimal; no `;`
unfoldable pub query_text : Query → List ℕ
query_text q =
    codes "SELECT " ++ separated (codes ", ") (map item_text q.items)
    ++ codes " FROM " ++ sources_text q.sources
    ++ where_text q.conds ++ group_text q.group ++ havings_text q.having

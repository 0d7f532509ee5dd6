-- What the words of a query name in a schema, and the parts of a query in the order of its text.
-- docs/FORMATS.md, "Query", tells it in prose.
use Rattle.std.specs.Prelude.{ℕ, ◌==◌, Bool, true, false, List, [], ◌∷◌, ◌++◌, map, position, bytes_eq, Option, Some, None, unwrap_or}
use Rattle.std.specs.List.{flat_map, list_any}
use Rattle.mq_base.specs.declared.schema.AttrInfo.{AttrInfo}
use Rattle.mq_base.specs.declared.schema.TableInfo.{TableInfo}
use Rattle.mq_base.specs.declared.schema.Schema.{Schema}
use Rattle.sql_reader.specs.Syntax.{Column, Literal, Side, Col, Lit, Condition, Item, Plain, Aggregate, Count, Source, Having, Query}

-- the table with this name
abbrev pub table_named : Schema → List ℕ → Option ℕ
table_named schema name = position (λ (info : TableInfo). bytes_eq info.name name) schema.tables

-- the attribute with this name
abbrev pub attribute_named : Schema → List ℕ → Option ℕ
attribute_named schema name = position (λ (info : AttrInfo). bytes_eq info.name name) schema.attrs

-- the attribute that a column names; it is asked only where there is one
abbrev pub attribute_of : Schema → Column → ℕ
attribute_of schema c = unwrap_or (attribute_named schema c.name) 0

-- the tables of a FROM list; it is asked only where each name is a table's
abbrev pub source_table : Schema → Source → ℕ
source_table schema s = unwrap_or (table_named schema s.table) 0

abbrev pub source_tables : Schema → List Source → List ℕ
source_tables schema sources = map (source_table schema) sources

-- whether a table is one of these
abbrev pub is_among : ℕ → List ℕ → Bool
is_among t tables = list_any (λ other. other == t) tables

-- the columns of a right side, a condition, and an item
abbrev pub side_columns : Side → List Column
side_columns (Col c) = c ∷ []
side_columns (Lit l) = []

abbrev pub condition_columns : Condition → List Column
condition_columns c = c.left ∷ side_columns c.right

abbrev pub item_columns : Item → List Column
item_columns (Plain c) = c ∷ []
item_columns (Aggregate func c at) = c ∷ []
item_columns (Count at) = []

-- all columns of a query in the order of its text
abbrev pub source_columns : Source → List Column
source_columns s = flat_map condition_columns s.on

abbrev pub having_columns : Having → List Column
having_columns h = item_columns h.item

abbrev pub all_columns : Query → List Column
all_columns q =
    flat_map item_columns q.items ++ (flat_map source_columns q.sources
    ++ (flat_map condition_columns q.conds ++ (q.group ++ flat_map having_columns q.having)))

-- all conditions of ON and WHERE in the order of the text
abbrev pub source_conditions : Source → List Condition
source_conditions s = s.on

abbrev pub all_conditions : Query → List Condition
all_conditions q = flat_map source_conditions q.sources ++ q.conds

-- an item of the select list or of HAVING, with the literal that HAVING compares it with
pub record Use : Type 0 where
  pub item : Item
  pub literal : Option Literal

abbrev pub selected_use : Item → Use
selected_use i = record { item = i; literal = None }

abbrev pub having_use : Having → Use
having_use h = record { item = h.item; literal = Some h.literal }

-- those of the select list first, and those of HAVING after them
abbrev pub all_uses : Query → List Use
all_uses q = map selected_use q.items ++ map having_use q.having

-- whether there is a GROUP BY
abbrev pub is_some_column : List Column → Bool
is_some_column [] = false
is_some_column (c ∷ rest) = true

abbrev pub has_group : Query → Bool
has_group q = is_some_column q.group

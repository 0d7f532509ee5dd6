-- Each fault of a query by itself, and the first fault of each of its parts. docs/FORMATS.md, "Query", gives their order.
use Rattle.std.specs.Prelude.{ℕ, ◌==◌, Bool, true, false, not, ◌&&◌, ◌||◌, nat_lt, List, [], map, length, is_none, Option, Some, None, if◌then◌else◌}
use Rattle.std.specs.Option.{option_map_or, option_or}
use Rattle.std.specs.List.{list_any}
use Rattle.base_laws.specs.Firsts.{first_behind, first_of}
use Rattle.base_laws.specs.Sets.{has}
use Rattle.mq_base.specs.declared.ids.AttrId.{AttrId}
use Rattle.mq_base.specs.declared.query.Agg.{Agg}
use Rattle.mq_base.specs.declared.query.Agg.TheVariants as agg
use Rattle.mq_base.specs.declared.query as query
use Rattle.mq_base.specs.declared.refusal.Refusal.{Refusal}
use Rattle.mq_base.specs.declared.schema.Schema.{Schema}
use Rattle.mq_base.specs.declared.value.ValueType.{ValueType}
use Rattle.mq_base.specs.declared.value.ValueType.TheVariants as type
use Rattle.mq_base.specs.BoundQuery.{type_at}
use Rattle.mq_base.specs.Nodes.{node_count}
use Rattle.mq_base.specs.Refusal.{refusal}
use Rattle.mq_base.specs.Schema.{table_of}
use Rattle.sql_reader.specs.Syntax.{Column, Literal, Number, Text, Side, Col, Lit, Condition, Item, Plain, Aggregate, Count, Source, Query}
use Rattle.query_bind.specs.declared.refusal.BindCode.{BindCode}
use Rattle.query_bind.specs.declared.refusal.BindCode.TheVariants.{UnknownTable, RepeatedTable, UnknownAttribute, NotInTable, TypeMismatch, TextTooLong, NotGrouped, AggregateOfGrouped, RepeatedAggregate, AggregateWithoutGroup, TooManyNodes, SameAttribute}
use Rattle.query_bind.specs.Codes.{number_of}
use Rattle.query_bind.specs.Lookup.{table_named, attribute_named, attribute_of, source_table, source_tables, is_among, all_columns, all_conditions, Use, all_uses, has_group}
use Rattle.query_bind.specs.Bound.{undoubled, attribute, functions, group_set}

-- a fault with its place
abbrev pub fault : BindCode → ℕ → Option Refusal
fault code at = Some (refusal (number_of code) at 0)

-- a fault where the test says so
abbrev pub fault_if : Bool → BindCode → ℕ → Option Refusal
fault_if wrong code at = if wrong then fault code at else None

-- a table of the FROM list, behind these tables: it is none of the schema; it stands earlier
abbrev pub source_fault : Schema → List ℕ → Source → Option Refusal
source_fault schema earlier s =
    option_or (fault_if (is_none (table_named schema s.table)) UnknownTable s.at)
    (fault_if (is_among (source_table schema s) earlier) RepeatedTable s.at)

-- the same behind these sources
abbrev pub source_behind : Schema → List Source → Source → Option Refusal
source_behind schema earlier s = source_fault schema (source_tables schema earlier) s

-- the first fault of the FROM list
abbrev pub sources_fault : Schema → Query → Option Refusal
sources_fault schema q = first_behind (source_behind schema) [] q.sources

-- whether the table before the dot is none of these
abbrev pub is_stranger : Schema → List ℕ → Option (List ℕ) → Bool
is_stranger schema tables None = false
is_stranger schema tables (Some qualifier) = not (option_map_or (λ t. is_among t tables) (table_named schema qualifier) false)

-- whether a table stands before the dot that is not this one
abbrev pub is_elsewhere : Schema → Option (List ℕ) → ℕ → Bool
is_elsewhere schema None t = false
is_elsewhere schema (Some qualifier) t = not (option_map_or (λ other. other == t) (table_named schema qualifier) false)

-- whether the table of a column is none of these, or not the one before the dot
abbrev pub is_outside : Schema → List ℕ → Column → Bool
is_outside schema tables c =
    option_map_or (λ t. not (is_among t tables) || is_elsewhere schema c.table t) (table_of schema (attribute_of schema c)) true

-- a column over these tables: the table before its dot is none of them; no table of the schema has it; its table is none
-- of them, or not the one before the dot
abbrev pub column_fault : Schema → List ℕ → Column → Option Refusal
column_fault schema tables c =
    option_or (fault_if (is_stranger schema tables c.table) UnknownTable c.at)
    (option_or (fault_if (is_none (attribute_named schema c.name)) UnknownAttribute c.at)
    (fault_if (is_outside schema tables c) NotInTable c.at))

-- the first fault of the columns in the order of the text
unfoldable pub columns_fault : Schema → List ℕ → Query → Option Refusal
columns_fault schema tables q = first_of (map (column_fault schema tables) (all_columns q))

-- the type of a literal, and whether an attribute has a type; it is asked only where there is the attribute
abbrev pub literal_type : Literal → ValueType
literal_type (Number n) = type.Int
literal_type (Text inside) = type.Text

abbrev pub same_type : ValueType → ValueType → Bool
same_type type.Int type.Int = true
same_type type.Int type.Text = false
same_type type.Text type.Int = false
same_type type.Text type.Text = true

abbrev pub has_type : Schema → Column → ValueType → Bool
has_type schema c ty = option_map_or (same_type ty) (type_at schema (attribute_of schema c)) false

-- the type of a right side is not that of the column on the left
abbrev pub mismatches : Schema → Column → Side → Bool
mismatches schema left (Col c) = not (option_map_or (has_type schema left) (type_at schema (attribute_of schema c)) false)
mismatches schema left (Lit l) = not (has_type schema left (literal_type l))

-- a text has more than 120 bytes, a doubled quote counting as one
abbrev pub is_long : Literal → Bool
is_long (Number n) = false
is_long (Text inside) = nat_lt 120 (length (undoubled inside))

abbrev pub is_long_side : Side → Bool
is_long_side (Col c) = false
is_long_side (Lit l) = is_long l

abbrev pub is_same_attribute : Schema → Column → Side → Bool
is_same_attribute schema left (Col c) = attribute_of schema left == attribute_of schema c
is_same_attribute schema left (Lit l) = false

-- a condition: both sides are one attribute; they have two types; its text is too long
abbrev pub condition_fault : Schema → Condition → Option Refusal
condition_fault schema c =
    option_or (fault_if (is_same_attribute schema c.left c.right) SameAttribute c.left.at)
    (option_or (fault_if (mismatches schema c.left c.right) TypeMismatch c.left.at)
    (fault_if (is_long_side c.right) TextTooLong c.left.at))

-- the first fault of the conditions of ON and WHERE
unfoldable pub conditions_fault : Schema → Query → Option Refusal
conditions_fault schema q = first_of (map (condition_fault schema) (all_conditions q))

-- without GROUP BY: an item is a function or the count
abbrev pub bare_item_fault : Item → Option Refusal
bare_item_fault (Plain c) = None
bare_item_fault (Aggregate func c at) = fault AggregateWithoutGroup at
bare_item_fault (Count at) = fault AggregateWithoutGroup at

-- with GROUP BY: a selected column is not grouped
abbrev pub grouped_item_fault : Schema → ℕ → Item → Option Refusal
grouped_item_fault schema group (Plain c) = fault_if (not (has group (attribute_of schema c))) NotGrouped c.at
grouped_item_fault schema group (Aggregate func c at) = None
grouped_item_fault schema group (Count at) = None

-- whether a function cannot be had of a column, and whether its literal has another type
abbrev pub is_no_sum : Schema → Agg → Column → Bool
is_no_sum schema agg.Sum c = not (has_type schema c type.Int)
is_no_sum schema agg.Min c = false
is_no_sum schema agg.Max c = false

abbrev pub is_mistyped : Schema → Column → Option Literal → Bool
is_mistyped schema c None = false
is_mistyped schema c (Some l) = not (has_type schema c (literal_type l))

abbrev pub is_long_literal : Option Literal → Bool
is_long_literal None = false
is_long_literal (Some l) = is_long l

-- whether a text stands there
abbrev pub is_text : Option Literal → Bool
is_text None = false
is_text (Some (Number n)) = false
is_text (Some (Text inside)) = true

abbrev pub same_function : Agg → Agg → Bool
same_function agg.Sum agg.Sum = true
same_function agg.Min agg.Min = true
same_function agg.Max agg.Max = true
same_function _ _ = false

-- the attribute stands under another function earlier
abbrev pub is_under_another : AttrId → Agg → List (AttrId × Agg) → Bool
is_under_another a func aggs = list_any (λ p. p.0.0 == a.0 && not (same_function p.1 func)) aggs

-- a function over a column, where these functions stand earlier: the column is grouped; a type does not fit; the text is too
-- long; the column stands under another function earlier
abbrev pub function_fault : Schema → ℕ → List (AttrId × Agg) → Agg → Column → ℕ → Option Literal → Option Refusal
function_fault schema group earlier func c at literal =
    option_or (fault_if (has group (attribute_of schema c)) AggregateOfGrouped at)
    (option_or (fault_if (is_no_sum schema func c || is_mistyped schema c literal) TypeMismatch at)
    (option_or (fault_if (is_long_literal literal) TextTooLong at)
    (fault_if (is_under_another (attribute schema c) func earlier) RepeatedAggregate at)))

-- an item with its literal, where these functions stand earlier
abbrev pub item_fault : Schema → ℕ → List (AttrId × Agg) → Item → Option Literal → Option Refusal
item_fault schema group earlier (Plain c) literal = None
item_fault schema group earlier (Aggregate func c at) literal = function_fault schema group earlier func c at literal
item_fault schema group earlier (Count at) literal = fault_if (is_text literal) TypeMismatch at

-- a function or count, behind these of the text
abbrev pub use_fault : Schema → ℕ → List Use → Use → Option Refusal
use_fault schema group earlier u = item_fault schema group (functions schema earlier) u.item u.literal

-- the first fault of the functions and counts
abbrev pub uses_fault : Schema → ℕ → Query → Option Refusal
uses_fault schema group q = first_behind (use_fault schema group) [] (all_uses q)

-- the first fault of the select list without GROUP BY
abbrev pub bare_fault : Query → Option Refusal
bare_fault q = first_of (map bare_item_fault q.items)

-- with GROUP BY: of the selected columns, and then of the functions and counts
abbrev pub grouped_fault : Schema → ℕ → Query → Option Refusal
grouped_fault schema group q =
    option_or (first_of (map (grouped_item_fault schema group) q.items)) (uses_fault schema group q)

-- the first fault of the items
unfoldable pub items_fault : Schema → Query → Option Refusal
items_fault schema q = if has_group q then grouped_fault schema (group_set schema q.group) q else bare_fault q

-- the plan of a query with ids has more than 64 nodes
abbrev pub nodes_fault : Schema → query.Query.Query → Option Refusal
nodes_fault schema bound = fault_if (nat_lt 64 (node_count schema bound)) TooManyNodes 0

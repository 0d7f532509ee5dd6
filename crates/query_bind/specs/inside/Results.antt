-- What the functions of this crate answer, beside the definitions that docs/FORMATS.md, "Query", tells in prose.
use Rattle.std.specs.Prelude.{ℕ, ◌==◌, Bool, ◌++◌, List, map, Option, None, Some, Result, option_map, if◌then◌else◌}
use Rattle.std.specs.Result.{result_err}
use Rattle.mq_base.specs.declared.ids.TableId.{TableId}
use Rattle.mq_base.specs.declared.query.CmpOp.{CmpOp}
use Rattle.mq_base.specs.declared.query.Having.TheVariants as having
use Rattle.mq_base.specs.declared.query as query
use Rattle.mq_base.specs.declared.refusal.Refusal.{Refusal}
use Rattle.mq_base.specs.Refusal.{refusal}
use Rattle.mq_base.specs.declared.schema.Schema.{Schema}
use Rattle.sql_reader.specs.declared.raw.RawItem.{RawItem}
use Rattle.sql_reader.specs.declared.raw.RawHaving.{RawHaving}
use Rattle.sql_reader.specs.declared.raw.RawQuery.{RawQuery}
use Rattle.sql_reader.specs.Syntax.{Column, Literal, item_of, literal_of}
use Rattle.query_bind.specs.declared.fault.Fault.{Fault}
use Rattle.query_bind.specs.Codes.{number_of}
use Rattle.query_bind.specs.Bound.{attribute, is_count, literal_value}
use Rattle.query_bind.specs.Lookup.{Use}

-- the refusal that a fault of the code stands for
abbrev pub refused : Fault → Refusal
refused found = refusal (number_of found.code) found.at 0

-- the fault that a test answers, where it answers one
abbrev pub fault_of : {A : Type 0} → Result A Fault → Option Refusal
fault_of result = option_map refused (result_err result)

-- the numbers of these tables
abbrev pub numbers : List TableId → List ℕ
numbers tables = map (λ (t : TableId). t.0) tables

-- how far a byte takes a walk over a text whose quotes are doubled
abbrev pub step_of : ℕ → ℕ
step_of b = if b == 39 then 2 else 1

-- an item of the select list, and a condition of HAVING, as an item with its literal; and all of a query
abbrev pub selected_of : RawItem → Use
selected_of item = record { item = item_of item; literal = None }

abbrev pub tested_of : RawHaving → Use
tested_of test = record { item = item_of test.item; literal = Some (literal_of test.lit) }

abbrev pub uses_of : RawQuery → List Use
uses_of raw = map selected_of raw.items ++ map tested_of raw.having

-- whether an item, and whether the item of a condition of HAVING, is the count
abbrev pub selects_count : RawItem → Bool
selects_count item = is_count (item_of item)

abbrev pub tests_count : RawHaving → Bool
tests_count test = is_count (item_of test.item)

-- a condition of HAVING on an attribute under a function
abbrev pub const_test : Schema → Column → CmpOp → Literal → query.Having.Having
const_test schema c op l = having.Const (attribute schema c) op (literal_value l)

-- The answer part of a report: the rows that a query asks for, in order, as comma-separated text. docs/FORMATS.md, "Report".
use Rattle.std.specs.Prelude.{ℕ, List, ◌∷◌, ◌++◌, map, flat_map, codes}
use Rattle.std.specs.Fmt.{signed_decimal}
use Rattle.std.specs.Cmp.Lexicographic.{slice_cmp}
use Rattle.csv.specs.Writing.{row_text, default_writer}
use Rattle.base_laws.specs.Sorting.{in_order}
use Rattle.mq_base.specs.declared.query.Query.{Query}
use Rattle.mq_base.specs.declared.schema.Schema.{Schema}
use Rattle.mq_base.specs.declared.table.PlainTable.{PlainTable}
use Rattle.mq_base.specs.declared.value.Value.{Value}
use Rattle.mq_base.specs.declared.value.Value.TheVariants.{Int, Text}
use Rattle.mq_base.specs.Value.{value_cmp}
use Rattle.row_algebra.specs.Contents.{contents_of}
use Rattle.row_algebra.specs.Meaning.{query_rows}
use Rattle.run_report.specs.Names.{item_names}

-- rows sorted by their values from the left; equal rows are kept
abbrev pub sorted_rows : List (List Value) → List (List Value)
sorted_rows rows = in_order (slice_cmp value_cmp) rows

-- a value as it is written: an INT in decimal, a TEXT as its bytes
abbrev pub shown : Value → List ℕ
shown (Int number) = signed_decimal number
shown (Text bytes) = bytes

-- records as comma-separated text, each line ended by LF
abbrev pub csv_text : List (List (List ℕ)) → List ℕ
csv_text records = flat_map (row_text default_writer) records

-- the names of the selected columns, and then their sorted rows
abbrev pub answer_text : List (List ℕ) → List (List Value) → List ℕ
answer_text names rows = csv_text (names ∷ map (map shown) (sorted_rows rows))

-- the line of the answer, and then the names and the rows
abbrev pub answer_under : List (List ℕ) → List (List Value) → List ℕ
answer_under names rows = codes "answer" ++ 10 ∷ answer_text names rows

-- the answer part: the rows that the query asks for, under their names. There is no plan in it, no key and no order of doing
abbrev pub answer_part : Schema → Query → List PlainTable → List ℕ
answer_part schema q tables = answer_under (item_names schema q.items) (query_rows (contents_of schema tables) q)

-- What reading a table's file comes to: the content, or the first fault. This is what `read_table` promises.
-- docs/FORMATS.md, "Table file", tells it in prose.
use Rattle.std.specs.Prelude.{ℕ, List, Result}
use Rattle.base_laws.specs.Firsts.{judged}
use Rattle.mq_base.specs.declared.refusal.Refusal.{Refusal}
use Rattle.mq_base.specs.declared.schema.Schema.{Schema}
use Rattle.mq_base.specs.declared.table.PlainTable.{PlainTable}
use Rattle.mq_base.specs.Schema.{columns_of}
use Rattle.table_reader.specs.Records.{records_of}
use Rattle.table_reader.specs.Faults.{rows_under, table_fault, types_of}
use Rattle.table_reader.specs.Content.{content_of}

-- the content of a table's file, or its first fault
unfoldable pub table_outcome : Schema → ℕ → List ℕ → Result PlainTable Refusal
table_outcome schema t bytes =
    judged (table_fault (columns_of schema t) (records_of bytes))
    (content_of t (types_of (columns_of schema t)) (rows_under (records_of bytes)))

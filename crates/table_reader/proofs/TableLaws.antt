-- What the header and the rows of a table's file come to together.
use Rattle.std.proofs.Common.{◌≡◌, ℕ, ◌≤◌, List, Result, Ok, Err, length, arith}
use Rattle.std.specs.Prelude.{IfOk, count_by}
use Rattle.std.proofs.lemmas.List.{length-map}
use Rattle.std.proofs.lemmas.List.Sums.{count_by-le-length, length-filter}
use Rattle.mq_base.specs.declared.schema.AttrInfo.{AttrInfo}
use Rattle.mq_base.specs.declared.schema.Schema.{Schema}
use Rattle.mq_base.specs.declared.table.PlainTable.{PlainTable}
use Rattle.base_laws.specs.Firsts.{StopsAt}
use Rattle.mq_base.specs.Schema.{columns_of, is_column_of}
use Rattle.mq_base.specs.Table.{HasForm}
use Rattle.table_reader.specs.declared.refusal.TableNo.{TableNo}
use Rattle.table_reader.specs.Codes.{refusal_of}
use Rattle.table_reader.specs.Content.{content_of}
use Rattle.table_reader.specs.Faults.{rows_fault, types_of}
use Rattle.table_reader.specs.Records.{Fields}
use Rattle.table_reader.proofs.FormLaws.{content_form}

-- a table has no more columns than the policy
pub few_columns : (schema : Schema) (t : ℕ) → length (types_of (columns_of schema t)) ≤ length schema.attrs
few_columns schema t =
    let columns = columns_of schema t in
    let long : length (types_of columns) ≡ length columns = length-map columns (λ (column : AttrInfo). column.ty) in
    let kept : length columns ≡ count_by (is_column_of t) schema.attrs = length-filter (is_column_of t) schema.attrs in
    let few = count_by-le-length (is_column_of t) schema.attrs in
    omega arith

-- a table that is read has the form that the schema tells
pub rows_form : (schema : Schema) (t : ℕ) (rows : List Fields) (result : Result PlainTable TableNo)
    → StopsAt refusal_of result (rows_fault (types_of (columns_of schema t)) 1 rows)
    → IfOk result (λ table. table ≡ content_of t (types_of (columns_of schema t)) rows)
    → IfOk result (HasForm schema)
rows_form schema t rows (Ok table) fault content = rw content (content_form schema t rows fault)
rows_form schema t rows (Err e) fault content = tt

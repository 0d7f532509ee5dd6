-- The tables that a run is given, and what is shown of their bytes. Only the calls of a run speak of these.
use Rattle.std.specs.Prelude.{◌≡◌, List, All}
use Rattle.extended_plan.specs.Setting.{Setting}
use Rattle.mq_base.specs.Schema.{IsSchema}
use Rattle.mq_base.specs.Table.{HasForm}
use Rattle.mq_base.specs.declared.table.PlainTable.{PlainTable}
use Rattle.mq_base.specs.declared.value.Value.{Value}
use Rattle.row_algebra.specs.Contents.{Contents, table_rows}
use Rattle.sealed_column.specs.Seal.{HasBytes}

-- the values of a column are made of bytes, and so are those of each column of a table
abbrev pub ColumnHasBytes : List Value → Type 0
ColumnHasBytes column = All HasBytes column

abbrev pub TableHasBytes : PlainTable → Type 0
TableHasBytes table = All ColumnHasBytes table.columns

-- a table in its form under a schema, whose rows are those of the content
pub record IsGiven (s : Setting) (contents : Contents) (table : PlainTable) : Type 0 where
  pub schema : IsSchema s.policy.schema
  pub form : HasForm s.policy.schema table
  pub rows : contents table.table.0 ≡ table_rows s.policy.schema table

-- Columns that grow by rows, as they are gathered.
use Rattle.std.specs.Prelude.{ℕ, suc, List, [], ◌∷◌, ◌++◌}
use Rattle.mq_base.specs.declared.value.Value.{Value}
use Rattle.mq_base.specs.declared.value.ValueType.{ValueType}
use Rattle.table_reader.specs.Content.{column_of}
use Rattle.table_reader.specs.Records.{Fields}

-- columns of these types, from a place on, with the values of more rows at their ends
abbrev pub with_rows : List ValueType → ℕ → List (List Value) → List Fields → List (List Value)
with_rows [] col columns rows = []
with_rows (ty ∷ types) col [] rows = []
with_rows (ty ∷ types) col (column ∷ columns) rows =
    (column ++ column_of ty col rows) ∷ with_rows types (suc col) columns rows

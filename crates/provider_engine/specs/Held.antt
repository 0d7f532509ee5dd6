-- A table that is held: its node, its state, its columns, and the rows that it stands for. docs/MODEL.md, "Encoded run", tells it in
-- prose.
use Rattle.std.specs.Prelude.{ℕ, List, Option}
use Rattle.column_table.specs.Cells.{Cell}
use Rattle.column_table.specs.Columns.{Shown, column_at, shown_columns}
use Rattle.column_table.specs.Tables.{rows_of}
use Rattle.extended_plan.specs.declared.state.State.{State}
use Rattle.mq_base.specs.declared.ids.NodeId.{NodeId}
use Rattle.provider_engine.specs.declared.held.Held.{Held}
use Rattle.row_algebra.specs.Rows.{RowOf}

-- the rows of a table that is held
abbrev pub table_of : Held → List (RowOf Cell)
table_of held = rows_of held.table

-- its node, its state, the column of an attribute, and the counts
abbrev pub node_of : Held → NodeId
node_of held = held.node

abbrev pub state_of : Held → State
state_of held = held.state

abbrev pub column_of : Held → ℕ → Option Shown
column_of held a = column_at (shown_columns held.table.columns) a

abbrev pub counts_of : Held → Option (List ℕ)
counts_of held = held.table.counts

-- Which rows a selection keeps, and what it asks of the columns. docs/MODEL.md, "Encoded run", tells it in prose.
use Rattle.std.specs.Prelude.{◌≡◌, ℕ, ◌<◌, Bool, true, List, Option, IfSome, option_map}
use Rattle.column_table.specs.declared.table.Table.{Table}
use Rattle.column_table.specs.Cells.{Cell}
use Rattle.column_table.specs.Columns.{Shown, column_at, columns_at, shown_columns}
use Rattle.key_clusters.specs.declared.assigned.Clusters.{Clusters}
use Rattle.key_clusters.specs.Keys.{scheme_at}
use Rattle.mq_base.specs.declared.plan.PlanOp.{PlanOp}
use Rattle.mq_base.specs.declared.plan.PlanOp.TheVariants as op
use Rattle.mq_base.specs.Value.{type_of}
use Rattle.row_algebra.specs.Rows.{RowOf}
use Rattle.row_algebra.specs.Tests.{Tests, passes_constant, passes_count, passes_pair}
use Rattle.sealed_column.specs.Cells.{picked}
use Rattle.sealed_column.specs.Seal.{IsValueOf}

-- whether a selection keeps a row; other operations keep each
abbrev pub keeps : Tests Cell → PlanOp → RowOf Cell → Bool
keeps tests (op.SelConst a cmp x) r = passes_constant tests a.0 cmp x r
keeps tests (op.SelCount cmp n) r = passes_count cmp n r
keeps tests (op.SelAttr a cmp b) r = passes_pair tests a.0 cmp b.0 r
keeps tests _ r = true

-- the operation is a selection on attributes of a table, with a constant that can be sealed
abbrev pub IsSelection : PlanOp → Type 0
IsSelection (op.SelConst a cmp x) = (a.0 < 64) × IsValueOf (type_of x) x
IsSelection (op.SelCount cmp n) = Unit {0}
IsSelection (op.SelAttr a cmp b) = (a.0 < 64) × (b.0 < 64)
IsSelection _ = ⊥

-- where a constant is compared, the column was sealed under the scheme of its attribute's cluster, where one did
abbrev pub AreSealedUnder : Clusters → List (Option Shown) → PlanOp → Type 0
AreSealedUnder clusters columns (op.SelConst a cmp x) =
    IfSome (column_at columns a.0) (λ (c : Shown). IfSome c.scheme (λ scheme. scheme ≡ scheme_at clusters a.0))
AreSealedUnder clusters columns _ = Unit {0}

-- a table has the rows of another at listed places
pub record IsAtRows (table made : Table) : Type 0 where
  pub rows : List ℕ
  pub columns : shown_columns made.columns ≡ columns_at rows (shown_columns table.columns)
  pub counts : made.counts ≡ option_map (λ c. picked c rows) table.counts

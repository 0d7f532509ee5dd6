-- What a group asks of a table, and what the groups of its rows have of its columns: the first cell, or what a function makes of the cells.
-- docs/MODEL.md, "Encoded run", tells it in prose.
use Rattle.std.specs.Prelude.{◌≡◌, ◌⊎◌, ℕ, ◌<◌, Bool, true, is_some, List, [], ◌∷◌, map, Option, Some, None, IsSome, option_map, slice_get, if◌then◌else◌}
use Rattle.std.specs.List.{All, reduce}
use Rattle.base_laws.specs.Sets.{has}
use Rattle.column_table.specs.declared.table.Table.{Table}
use Rattle.column_table.specs.Cells.{Cell, Plain, Sealed, cell_step}
use Rattle.column_table.specs.Columns.{Shown, at_rows, column_at, shown_columns}
use Rattle.column_table.specs.Tables.{column_in}
use Rattle.mq_base.specs.declared.ids.AttrId.{AttrId}
use Rattle.mq_base.specs.declared.query.Agg.{Agg}
use Rattle.mq_base.specs.declared.query.Agg.TheVariants.{Sum, Min, Max}
use Rattle.mq_base.specs.declared.table.Scheme.{Scheme}
use Rattle.mq_base.specs.declared.table.Scheme.TheVariants.{Ope}
use Rattle.mq_base.specs.declared.value.Value.{Value}
use Rattle.mq_base.specs.declared.value.ValueType.TheVariants as type
use Rattle.mq_base.specs.Value.{IsCell, type_of}
use Rattle.row_algebra.specs.Groups.{function_of}
use Rattle.sealed_column.specs.Cells.{picked}

-- a plain cell is an INT that a table's cell may hold
abbrev pub IsSmallInt : Cell → Type 0
IsSmallInt (Plain v) = IsCell type.Int v
IsSmallInt (Sealed c) = ⊥

-- a column that can be summed: plain INT
pub record IsSummed (c : Shown) : Type 0 where
  pub plain : c.scheme ≡ None
  pub typed : c.ty ≡ type.Int
  pub small : All IsSmallInt c.cells

-- a scheme that keeps the order, or none
abbrev pub HasOrder : Option Scheme → Type 0
HasOrder None = Unit {0}
HasOrder (Some Ope) = Unit {0}
HasOrder _ = ⊥

-- a function runs over a column
abbrev pub IsFoldable : Agg → Shown → Type 0
IsFoldable Sum c = IsSummed c
IsFoldable Min c = HasOrder c.scheme
IsFoldable Max c = HasOrder c.scheme

-- each function runs over its attribute's column, where there is one
pub record FoldsEach (columns : List (Option Shown)) (aggs : List (AttrId × Agg)) : Type 0 where
  pub runs : (a : ℕ) (func : Agg) (c : Shown) → function_of aggs a ≡ Some func → column_at columns a ≡ Some c → IsFoldable func c

-- a table has each attribute of a set
pub record HasEach (table : Table) (set : ℕ) : Type 0 where
  pub there : (a : ℕ) → a < 64 → has set a ≡ true → IsSome (column_in table a)

-- a table has what a group asks of it
pub record IsGroupOn (table : Table) (by : ℕ) (aggs : List (AttrId × Agg)) : Type 0 where
  pub has_each : HasEach table by
  pub folds : FoldsEach (shown_columns table.columns) aggs

-- the first of listed rows
abbrev pub first_in : List ℕ → ℕ
first_in [] = 0
first_in (row ∷ rows) = row

-- what a function makes of the cells of a column at the rows of a group
abbrev pub folded_at : Agg → List Cell → List ℕ → Option Cell
folded_at func cells group = reduce (cell_step func) (picked cells group)

-- plain INT that were summed
pub record AreSums (c d : Shown) : Type 0 where
  pub plain : c.scheme ≡ None
  pub typed : c.ty ≡ type.Int
  pub values : List Value
  pub ints : All (λ v. type_of v ≡ type.Int) values
  pub are : d ≡ record { scheme = None; ty = type.Int; cells = map Plain values }

-- a column has for each group the cell that a function gives: a cell of another column, or a sum of its cells
pub record IsMadeOf (give : List ℕ → Option Cell) (groups : List (List ℕ)) (c d : Shown) : Type 0 where
  pub cells : map Some d.cells ≡ map give groups
  pub kept : ((rows : List ℕ) × (d ≡ at_rows rows c)) ⊎ AreSums c d

-- what a group has of a column of an attribute, where it has any: its first cell, or that of a function
abbrev pub group_cell : ℕ → List (AttrId × Agg) → ℕ → Shown → Option (List ℕ → Option Cell)
group_cell set aggs a c =
    if has set a then Some (λ group. slice_get c.cells (first_in group))
    else option_map (λ (func : Agg) (group : List ℕ). folded_at func c.cells group) (function_of aggs a)

-- a column has what the groups have of another, where they have any
abbrev pub AreCellsOf : Option (List ℕ → Option Cell) → List (List ℕ) → Shown → Option Shown → Type 0
AreCellsOf None groups c made = made ≡ None
AreCellsOf (Some give) groups c None = ⊥
AreCellsOf (Some give) groups c (Some d) = IsMadeOf give groups c d

-- the column of an attribute of groups, by that of the rows
abbrev pub IsPlaceOf : ℕ → List (AttrId × Agg) → List (List ℕ) → ℕ → Option Shown → Option Shown → Type 0
IsPlaceOf set aggs groups a None made = made ≡ None
IsPlaceOf set aggs groups a (Some c) made = AreCellsOf (group_cell set aggs a c) groups c made

-- a table has the columns of the groups of another
pub record IsGroupedBy (set : ℕ) (aggs : List (AttrId × Agg)) (table made : Table) : Type 0 where
  pub groups : List (List ℕ)
  pub place : (a : ℕ) → IsPlaceOf set aggs groups a (column_in table a) (column_in made a)

-- a table has the columns and the counts of groups of another
pub record IsGroupFrom (by : ℕ) (aggs : List (AttrId × Agg)) (count : Bool) (table made : Table) : Type 0 where
  pub columns : IsGroupedBy by aggs table made
  pub counts : is_some made.counts ≡ count

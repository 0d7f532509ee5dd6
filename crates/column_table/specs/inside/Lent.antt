-- A cell that a column lends, as a cell. docs/MODEL.md, "Encoded run", tells it in prose.
use Rattle.column_table.specs.declared.cell.CellRef.{CellRef}
use Rattle.column_table.specs.declared.cell.CellRef.TheVariants as lent
use Rattle.column_table.specs.Cells.{Cell, Plain, Sealed}

-- the cell that is lent
abbrev pub cell_of : CellRef → Cell
cell_of (lent.Plain v) = Plain v.now
cell_of (lent.Sealed t) = Sealed t.now

-- The refusals of a table's file, with their numbers and their places: the row, counted from 1, and the column, counted
-- from 0. docs/FORMATS.md, "Table file", lists them.
use Rattle.std.specs.Prelude.{ℕ, Option, Some, None}
use Rattle.mq_base.specs.Refusal.{refusal}
use Rattle.mq_base.specs.declared.refusal.Refusal.{Refusal}
use Rattle.table_reader.specs.declared.refusal.TableNo.{TableNo}
use Rattle.table_reader.specs.declared.refusal.TableNo.TheVariants.{BadHeader, BadRow, BadInt, TextTooLong, TooManyRows, NoMemory}

abbrev pub bad_header : Refusal
bad_header = refusal 1 0 0

abbrev pub bad_row : ℕ → Refusal
bad_row row = refusal 2 row 0

abbrev pub bad_int : ℕ → ℕ → Refusal
bad_int row col = refusal 3 row col

abbrev pub text_too_long : ℕ → ℕ → Refusal
text_too_long row col = refusal 4 row col

abbrev pub too_many_rows : Refusal
too_many_rows = refusal 5 100001 0

-- the refusal of an error, and none for want of memory
abbrev pub refusal_of : TableNo → Option Refusal
refusal_of BadHeader = Some bad_header
refusal_of (BadRow row) = Some (bad_row row)
refusal_of (BadInt row col) = Some (bad_int row col)
refusal_of (TextTooLong row col) = Some (text_too_long row col)
refusal_of TooManyRows = Some too_many_rows
refusal_of NoMemory = None

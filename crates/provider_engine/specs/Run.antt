-- The encoded run of an extended plan: the table that each term gives, step by step, and what decoding makes of it. docs/MODEL.md,
-- "Encoded run", tells it in prose.
use Rattle.std.specs.Prelude.{ℕ, ◌+◌, ◌^◌, List, length, map, Option, Some, option_and_then, if◌then◌else◌}
use Rattle.std.specs.List.{enumerate_from}
use Rattle.std.specs.Option.{option_map_or}
use Rattle.base_laws.specs.Sets.{has}
use Rattle.column_table.specs.Cells.{Cell, Plain, Sealed, Seals, cell_tests}
use Rattle.extended_plan.specs.Setting.{Setting, op_at}
use Rattle.extended_plan.specs.Term.{Term, Leaf, Enc, Dec, Send, Un, Bin, spell}
use Rattle.extended_plan.specs.Validity.{used_at}
use Rattle.mq_base.specs.declared.value.Value.{Value}
use Rattle.plan_algebra.specs.Tree.{apply_one, apply_two}
use Rattle.row_algebra.specs.Contents.{Contents}
use Rattle.row_algebra.specs.Rows.{RowOf, cut, mapped}

-- the cell of an attribute, sealed at a place and a row where it is not yet
abbrev pub sealed_cell : Seals → ℕ → ℕ → ℕ → Cell → Cell
sealed_cell seals place row a (Plain v) = Sealed (seals.seal a place row v)
sealed_cell seals place row a (Sealed c) = Sealed c

-- the value of the cell of an attribute: a plain one's own, and a sealed one's where it opens
abbrev pub decoded_cell : Seals → ℕ → Cell → Option Value
decoded_cell seals a (Plain v) = Some v
decoded_cell seals a (Sealed c) = seals.opened a c

-- the cell of an attribute with its value put back
abbrev pub opened_cell : Seals → ℕ → Cell → Cell
opened_cell seals a c = option_map_or Plain (decoded_cell seals a c) c

-- a row with the cells of these attributes sealed, or opened
abbrev pub sealed_row : Seals → ℕ → ℕ → ℕ → RowOf Cell → RowOf Cell
sealed_row seals set place row r = mapped (λ a c. if has set a then sealed_cell seals place row a c else c) r

abbrev pub opened_row : Seals → ℕ → RowOf Cell → RowOf Cell
opened_row seals set r = mapped (λ a c. if has set a then opened_cell seals a c else c) r

-- rows with the cells of these attributes sealed, each at its row's place in the table
abbrev pub sealed_rows : Seals → ℕ → ℕ → List (RowOf Cell) → List (RowOf Cell)
sealed_rows seals set place rows = map (λ numbered. sealed_row seals set place numbered.0 numbered.1) (enumerate_from 0 rows)

-- a row of values as one of cells
abbrev pub plain_row : RowOf Value → RowOf Cell
plain_row r = mapped (λ a v. Plain v) r

-- the table that a term gives whose steps stand from a place in the list on
abbrev pub enc_run : Setting → Seals → Contents → ℕ → Term → List (RowOf Cell)
enc_run s seals contents start (Leaf t) =
    sealed_rows seals s.policy.rest.0 start (map (λ r. plain_row (cut (used_at s t) r)) (contents t.0))
enc_run s seals contents start (Enc a x) = sealed_rows seals (2 ^ a.0) (start + length (spell x)) (enc_run s seals contents start x)
enc_run s seals contents start (Dec a x) = map (opened_row seals (2 ^ a.0)) (enc_run s seals contents start x)
enc_run s seals contents start (Send to x) = enc_run s seals contents start x
enc_run s seals contents start (Un n x) = apply_one (cell_tests seals) (op_at s n.0) (enc_run s seals contents start x)
enc_run s seals contents start (Bin n x y) =
    apply_two (cell_tests seals) (op_at s n.0) (enc_run s seals contents start x) (enc_run s seals contents (start + length (spell x)) y)

-- a row with each cell's value
abbrev pub decoded : Seals → RowOf Cell → RowOf Value
decoded seals r = record { cell = λ a. option_and_then (decoded_cell seals a) (r.cell a); count = r.count }

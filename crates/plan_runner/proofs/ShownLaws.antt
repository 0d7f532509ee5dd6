-- The values of a select list, read row by row off a table.
use Rattle.std.proofs.Common.{◌≡◌, ℕ, ◌+◌, ◌<◌, List, [], ◌∷◌, ◌++◌, take, get_or, map, length, Option, Some, None, option_map, slice_get, refl, sym, ◌∙◌, ap}
use Rattle.std.specs.List.{cons_option, range_with_len}
use Rattle.std.specs.Prelude.{filter_map, option_and_then, option_to_list}
use Rattle.std.proofs.lemmas.List.{take_more}
use Rattle.std.proofs.lemmas.List.Elements.{filter_map-append}
use Rattle.std.proofs.lemmas.Option.{slice_get-map}
use Rattle.base_laws.proofs.FilterLaws.{map_map}
use Rattle.mq_base.specs.declared.query.Item.{Item}
use Rattle.mq_base.specs.declared.value.Value.{Value}
use Rattle.column_table.proofs.ColumnLaws.{rows_length}
use Rattle.provider_engine.specs.declared.held.Held.{Held}
use Rattle.column_table.specs.Cells.{Plain, Sealed}
use Rattle.column_table.specs.Columns.{rows_in, shown_columns}
use Rattle.provider_engine.specs.Held.{table_of}
use Rattle.plan_runner.specs.inside.Shown.{plain_items, plain_value, row_of}

-- one more item
pub items_more : {X Y : Type 0} (h : X → Option Y) (xs : List X) (i : ℕ) (d : X) → i < length xs
    → filter_map h (take (i + 1) xs) ≡ filter_map h (take i xs) ++ option_to_list (h (get_or xs i d))
items_more {X} {Y} h xs i d below =
    ap (filter_map h) (take_more xs i d below)
    ∙ filter_map-append h (take i xs) (get_or xs i d ∷ [])
    ∙ ap (λ ys. filter_map h (take i xs) ++ ys) (one (h (get_or xs i d)))
  where
    one : (o : Option Y) → cons_option o [] ≡ option_to_list o
    one None = refl
    one (Some y) = refl

-- each row of a table
pub rows_read : (held : Held) → table_of held ≡ map (row_of held) (range_with_len 0 held.table.rows)
unfolding rows_in
rows_read held = refl

pub all_read : (held : Held) (items : List Item) (n : ℕ) → n ≡ length (table_of held)
    → map (λ row. plain_items items (row_of held row)) (range_with_len 0 n) ≡ map (plain_items items) (table_of held)
all_read held items n all =
    let many : n ≡ held.table.rows = all ∙ rows_length (shown_columns held.table.columns) held.table.counts held.table.rows in
    ap (λ k. map (λ row. plain_items items (row_of held row)) (range_with_len 0 k)) many
    ∙ sym (map_map (plain_items items) (row_of held) (range_with_len 0 held.table.rows))
    ∙ ap (map (plain_items items)) (sym (rows_read held))

-- the value of a cell of a clear column, and of a sealed one
pub clear_cell : (values : List Value) (row : ℕ) → slice_get values row ≡ option_and_then plain_value (slice_get (map Plain values) row)
clear_cell values row =
    sym (ap (option_and_then plain_value) (slice_get-map Plain values row) ∙ plain (slice_get values row))
  where
    plain : (o : Option Value) → option_and_then plain_value (option_map Plain o) ≡ o
    plain None = refl
    plain (Some v) = refl

pub sealed_cell : (cells : List (List ℕ)) (row : ℕ) → None ≡ option_and_then plain_value (slice_get (map Sealed cells) row)
sealed_cell cells row =
    sym (ap (option_and_then plain_value) (slice_get-map Sealed cells row) ∙ none (slice_get cells row))
  where
    none : (o : Option (List ℕ)) → option_and_then plain_value (option_map Sealed o) ≡ None
    none None = refl
    none (Some c) = refl

pub ruleset cells = (clear_cell, sealed_cell)

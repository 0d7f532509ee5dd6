-- How columns grow: field by field within a row, and row by row.
use Rattle.std.proofs.Common.{◌≡◌, ℕ, zero, suc, ◌+◌, ◌<◌, ◌≤◌, List, [], ◌∷◌, ◌++◌, length, take, drop, set, get_or, replicate, refl, ap, arith, append_assoc}
use Rattle.std.proofs.lemmas.List.{append-nil, drop_all, drop_more, get_or_at, length-take-le, set_at, take_all, take_more}
use Rattle.mq_base.specs.declared.value.Value.{Value}
use Rattle.mq_base.specs.declared.value.ValueType.{ValueType}
use Rattle.table_reader.specs.Content.{cell_value, columns_from}
use Rattle.table_reader.specs.inside.Growing.{with_rows}
use Rattle.table_reader.specs.Faults.{field_in, type_at}
use Rattle.table_reader.specs.Records.{Fields}

-- an item put in its place, where what stands before is new and what stands from there on is old
pub placed : {X : Type 0} (new old : List X) (at : ℕ) (x d : X) → at < length new → at < length old → x ≡ get_or new at d
    → set (take at new ++ drop at old) at x ≡ take (at + 1) new ++ drop (at + 1) old
placed new old at x d in_new in_old is =
    let front : length (take at new) ≡ at = length-take-le at new (omega arith) in
    rw (drop_more old at d in_old, set_at (take at new) (get_or old at d) (drop (at + 1) old) x at front, take_more new at d in_new, is, append_assoc)

-- the item that stands there before
pub before_placed : {X : Type 0} (new old : List X) (at : ℕ) (d : X) → at < length new → at < length old
    → get_or (take at new ++ drop at old) at d ≡ get_or old at d
before_placed new old at d in_new in_old =
    let front : length (take at new) ≡ at = length-take-le at new (omega arith) in
    rw (drop_more old at d in_old) (get_or_at (take at new) (get_or old at d) (drop (at + 1) old) d at front)

-- a list that is written over another of its length takes its place
pub written_over : {X : Type 0} (new old : List X) (n : ℕ) → length new ≡ length old → length old ≡ n
    → take n (new ++ drop (length new) old) ≡ new
written_over new old n same long =
    let none : drop (length new) old ≡ [] = drop_all (length new) old (omega arith) in
    let whole : take n new ≡ new = take_all n new (omega arith) in
    rw (none, append-nil new) whole

-- there is a column for each type
pub length-with_rows : (types : List ValueType) (col : ℕ) (columns : List (List Value)) (rows : List Fields) → length columns ≡ length types
    → length (with_rows types col columns rows) ≡ length types
length-with_rows [] col columns rows same = refl
length-with_rows (ty ∷ types) col [] rows same = omega arith
length-with_rows (ty ∷ types) col (column ∷ columns) rows same =
    ap suc (length-with_rows types (suc col) columns rows (omega arith))

-- the column at a place, with one more row
with_row_at : (types : List ValueType) (col : ℕ) (columns : List (List Value)) (fields : Fields) (at place : ℕ) (d : List Value)
    → at < length types → length columns ≡ length types → place ≡ col + at
    → get_or (with_rows types col columns (fields ∷ [])) at d
    ≡ get_or columns at d ++ cell_value (type_at types at) (field_in fields place) ∷ []
with_row_at [] col columns fields at place d below same is = absurd (omega arith)
with_row_at (ty ∷ types) col [] fields at place d below same is = absurd (omega arith)
with_row_at (ty ∷ types) col (column ∷ columns) fields zero place d below same is =
    let here : place ≡ col = omega arith in
    rw here refl
with_row_at (ty ∷ types) col (column ∷ columns) fields (suc at) place d below same is =
    with_row_at types (suc col) columns fields at place d (omega arith) (omega arith) (omega arith)

-- a value put at the end of its column, where the columns before it have theirs
pub value_pushed : (types : List ValueType) (columns : List (List Value)) (fields : Fields) (at : ℕ) (now : List (List Value)) (value : Value) (pushed d : List Value)
    → at < length types → length columns ≡ length types
    → now ≡ take at (with_rows types 0 columns (fields ∷ [])) ++ drop at columns
    → value ≡ cell_value (type_at types at) (field_in fields at)
    → pushed ≡ get_or now at d ++ value ∷ []
    → set now at pushed ≡ take (at + 1) (with_rows types 0 columns (fields ∷ [])) ++ drop (at + 1) columns
value_pushed types columns fields at now value pushed d below same is_now is_value is_pushed =
    let new = with_rows types 0 columns (fields ∷ []) in
    let long : length new ≡ length types = length-with_rows types 0 columns (fields ∷ []) same in
    let stood : get_or now at d ≡ get_or columns at d = rw is_now (before_placed new columns at d (omega arith) (omega arith)) in
    let row = with_row_at types 0 columns fields at at d below same (omega arith) in
    let is : pushed ≡ get_or new at d = rw (is_pushed, stood, is_value, row) refl in
    rw is_now (placed new columns at pushed d (omega arith) (omega arith) is)

-- every column has its value once each has been put
pub values_pushed : (types : List ValueType) (columns : List (List Value)) (fields : Fields) (at : ℕ)
    → length types ≤ at → length columns ≡ length types
    → take at (with_rows types 0 columns (fields ∷ [])) ++ drop at columns ≡ with_rows types 0 columns (fields ∷ [])
values_pushed types columns fields at past same =
    let new = with_rows types 0 columns (fields ∷ []) in
    let long : length new ≡ length types = length-with_rows types 0 columns (fields ∷ []) same in
    let whole : take at new ≡ new = take_all at new (omega arith) in
    let none : drop at columns ≡ [] = drop_all at columns (omega arith) in
    rw (whole, none) (append-nil new)

-- a row, and then the rows after it
pub with_rows-cons : (types : List ValueType) (col : ℕ) (columns : List (List Value)) (fields : Fields) (rows : List Fields)
    → with_rows types col columns (fields ∷ rows) ≡ with_rows types col (with_rows types col columns (fields ∷ [])) rows
with_rows-cons [] col columns fields rows = refl
with_rows-cons (ty ∷ types) col [] fields rows = refl
with_rows-cons (ty ∷ types) col (column ∷ columns) fields rows =
    rw (with_rows-cons types (suc col) columns fields rows, append_assoc) refl

-- no row
pub with_rows-none : (types : List ValueType) (col : ℕ) (columns : List (List Value)) → length columns ≡ length types
    → with_rows types col columns [] ≡ columns
with_rows-none [] col [] same = refl
with_rows-none [] col (column ∷ columns) same = absurd (omega arith)
with_rows-none (ty ∷ types) col [] same = absurd (omega arith)
with_rows-none (ty ∷ types) col (column ∷ columns) same =
    rw (append-nil column, with_rows-none types (suc col) columns (omega arith)) refl

-- columns that begin empty are those of the rows alone
pub with_rows-empty : (types : List ValueType) (col : ℕ) (rows : List Fields)
    → with_rows types col (replicate (length types) []) rows ≡ columns_from types col rows
with_rows-empty [] col rows = refl
with_rows-empty (ty ∷ types) col rows = rw (with_rows-empty types (suc col) rows) refl

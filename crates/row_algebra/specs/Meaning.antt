-- What a query asks for: its rows, over the product of its tables. There is no plan in it, and no order of doing.
-- docs/FORMATS.md, "Query", tells it in prose.
use Rattle.std.specs.Prelude.{◌≡◌, ℕ, List, [], ◌∷◌, length, map, filter, fold, if◌then◌else◌}
use Rattle.std.specs.List.{AllByRecursion}
use Rattle.mq_base.specs.declared.ids.TableId.{TableId}
use Rattle.mq_base.specs.declared.query.Query.{Query}
use Rattle.mq_base.specs.declared.value.Value.{Value}
use Rattle.row_algebra.specs.Rows.{RowOf, empty_row, product}
use Rattle.row_algebra.specs.Tests.{Tests, meets_all, meets_every_having}
use Rattle.row_algebra.specs.Groups.{grouped}
use Rattle.row_algebra.specs.Select.{selected}
use Rattle.row_algebra.specs.Values.{value_tests, value_count}
use Rattle.row_algebra.specs.Contents.{Contents}

-- the product of tables, from the left; of none it is one row without cells
abbrev pub product_of : {C : Type 0} → (ℕ → List (RowOf C)) → List TableId → List (RowOf C)
product_of rows [] = empty_row ∷ []
product_of rows (t ∷ rest) = fold (λ before next. product before (rows next.0)) (rows t.0) rest

-- the rows as they are or, with GROUP BY, their groups that meet every condition of HAVING
abbrev pub grouped_rows : {C : Type 0} → Tests C → Query → List (RowOf C) → List (RowOf C)
grouped_rows tests q rows =
    if q.grouped
    then filter (meets_every_having tests q.having) (grouped tests q.group.0 q.aggs q.count rows)
    else rows

-- the rows before the select list: of the product in FROM order those that meet every condition, then grouped
abbrev pub asked_rows : {C : Type 0} → Tests C → (ℕ → List (RowOf C)) → Query → List (RowOf C)
asked_rows tests rows q = grouped_rows tests q (filter (meets_all tests q.conds) (product_of rows q.tables))

-- the rows that a query asks for: how often each occurs counts, and their order does not
unfoldable pub query_rows : Contents → Query → List (List Value)
query_rows contents q = map (selected value_count q.items) (asked_rows value_tests contents q)

-- each row has a value for each selected item
abbrev pub AreWhole : Query → List (List Value) → Type 0
AreWhole q rows = AllByRecursion (λ values. length values ≡ length q.items) rows

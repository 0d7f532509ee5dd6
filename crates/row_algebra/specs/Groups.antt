-- Groups of rows, in the order in which each combination of the grouped cells first occurs.
-- docs/MODEL.md, "Rows", tells them in prose.
use Rattle.std.specs.Prelude.{ℕ, ◌==◌, Bool, true, false, List, length, map, filter, filter_map, find, Option, Some, None, option_map, if◌then◌else◌}
use Rattle.std.specs.List.{list_all, reduce}
use Rattle.base_laws.specs.Lists.{firsts}
use Rattle.base_laws.specs.Sets.{has, members}
use Rattle.mq_base.specs.declared.ids.AttrId.{AttrId}
use Rattle.mq_base.specs.declared.query.Agg.{Agg}
use Rattle.mq_base.specs.declared.query.CmpOp.TheVariants as cmp
use Rattle.row_algebra.specs.Rows.{RowOf}
use Rattle.row_algebra.specs.Tests.{Tests, passes}

-- whether two cells are the same, or neither is there
abbrev pub same_cell : {C : Type 0} → Tests C → Option C → Option C → Bool
same_cell tests None None = true
same_cell tests None (Some d) = false
same_cell tests (Some c) d = passes (tests.pair cmp.Eq c) d

-- whether two rows have the same cells of these attributes
abbrev pub same_cells : {C : Type 0} → Tests C → ℕ → RowOf C → RowOf C → Bool
same_cells tests set u v = list_all (λ a. same_cell tests (u.cell a) (v.cell a)) (members set)

-- the function under which an attribute stands
abbrev pub function_of : List (AttrId × Agg) → ℕ → Option Agg
function_of aggs a = option_map (λ p. p.1) (find (λ p. p.0.0 == a) aggs)

-- what a function makes of an attribute's cells in these rows: of the first, and of each further one by its step
abbrev pub aggregate : {C : Type 0} → Tests C → Option Agg → ℕ → List (RowOf C) → Option C
aggregate tests None a rows = None
aggregate tests (Some func) a rows = reduce (tests.step func) (filter_map (λ r. r.cell a) rows)

-- the row of a group that begins with `first`: the grouped cells, those under functions, and the count where it is told
abbrev pub group_row : {C : Type 0} → Tests C → ℕ → List (AttrId × Agg) → Bool → RowOf C → List (RowOf C) → RowOf C
group_row tests set aggs counted first rows = record {
  cell = λ a. if has set a then first.cell a else aggregate tests (function_of aggs a) a rows;
  count = if counted then Some (length rows) else None;
}

-- one row for each combination of the grouped cells that occurs, in the order in which it first does
abbrev pub grouped : {C : Type 0} → Tests C → ℕ → List (AttrId × Agg) → Bool → List (RowOf C) → List (RowOf C)
grouped tests set aggs counted rows =
    map (λ first. group_row tests set aggs counted first (filter (same_cells tests set first) rows))
    (firsts (same_cells tests set) rows)

-- A query without a fault is bound: its ids are those of the schema, what it compares has one type, and its plan is
-- small enough.
use Rattle.std.proofs.Common.{◌≡◌, ◌<◌, ◌≤◌, Bool, true, false, List, [], length, map, None, if◌then◌else◌, refl, get_or}
use Rattle.std.proofs.lemmas.Bool.{ltb-false}
use Rattle.std.proofs.lemmas.List.{length-map}
use Rattle.std.proofs.lemmas.List.Elements.{All-map, All-weaker}
use Rattle.mq_base.specs.declared.ids.TableId.{TableId}
use Rattle.mq_base.specs.declared.schema.Schema.{Schema}
use Rattle.mq_base.specs.BoundQuery.{IsOfTables, IsBoundCond, IsBareOrGrouped, IsBound}
use Rattle.mq_base.specs.Nodes.{node_count}
use Rattle.mq_base.specs.Schema.{IsSchema}
use Rattle.sql_reader.specs.Syntax.{Column, Query}
use Rattle.sql_reader.specs.Writable.{IsWritable}
use Rattle.query_bind.specs.declared.refusal.BindCode.TheVariants.{TooManyNodes}
use Rattle.query_bind.specs.Lookup.{source_table, source_tables, all_conditions, has_group}
use Rattle.query_bind.specs.Bound.{attribute, bound_item, bound_condition, group_set, bound_query}
use Rattle.query_bind.specs.Faults.{column_fault, bare_fault, grouped_fault, items_fault}
use Rattle.query_bind.specs.Outcome.{first_fault}
use Rattle.query_bind.specs.inside.Ranges.{NumbersFit}
use Rattle.query_bind.proofs.BoundParts.{passed, Passes, passes_each}
use Rattle.query_bind.proofs.BoundTables.{table_ids, tables_known, tables_once, numbers_of_ids}
use Rattle.query_bind.proofs.BoundColumns.{column_used, EachColumn, each_column}
use Rattle.query_bind.proofs.BoundConditions.{condition_bound}
use Rattle.query_bind.proofs.BoundBare.{no_column, bare_query}
use Rattle.query_bind.proofs.BoundGrouped.{grouped_query}

at_least : {A B : Type 0} (f : A → B) (xs : List A) → 1 ≤ length xs → 1 ≤ length (map f xs)
at_least f xs some = rw length-map some

-- a column of the query names an attribute of its tables
abbrev IsUsedIn : Schema → Query → Column → Type 0
IsUsedIn schema q c = IsOfTables schema (table_ids (source_tables schema q.sources)) (attribute schema c)

columns_used : (schema : Schema) (q : Query) → Passes schema q → EachColumn (IsUsedIn schema q) q
columns_used schema q passes =
    each_column (IsUsedIn schema q) q
    (All-weaker (λ c. column_fault schema (source_tables schema q.sources) c ≡ None) (IsUsedIn schema q)
    (column_used schema (source_tables schema q.sources)) _ passes.columns)

selected : (schema : Schema) (q : Query) → IsWritable q → NumbersFit q → EachColumn (IsUsedIn schema q) q
    → (b : Bool) → has_group q ≡ b
    → (if b then grouped_fault schema (group_set schema q.group) q else bare_fault q) ≡ None
    → IsBareOrGrouped b schema (bound_query schema q)
unfolding bound_query
selected schema q written fits used false bare none =
    let empty : q.group ≡ [] = no_column q.group bare in
    bare_query schema q none empty (written.grouped empty) used.items
selected schema q written fits used true grouped none =
    grouped_query schema q none grouped used written.having fits.having

-- a query without a fault is bound
pub no_fault_is_bound : (schema : Schema) (q : Query) → IsSchema schema → IsWritable q → NumbersFit q
    → first_fault schema q ≡ None → IsBound schema (bound_query schema q)
unfolding bound_query items_fault
no_fault_is_bound schema q is_schema written fits none =
    let passes = passes_each schema q none in
    let used = columns_used schema q passes in
    record {
      some_table = at_least _ (source_tables schema q.sources) (at_least (source_table schema) q.sources written.some_source);
      tables = All-map (λ (t : TableId). t.0 < length schema.tables) _ (source_tables schema q.sources)
          (tables_known schema [] q.sources passes.tables);
      once = rw (numbers_of_ids (source_tables schema q.sources)) (tables_once schema [] q.sources passes.tables);
      some_item = at_least (bound_item schema) q.items written.some_item;
      conds = All-map (IsBoundCond schema (table_ids (source_tables schema q.sources))) (bound_condition schema) (all_conditions q)
          (λ k d below. condition_bound schema (table_ids (source_tables schema q.sources)) (get_or (all_conditions q) k d)
          (passes.conds k d below) (used.conds k d below) (fits.conds k d below));
      selected = selected schema q written fits used (has_group q) refl passes.items;
      few_nodes = ltb-false 64 (node_count schema (bound_query schema q)) (passed _ TooManyNodes 0 passes.nodes);
    }

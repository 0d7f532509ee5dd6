-- Where a query has no fault, each part of it passes.
use Rattle.std.proofs.Common.{◌≡◌, ℕ, Bool, true, false, All, None, refl}
use Rattle.base_laws.proofs.FirstLaws.{none_left, first_of-none}
use Rattle.mq_base.specs.declared.schema.Schema.{Schema}
use Rattle.sql_reader.specs.Syntax.{Query}
use Rattle.query_bind.specs.declared.refusal.BindCode.{BindCode}
use Rattle.query_bind.specs.Lookup.{source_tables, all_columns, all_conditions}
use Rattle.query_bind.specs.Bound.{bound_query}
use Rattle.query_bind.specs.Faults.{fault_if, sources_fault, column_fault, columns_fault, condition_fault, conditions_fault, items_fault, nodes_fault}
use Rattle.query_bind.specs.Outcome.{first_fault}

-- a test that finds no fault
pub passed : (wrong : Bool) (code : BindCode) (at : ℕ) → fault_if wrong code at ≡ None → wrong ≡ false
passed true code at none = cc
passed false code at none = refl

-- each part of the query passes
pub record Passes (schema : Schema) (q : Query) : Type 0 where
  pub tables : sources_fault schema q ≡ None
  pub columns : All (λ c. column_fault schema (source_tables schema q.sources) c ≡ None) (all_columns q)
  pub conds : All (λ c. condition_fault schema c ≡ None) (all_conditions q)
  pub items : items_fault schema q ≡ None
  pub nodes : nodes_fault schema (bound_query schema q) ≡ None

pub passes_each : (schema : Schema) (q : Query) → first_fault schema q ≡ None → Passes schema q
unfolding columns_fault conditions_fault
passes_each schema q none =
    let tables = none_left (sources_fault schema q) _ none in
    let columns = none_left (columns_fault schema (source_tables schema q.sources) q) _ tables.1 in
    let conds = none_left (conditions_fault schema q) _ columns.1 in
    let items = none_left (items_fault schema q) (nodes_fault schema (bound_query schema q)) conds.1 in
    record {
      tables = tables.0;
      columns = first_of-none (column_fault schema (source_tables schema q.sources)) (all_columns q) columns.0;
      conds = first_of-none (condition_fault schema) (all_conditions q) conds.0;
      items = items.0;
      nodes = items.1;
    }

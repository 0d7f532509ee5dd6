-- What binding a query to a schema comes to: the query with ids, or the first fault. This is what `bind` promises.
-- docs/FORMATS.md, "Query", tells it in prose.
use Rattle.std.specs.Prelude.{Option, Result}
use Rattle.std.specs.Option.{option_or}
use Rattle.base_laws.specs.Firsts.{judged}
use Rattle.mq_base.specs.declared.query as query
use Rattle.mq_base.specs.declared.refusal.Refusal.{Refusal}
use Rattle.mq_base.specs.declared.schema.Schema.{Schema}
use Rattle.sql_reader.specs.Syntax.{Query}
use Rattle.query_bind.specs.Bound.{bound_query}
use Rattle.query_bind.specs.Faults.{columns_fault, conditions_fault, items_fault, nodes_fault, sources_fault}
use Rattle.query_bind.specs.Lookup.{source_tables}

-- the first fault: of the tables, the columns, the conditions, the items, and then of the number of nodes
abbrev pub first_fault : Schema → Query → Option Refusal
first_fault schema q =
    option_or (sources_fault schema q)
    (option_or (columns_fault schema (source_tables schema q.sources) q)
    (option_or (conditions_fault schema q)
    (option_or (items_fault schema q) (nodes_fault schema (bound_query schema q)))))

-- the query with ids, or its first fault
unfoldable pub bind_outcome : Schema → Query → Result query.Query.Query Refusal
bind_outcome schema q = judged (first_fault schema q) (bound_query schema q)

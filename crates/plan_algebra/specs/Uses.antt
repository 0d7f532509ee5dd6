-- Which attributes the plan of a query uses. docs/FORMATS.md, "Plan", tells it in prose.
use Rattle.std.specs.Prelude.{◌≡◌, ℕ, ◌<◌, true, length}
use Rattle.base_laws.specs.Sets.{has}
use Rattle.mq_base.specs.declared.plan.Plan.{Plan}
use Rattle.mq_base.specs.declared.query.Query.{Query}
use Rattle.mq_base.specs.declared.schema.Schema.{Schema}
use Rattle.mq_base.specs.BoundQuery.{IsOfTables}
use Rattle.mq_base.specs.Nodes.{used_set}
use Rattle.plan_algebra.specs.Facts.{leaves_set}

-- the plan uses what the query names and nothing else; each of these is an attribute of the query's tables, and of the schema
pub record UsesOf (schema : Schema) (q : Query) (plan : Plan) : Type 0 where
  pub named : leaves_set plan.nodes ≡ used_set q
  pub of_tables : (a : ℕ) → has (leaves_set plan.nodes) a ≡ true → IsOfTables schema q.tables (record { 0 = a })
  pub of_schema : (a : ℕ) → has (leaves_set plan.nodes) a ≡ true → a < length schema.attrs

-- What each step of an extended plan costs, as a whole number without bound, and cut. docs/MODEL.md, "Estimates and costs", has the
-- same table in prose.
use Rattle.std.specs.Prelude.{ℕ, ◌+◌, ◌*◌, ◌-◌, ◌^◌, Bool, true, false, List, [], min, Some, None, slice_get, slice_index, slice_index_or, if◌then◌else◌}
use Rattle.std.specs.List.{sum_by}
use Rattle.std.specs.Option.{option_map_or}
use Rattle.base_laws.specs.Sets.{has, members}
use Rattle.mq_base.specs.declared.plan.PlanNode.{PlanNode}
use Rattle.mq_base.specs.declared.plan.PlanOp.{PlanOp}
use Rattle.mq_base.specs.declared.plan.PlanOp.TheVariants as op
use Rattle.mq_base.specs.declared.plan.Step.{Step}
use Rattle.mq_base.specs.declared.plan.Step.TheVariants as step
use Rattle.mq_base.specs.declared.schema.AttrInfo.{AttrInfo}
use Rattle.mq_base.specs.declared.schema.Schema.{Schema}
use Rattle.mq_base.specs.declared.value.ValueType.{ValueType}
use Rattle.mq_base.specs.declared.value.ValueType.TheVariants.{Int}
use Rattle.plan_algebra.specs.declared.facts.NodeFacts.{NodeFacts}
use Rattle.plan_algebra.specs.declared.kind.Kind.{Kind}
use Rattle.plan_algebra.specs.declared.kind.Kind.TheVariants as kind
use Rattle.plan_algebra.specs.Facts.{facts_at, node_at}
use Rattle.plan_algebra.specs.Kinds.{kind_of}
use Rattle.relation_profile.specs.declared.view.View.{View}
use Rattle.key_clusters.specs.declared.assigned.Clusters.{Clusters}
use Rattle.key_clusters.specs.Keys.{scheme_at}
use Rattle.policy_base.specs.declared.prices.Prices.{Prices}
use Rattle.cost_model.specs.declared.costs.CostBase.{CostBase}
use Rattle.cost_model.specs.Sizes.{cell_bytes, cell_units}

-- what costs are reckoned from: the nodes of a plan with their facts and estimates, the clusters, the prices and the schema
pub record Basis : Type 0 where
  pub nodes : List PlanNode
  pub facts : List NodeFacts
  pub rows : List ℕ
  pub clusters : Clusters
  pub prices : Prices
  pub schema : Schema

-- the parts of a basis of the program
abbrev pub basis_of : CostBase → Basis
basis_of base = record {
  nodes = base.facts.now.plan.nodes;
  facts = base.facts.now.nodes;
  rows = base.estimates.now.rows;
  clusters = base.clusters.now;
  prices = base.prices.now;
  schema = base.schema.now;
}

-- a number cut at the largest of 128 bits
abbrev pub cut : ℕ → ℕ
cut n = min n (2 ^ 128 - 1)

-- the type of an attribute; one that the schema does not have counts as a whole number
abbrev pub type_at : Schema → ℕ → ValueType
type_at schema a = option_map_or (λ (info : AttrInfo). info.ty) (slice_get schema.attrs a) Int

-- the price of sending a byte from a subject to another
abbrev pub net_of : Prices → ℕ → ℕ → ℕ
net_of prices from to = slice_index (slice_index_or prices.net from []) to

-- the bytes of a cell of an attribute: plain, or under its scheme where the view has it encrypted
abbrev pub bytes_at : Basis → View → ℕ → ℕ
bytes_at base view a =
    cell_bytes (type_at base.schema a) (if has view.enc.0 a then Some (scheme_at base.clusters a) else None)

-- the bytes of a row's cells of these attributes
abbrev pub cells : Basis → ℕ → View → ℕ
cells base set view = sum_by (bytes_at base view) (members set)

-- the bytes of the count column, where there is one
abbrev pub count_bytes : Bool → ℕ
count_bytes true = 8
count_bytes false = 0

-- the bytes of a row of a node's table
abbrev pub width : Basis → ℕ → View → ℕ
width base n view = cells base (facts_at base.facts n).visible.0 view + count_bytes (facts_at base.facts n).count

-- the rows that are handled in doing an operation on two operands: a product's own, and of a join those of its operands as well
abbrev pub both_handled : PlanOp → ℕ → ℕ → ℕ → ℕ
both_handled op.Product left right made = made
both_handled _ left right made = left + right + made

-- the rows that are handled in doing node n, by its kind: those of its one operand, or those of two
abbrev pub handled_by : (ℕ → ℕ) → ℕ → PlanOp → Kind → ℕ
handled_by rows n op kind.Leaf = 0
handled_by rows n op (kind.One x) = rows x.0
handled_by rows n op (kind.Two x y) = both_handled op (rows x.0) (rows y.0) (rows n)

abbrev pub handled : Basis → ℕ → ℕ
handled base n = handled_by (slice_index base.rows) n (node_at base.nodes n).op (kind_of (node_at base.nodes n))

-- the cost of sealing or opening an attribute of the table of node n, at a holder
abbrev pub sealing : Basis → ℕ → ℕ → ℕ → ℕ
sealing base a holder n =
    slice_index base.rows n * cell_units (scheme_at base.clusters a) (type_at base.schema a) * slice_index base.prices.cpu holder

-- the bytes of the table of node n
abbrev pub load : Basis → ℕ → View → ℕ
load base n view = slice_index base.rows n * width base n view

-- the cost of sending the table of node n from a subject to another
abbrev pub sending : Basis → ℕ → ℕ → ℕ → View → ℕ
sending base from to n view = load base n view * net_of base.prices from to

-- the cost of doing node n, at a holder
abbrev pub working : Basis → ℕ → ℕ → ℕ
working base holder n = handled base n * slice_index base.prices.cpu holder

-- the cost of a step without bound: of Enc, Dec and Send where this is a view of node n, of the others where the node is theirs
abbrev pub step_work : Basis → Step → ℕ → ℕ → View → ℕ
step_work base (step.Base t) holder n view = 0
step_work base (step.Enc a) holder n view = sealing base a.0 holder n
step_work base (step.Dec a) holder n view = sealing base a.0 holder n
step_work base (step.Send to) holder n view = sending base holder to.0 n view
step_work base (step.Un node) holder n view = working base holder n
step_work base (step.Bin node) holder n view = working base holder n

-- What is asked of a plan so that its runs decode: it compares values of one type, and groups once at most. The plan of a bound query does.
-- docs/MODEL.md, "Encoded run", tells it in prose.
use Rattle.std.specs.Prelude.{◌≡◌, ℕ, ◌<◌, Bool, true, false, List, length, All}
use Rattle.mq_base.specs.declared.ids.AttrId.{AttrId}
use Rattle.mq_base.specs.declared.plan.PlanNode.{PlanNode}
use Rattle.mq_base.specs.declared.plan.PlanOp.{PlanOp}
use Rattle.mq_base.specs.declared.query.Agg.{Agg}
use Rattle.mq_base.specs.declared.query.Cond.{Cond}
use Rattle.mq_base.specs.declared.query.Having.{Having}
use Rattle.mq_base.specs.declared.query.Query.{Query}
use Rattle.mq_base.specs.declared.schema.Schema.{Schema}
use Rattle.mq_base.specs.declared.value.Value.{Value}
use Rattle.mq_base.specs.BoundQuery.{HaveOneType, IsBound, IsSummable, MayHold}
use Rattle.plan_algebra.specs.Facts.{node_at}
use Rattle.plan_algebra.specs.Nodes.{nodes_of}
use Rattle.plan_algebra.specs.Plan.{plan_tree}
use Rattle.sealed_column.specs.Seal.{HasBytes}
use Rattle.mq_base.specs.declared.plan.PlanOp.TheVariants as op
use Rattle.mq_base.specs.declared.query.Cond.TheVariants as cond
use Rattle.mq_base.specs.declared.query.Having.TheVariants as having

-- a constant is one that a cell of the attribute may hold, made of bytes
pub record IsConstantOf (schema : Schema) (a : AttrId) (x : Value) : Type 0 where
  pub held : MayHold schema a x
  pub bytes : HasBytes x

-- an operation compares values of one type, and sums only INT
abbrev pub IsTypedOp : Schema → PlanOp → Type 0
IsTypedOp schema (op.SelConst a cmp x) = IsConstantOf schema a x
IsTypedOp schema (op.SelAttr a cmp b) = HaveOneType schema a b
IsTypedOp schema (op.Join a cmp b) = HaveOneType schema a b
IsTypedOp schema (op.Group by aggs count) = All (λ (p : AttrId × Agg). IsSummable schema p.0 p.1) aggs
IsTypedOp schema _ = Unit {0}

-- whether an operation groups
abbrev pub groups : PlanOp → Bool
groups (op.Group by aggs count) = true
groups _ = false

-- each operation of a plan compares values of one type, and one at most groups
pub record AreTyped (schema : Schema) (nodes : List PlanNode) : Type 0 where
  pub typed : (n : ℕ) → n < length nodes → IsTypedOp schema (node_at nodes n).op
  pub one_group : (m n : ℕ) → m < length nodes → n < length nodes → groups (node_at nodes m).op ≡ true
      → groups (node_at nodes n).op ≡ true → m ≡ n

-- the constants of a condition, and of one of HAVING, are made of bytes
abbrev pub HasByteConstant : Cond → Type 0
HasByteConstant (cond.Const a cmp x) = HasBytes x
HasByteConstant (cond.Attrs a cmp b) = Unit {0}

abbrev pub HasByteBound : Having → Type 0
HasByteBound (having.Const a cmp x) = HasBytes x
HasByteBound (having.Count cmp n) = Unit {0}

-- the constants of a query are
pub record HasByteConstants (q : Query) : Type 0 where
  pub conds : All HasByteConstant q.conds
  pub having : All HasByteBound q.having

-- the plan of a bound query is typed
abbrev pub PlansAreTyped : Type 0
PlansAreTyped = (schema : Schema) (q : Query) → IsBound schema q → HasByteConstants q → AreTyped schema (nodes_of 0 (plan_tree schema q))

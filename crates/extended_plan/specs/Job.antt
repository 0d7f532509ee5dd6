-- The setting of a job, and which states and steps stand at its nodes. docs/MODEL.md, "States", tells it in prose.
use Rattle.std.specs.Prelude.{◌≡◌, ℕ, ◌<◌, true, length, Option, Some, None}
use Rattle.mq_base.specs.declared.ids.NodeId.{NodeId}
use Rattle.mq_base.specs.declared.ids.TableId.{TableId}
use Rattle.mq_base.specs.declared.plan.Step.{Step}
use Rattle.mq_base.specs.declared.plan.Step.TheVariants as step
use Rattle.mq_base.specs.declared.query.Query.{Query}
use Rattle.cost_model.specs.Costs.{cut}
use Rattle.plan_algebra.specs.declared.kind.Kind.{Kind}
use Rattle.plan_algebra.specs.declared.kind.Kind.TheVariants as kind
use Rattle.policy_base.specs.declared.policy.Policy.{Policy}
use Rattle.policy_base.specs.declared.prices.Prices.{Prices}
use Rattle.relation_profile.specs.View.{IsView}
use Rattle.extended_plan.specs.declared.job.Job.{Job}
use Rattle.extended_plan.specs.declared.state.State.{State}
use Rattle.extended_plan.specs.Gains.{Gain, shown}
use Rattle.extended_plan.specs.Parts.{setting_by}
use Rattle.extended_plan.specs.Setting.{Setting, kind_at, known_at, leaf_of}
use Rattle.extended_plan.specs.Validity.{may_hold}

-- the setting of a job
abbrev pub setting_of : Job → Setting
setting_of job = setting_by job.policy.now job.prices.now job.facts job.clusters job.estimates

-- a job of this policy, these prices and this query
pub record IsJobOf (given : Policy) (stated : Prices) (asked : Query) (job : Job) : Type 0 where
  pub policy : job.policy.now ≡ given
  pub prices : job.prices.now ≡ stated
  pub query : job.query.now ≡ asked

-- what a call tells of a gain: the state, and the cost, cut
abbrev pub told : Gain → State × ℕ
told gain = (gain.state, cut gain.cost)

-- a state at a node: a subject of the policy with a view of the node, whether a term reaches it or not
pub record IsStateAt (s : Setting) (n : ℕ) (st : State) : Type 0 where
  pub known : st.holder.0 < length s.policy.subjects
  pub view : IsView (known_at s n) st.view

-- a state at a node, for which its holder may hold the table
pub record IsHeldAt (s : Setting) (n : ℕ) (st : State) : Type 0 where
  pub at : IsStateAt s n st
  pub held : may_hold s st.holder (shown s n st) ≡ true

-- a state at the leaf of a table, which its holder may hold
abbrev pub IsLeafState : Setting → TableId → State → Type 0
IsLeafState s t st = (n : ℕ) → leaf_of s t ≡ Some n → IsHeldAt s n st

-- a state at the operand of a node with one operand, and states at the operands of a node with two
abbrev pub IsOperand : Setting → Kind → State → Type 0
IsOperand s (kind.One x) st = IsStateAt s x.0 st
IsOperand s _ st = ⊥

abbrev pub AreOperands : Setting → Kind → State → State → Type 0
AreOperands s (kind.Two x y) left right = IsStateAt s x.0 left × IsStateAt s y.0 right
AreOperands s _ left right = ⊥

-- the states on which a step with its result at node n is taken: one at n, or those at the operands of n where it does n
abbrev pub IsTakenOn : Setting → NodeId → Step → State → Option State → Type 0
IsTakenOn s n (step.Enc a) st None = IsStateAt s n.0 st
IsTakenOn s n (step.Dec a) st None = IsStateAt s n.0 st
IsTakenOn s n (step.Send to) st None = IsStateAt s n.0 st
IsTakenOn s n (step.Un m) st None = (m ≡ n) × IsOperand s (kind_at s n.0) st
IsTakenOn s n (step.Bin m) st (Some other) = (m ≡ n) × AreOperands s (kind_at s n.0) st other
IsTakenOn s n _ st other = ⊥

-- a step with its result at a node of the plan, on states that it may be taken on
pub record IsStepAt (s : Setting) (n : NodeId) (step : Step) (first : State) (second : Option State) : Type 0 where
  pub node : n.0 < length s.basis.nodes
  pub taken : IsTakenOn s n step first second

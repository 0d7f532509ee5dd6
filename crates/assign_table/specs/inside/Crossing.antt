-- How a state was reached across an attribute, and which attributes are tried from it. docs/MODEL.md, "Search", tells it in prose.
use Rattle.std.specs.Prelude.{◌≡◌, ℕ, ◌+◌, ◌<◌, true, List, Option, Some, None, IfSome}
use Rattle.base_laws.specs.Sets.{has}
use Rattle.mq_base.specs.declared.ids.AttrId.{AttrId}
use Rattle.mq_base.specs.declared.plan.Step.TheVariants as step
use Rattle.cost_model.specs.Costs.{cut, sealing}
use Rattle.extended_plan.specs.declared.state.State.{State}
use Rattle.extended_plan.specs.Gains.{across, crossable}
use Rattle.extended_plan.specs.Setting.{Setting}
use Rattle.assign_table.specs.declared.way.Settled.{Settled}
use Rattle.assign_table.specs.declared.way.Way.{Way}
use Rattle.assign_table.specs.declared.way.Way.TheVariants as way
use Rattle.assign_table.specs.inside.Blocks.{IsFrom}
use Rattle.assign_table.specs.inside.Ways.{IsAttained, settled_at}

-- the attribute across which a way leads, by its encryption or its decryption, and the place from which it does
abbrev pub crossing : Way → Option (AttrId × ℕ)
crossing (way.One (step.Enc a) place) = Some (a, place)
crossing (way.One (step.Dec a) place) = Some (a, place)
crossing _ = None

-- what is gained across an attribute that the holder of a settled state sees plain: the state across it, at the sum with what it costs, cut
abbrev pub crossed_label : Setting → ℕ → ℕ → Settled → ℕ
crossed_label s n a e = cut (e.label + sealing s.basis a e.state.holder.0 n)

-- a state with its label was gained across an attribute from one that was settled before it at its node
pub record IsCrossed (s : Setting) (arena : List Settled) (n from top a place : ℕ) (st : State) (label : ℕ) : Type 0 where
  pub inside : IsFrom from top place
  pub crosses : has (crossable s n (settled_at arena place).state.holder) a ≡ true
  pub state : st ≡ across a (settled_at arena place).state
  pub costs : label ≡ crossed_label s n a (settled_at arena place)

-- a state that was reached in a way across an attribute was gained so
abbrev pub IsTraced : Setting → List Settled → ℕ → ℕ → ℕ → State → ℕ → Way → Type 0
IsTraced s arena n from top st label way = IfSome (crossing way) (λ c. IsCrossed s arena n from top c.0.0 c.1 st label)

-- a state of node n with a label is attained in this way, and traced; it stands at this place, or has those before it to come from, and
-- the block of its node begins at `from`
pub record IsMet (s : Setting) (arena : List Settled) (n base from place : ℕ) (st : State) (label : ℕ) (way : Way) : Type 0 where
  pub attained : IsAttained s arena n base (place + 1) st label way
  pub traced : IsTraced s arena n from place st label way

-- whether an attribute is tried from a state that was reached in a way: where that leads across one, only those before it are
abbrev pub IsTried : Way → ℕ → Type 0
IsTried way a = IfSome (crossing way) (λ c. a < c.0.0)

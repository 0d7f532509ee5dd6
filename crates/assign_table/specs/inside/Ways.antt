-- How a settled state was reached: its way, read back over the arena, is a term.
use Rattle.std.specs.Prelude.{◌≡◌, ℕ, ◌+◌, ◌≤◌, ◌<◌, List, [], ◌∷◌, ◌++◌, length, reverse, Some, slice_get, slice_index_or}
use Rattle.mq_base.specs.declared.ids.AttrId.{AttrId}
use Rattle.mq_base.specs.declared.ids.NodeId.{NodeId}
use Rattle.mq_base.specs.declared.ids.SubjectId.{SubjectId}
use Rattle.mq_base.specs.declared.ids.TableId.{TableId}
use Rattle.mq_base.specs.declared.plan.Step.{Step}
use Rattle.mq_base.specs.declared.plan.Step.TheVariants as step
use Rattle.cost_model.specs.Costs.{cut}
use Rattle.assign_table.specs.declared.way.Settled.{Settled}
use Rattle.assign_table.specs.declared.way.Way.{Way}
use Rattle.assign_table.specs.declared.way.Way.TheVariants as way
use Rattle.extended_plan.specs.declared.state.State.{State}
use Rattle.extended_plan.specs.Setting.{Setting}
use Rattle.extended_plan.specs.States.{cost, state}
use Rattle.extended_plan.specs.Term.{Term, Leaf, Enc, Dec, Send, Un, Bin, spell}
use Rattle.extended_plan.specs.Validity.{StandsAt}

-- the settled state at a place of the arena, where there is one
abbrev pub settled_at : List Settled → ℕ → Settled
settled_at arena w = slice_index_or arena w (record {
  state = record { holder = record { 0 = 0 }; view = record { enc = record { 0 = 0 }; ip = record { 0 = 0 }; ie = record { 0 = 0 } } };
  label = 0;
  way = way.Leaf (record { 0 = 0 });
})

-- a way leads to a term: its step, taken on the terms to which the ways of its operands lead
pub data Leads (arena : List Settled) : Way → Term → Type 0 where
  to_leaf : (t : TableId) → Leads arena (way.Leaf t) (Leaf t)
  to_enc : (a : AttrId) (w : ℕ) (e : Settled) (x : Term) → slice_get arena w ≡ Some e → Leads arena e.way x → Leads arena (way.One (step.Enc a) w) (Enc a x)
  to_dec : (a : AttrId) (w : ℕ) (e : Settled) (x : Term) → slice_get arena w ≡ Some e → Leads arena e.way x → Leads arena (way.One (step.Dec a) w) (Dec a x)
  to_send : (r : SubjectId) (w : ℕ) (e : Settled) (x : Term) → slice_get arena w ≡ Some e → Leads arena e.way x → Leads arena (way.One (step.Send r) w) (Send r x)
  to_one : (n : NodeId) (w : ℕ) (e : Settled) (x : Term) → slice_get arena w ≡ Some e → Leads arena e.way x → Leads arena (way.One (step.Un n) w) (Un n x)
  to_two : (n : NodeId) (v w : ℕ) (e f : Settled) (x y : Term) → slice_get arena v ≡ Some e → slice_get arena w ≡ Some f
      → Leads arena e.way x → Leads arena f.way y → Leads arena (way.Two n v w) (Bin n x y)

-- the ways in a list lead to these terms, each to its own
abbrev pub AllLead : List Settled → List Way → List Term → Type 0
AllLead arena [] [] = Unit {0}
AllLead arena (way ∷ ways) (x ∷ xs) = Leads arena way x × AllLead arena ways xs
AllLead arena _ _ = ⊥

-- the steps of several terms in turn
abbrev pub spell_all : List Term → List Step
spell_all [] = []
spell_all (x ∷ xs) = spell x ++ spell_all xs

-- a way leads to a term of at most so many steps
pub record LeadsWithin (arena : List Settled) (way : Way) (most : ℕ) : Type 0 where
  pub term : Term
  pub leads : Leads arena way term
  pub few : length (spell term) ≤ most

-- the steps of a term, where the last of them are told, from the end back, and these ways lead to the terms that spell the others
pub record IsToldTo (arena : List Settled) (ways : List Way) (told whole : List Step) : Type 0 where
  pub terms : List Term
  pub lead : AllLead arena ways terms
  pub spells : spell_all terms ++ reverse told ≡ whole

-- a state of node n with a label, reached in this way: a term stands at the node in the state at this cost, cut, and its steps
-- are no more than the places of the arena from `base` up to `top`
pub record IsAttained (s : Setting) (arena : List Settled) (n base top : ℕ) (st : State) (label : ℕ) (way : Way) : Type 0 where
  pub term : Term
  pub leads : Leads arena way term
  pub stands : StandsAt s n term
  pub arrives : state s term ≡ st
  pub costs : label ≡ cut (cost s term)
  pub short : length (spell term) + base ≤ top

-- the last step of the term to which a way leads, the ways of its operands, and that the arena has these
abbrev pub step_of : Way → Step
step_of (way.Leaf t) = step.Base t
step_of (way.One last w) = last
step_of (way.Two n v w) = step.Bin n

abbrev pub operand_ways : List Settled → Way → List Way
operand_ways arena (way.Leaf t) = []
operand_ways arena (way.One last w) = (settled_at arena w).way ∷ []
operand_ways arena (way.Two n v w) = (settled_at arena v).way ∷ (settled_at arena w).way ∷ []

abbrev pub HasOperands : List Settled → Way → Type 0
HasOperands arena (way.Leaf t) = Unit {0}
HasOperands arena (way.One last w) = w < length arena
HasOperands arena (way.Two n v w) = (v < length arena) × (w < length arena)

-- these are the steps of the term to which a way leads
abbrev pub AreStepsOf : List Settled → Way → List Step → Type 0
AreStepsOf arena way steps = (x : Term) → Leads arena way x → spell x ≡ steps

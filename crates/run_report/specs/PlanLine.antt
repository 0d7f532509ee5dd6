-- The plan line of a report. docs/FORMATS.md, "Report", tells its form.
use Rattle.std.specs.Prelude.{ℕ, List, [], ◌∷◌, ◌++◌, map, codes}
use Rattle.serde_json.specs.Data.{Data, unsigned, number, string, array, item, no_items}
use Rattle.serde_json.specs.View.{items_of}
use Rattle.serde_json.specs.Written.{compact_text}
use Rattle.mq_base.specs.declared.plan.Step.{Step}
use Rattle.mq_base.specs.declared.plan.Step.TheVariants as step
use Rattle.policy_base.specs.declared.policy.Policy.{Policy}
use Rattle.policy_base.specs.Names.{attribute_name, subject_name, table_name}

-- a step that names a table, an attribute or a subject: the word of the step and the name
abbrev pub named_step : List ℕ → List ℕ → Data
named_step word name = array (item (string word) (item (string name) no_items))

-- a step that does a node of the plan: the word of the step and the number of the node
abbrev pub node_step : List ℕ → ℕ → Data
node_step word n = array (item (string word) (item (number (unsigned n)) no_items))

-- a step as it is written
abbrev pub step_data : Policy → Step → Data
step_data p (step.Base t) = named_step (codes "base") (table_name p t)
step_data p (step.Enc a) = named_step (codes "enc") (attribute_name p.schema a)
step_data p (step.Dec a) = named_step (codes "dec") (attribute_name p.schema a)
step_data p (step.Send s) = named_step (codes "send") (subject_name p s)
step_data p (step.Un n) = node_step (codes "un") n.0
step_data p (step.Bin n) = node_step (codes "bin") n.0

-- the steps of a plan, in their order
abbrev pub steps_data : Policy → List Step → Data
steps_data p steps = array (items_of (map (step_data p) steps))

-- the plan line
abbrev pub plan_line : Policy → List Step → List ℕ
plan_line p steps = codes "plan " ++ compact_text (steps_data p steps) ++ 10 ∷ []

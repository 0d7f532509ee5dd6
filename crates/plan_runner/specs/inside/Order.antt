-- The nodes that steps do, and the tables that they take, in the order of the list. Only the calls of a run speak of these.
use Rattle.std.specs.Prelude.{ℕ, List, Option, Some, None, filter_map}
use Rattle.extended_plan.specs.Setting.{Setting, leaf_of}
use Rattle.mq_base.specs.declared.ids.TableId.{TableId}
use Rattle.mq_base.specs.declared.plan.Step.{Step}
use Rattle.mq_base.specs.declared.plan.Step.TheVariants as step

-- the node that a step does, where it does one
abbrev pub does : Setting → Step → Option ℕ
does s (step.Base t) = leaf_of s t
does s (step.Un n) = Some n.0
does s (step.Bin n) = Some n.0
does s _ = None

-- the nodes that steps do
abbrev pub done : Setting → List Step → List ℕ
done s steps = filter_map (does s) steps

-- the table that a step takes, where it takes one
abbrev pub takes : Step → Option TableId
takes (step.Base t) = Some t
takes _ = None

-- the tables that steps take
abbrev pub taken : List Step → List TableId
taken steps = filter_map takes steps

-- The profiles for which views of the nodes of a plan stand, and what a node's operation makes of them. docs/MODEL.md, "Relation
-- profile", tells it in prose.
use Rattle.std.specs.Prelude.{ℕ, List, Option, None}
use Rattle.mq_base.specs.declared.plan.PlanOp.{PlanOp}
use Rattle.mq_base.specs.declared.table.Scheme.{Scheme}
use Rattle.plan_algebra.specs.declared.kind.Kind.{Kind}
use Rattle.plan_algebra.specs.declared.kind.Kind.TheVariants as kind
use Rattle.plan_algebra.specs.declared.plan_facts.PlanFacts.{PlanFacts}
use Rattle.plan_algebra.specs.Facts.{facts_at, node_at}
use Rattle.plan_algebra.specs.Kinds.{kind_of}
use Rattle.relation_profile.specs.declared.view.View.{View}
use Rattle.relation_profile.specs.Profile.{Profile}
use Rattle.relation_profile.specs.Runnable.{run_one, run_two}
use Rattle.relation_profile.specs.Steps.{leaf_profile}
use Rattle.relation_profile.specs.View.{IsView, profile_of}

-- the profile for which a view of a node stands
abbrev pub profile_at : PlanFacts → ℕ → View → Profile
profile_at facts n view = profile_of (facts_at facts.nodes n) view

-- a view of a node
abbrev pub IsViewAt : PlanFacts → ℕ → View → Type 0
IsViewAt facts n view = IsView (facts_at facts.nodes n) view

-- the profile of a leaf, where the attributes in a set are sealed at rest
abbrev pub leaf_at : PlanFacts → ℕ → ℕ → Profile
leaf_at facts n rest = leaf_profile rest (facts_at facts.nodes n).visible.0

-- a node with one operand, and a view of that operand
abbrev pub IsOneView : PlanFacts → Kind → View → Type 0
IsOneView facts (kind.One x) view = IsViewAt facts x.0 view
IsOneView facts _ view = ⊥

abbrev pub IsUnary : PlanFacts → ℕ → View → Type 0
IsUnary facts n view = IsOneView facts (kind_of (node_at facts.plan.nodes n)) view

-- a node with two operands, and their views
abbrev pub AreTwoViews : PlanFacts → Kind → View → View → Type 0
AreTwoViews facts (kind.Two x y) left right = IsViewAt facts x.0 left × IsViewAt facts y.0 right
AreTwoViews facts _ left right = ⊥

abbrev pub IsBinary : PlanFacts → ℕ → View → View → Type 0
IsBinary facts n left right = AreTwoViews facts (kind_of (node_at facts.plan.nodes n)) left right

-- the profile after an operation on the operand for which a view stands, where it is runnable
abbrev pub one_after : PlanFacts → List Scheme → PlanOp → Kind → View → Option Profile
one_after facts schemes op (kind.One x) view = run_one schemes op (profile_at facts x.0 view)
one_after facts schemes op _ view = None

abbrev pub unary_after : PlanFacts → List Scheme → ℕ → View → Option Profile
unary_after facts schemes n view =
    one_after facts schemes (node_at facts.plan.nodes n).op (kind_of (node_at facts.plan.nodes n)) view

-- the profile after an operation on the two operands for which views stand, where it is runnable
abbrev pub two_after : PlanFacts → List Scheme → PlanOp → Kind → View → View → Option Profile
two_after facts schemes op (kind.Two x y) left right = run_two schemes op (profile_at facts x.0 left) (profile_at facts y.0 right)
two_after facts schemes op _ left right = None

abbrev pub binary_after : PlanFacts → List Scheme → ℕ → View → View → Option Profile
binary_after facts schemes n left right =
    two_after facts schemes (node_at facts.plan.nodes n).op (kind_of (node_at facts.plan.nodes n)) left right

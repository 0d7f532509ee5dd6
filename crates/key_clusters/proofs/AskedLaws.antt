-- Laws of what operations ask for: one node or function on, and that the ids of a plan's operations are below 64.
use Rattle.std.proofs.Common.{◌≡◌, ℕ, ◌+◌, ◌<◌, ◌≤◌, Bool, true, false, cond, List, ◌∷◌, length, get_or, drop, refl, add-one, bit_or}
use Rattle.std.proofs.lemmas.List.{drop_more, drop_all}
use Rattle.std.proofs.lemmas.List.Elements.{All-weaker}
use Rattle.base_laws.specs.Folds.{union_to}
use Rattle.base_laws.specs.Sets.{with_member, with_members}
use Rattle.mq_base.specs.declared.ids.AttrId.{AttrId}
use Rattle.mq_base.specs.declared.plan.PlanNode.{PlanNode}
use Rattle.mq_base.specs.declared.plan.PlanOp.{PlanOp}
use Rattle.mq_base.specs.declared.plan.PlanOp.TheVariants as op
use Rattle.mq_base.specs.declared.query.Agg.{Agg}
use Rattle.plan_algebra.specs.declared.facts.NodeFacts.{NodeFacts}
use Rattle.plan_algebra.specs.declared.kind.Kind.{Kind}
use Rattle.plan_algebra.specs.declared.kind.Kind.TheVariants as kind
use Rattle.plan_algebra.specs.declared.plan_facts.PlanFacts.{PlanFacts}
use Rattle.plan_algebra.specs.Facts.{IsNodeAt, IsOneOn, IsTwoOn, IsVisible, facts_at, node_at}
use Rattle.plan_algebra.specs.Kinds.{kind_of}
use Rattle.mq_base.specs.Small.{IsSmallAgg}
use Rattle.key_clusters.specs.Asked.{equated_by, extremes, is_extreme, ordered_by}
use Rattle.key_clusters.specs.inside.Small.{IsSmallOp}

-- one node on
pub ordered-more : (nodes : List PlanNode) (i : ℕ)
    → union_to (λ n. ordered_by (node_at nodes n).op) (i + 1)
    ≡ bit_or (union_to (λ n. ordered_by (node_at nodes n).op) i) (ordered_by (node_at nodes i).op)
ordered-more nodes i = rw add-one refl

pub equated-more : (nodes : List PlanNode) (i : ℕ)
    → union_to (λ n. equated_by (node_at nodes n).op) (i + 1)
    ≡ bit_or (union_to (λ n. equated_by (node_at nodes n).op) i) (equated_by (node_at nodes i).op)
equated-more nodes i = rw add-one refl

pub ruleset asked = (ordered-more, equated-more)

-- past a function
function_more : (set : ℕ) (p : AttrId × Agg) (rest : List (AttrId × Agg)) (b : Bool) → is_extreme p.1 ≡ b
    → with_members set (extremes (p ∷ rest)) ≡ with_members (cond b (with_member set p.0.0) set) (extremes rest)
function_more set p rest true extreme = rw extreme refl
function_more set p rest false other = rw other refl

pub functions-more : (set : ℕ) (aggs : List (AttrId × Agg)) (i : ℕ) (d : AttrId × Agg) → i < length aggs
    → with_members set (extremes (drop i aggs))
    ≡ with_members (cond (is_extreme (get_or aggs i d).1) (with_member set (get_or aggs i d).0.0) set) (extremes (drop (i + 1) aggs))
functions-more set aggs i d below =
    rw (drop_more aggs i d below)
    (function_more set (get_or aggs i d) (drop (i + 1) aggs) (is_extreme (get_or aggs i d).1) refl)

pub functions-end : (set : ℕ) (aggs : List (AttrId × Agg)) (i : ℕ) → length aggs ≤ i → with_members set (extremes (drop i aggs)) ≡ set
functions-end set aggs i past = rw (drop_all i aggs past) refl

pub ruleset functions = (functions-more, functions-end)

-- what an operation names is visible in its operands, and so below 64
small_one : (o : PlanOp) (f : NodeFacts) → IsOneOn o f → IsSmallOp o
small_one (op.Project kept) f on = tt
small_one (op.SelConst a cmp x) f on = on.small
small_one (op.SelCount cmp n) f on = tt
small_one (op.SelAttr a cmp b) f on = (on.0.small, on.1.small)
small_one (op.Group by aggs count) f on =
    All-weaker (λ (p : AttrId × Agg). IsVisible f p.0) IsSmallAgg (λ p visible. visible.small) aggs on.0.under
small_one _ f on = absurd on

small_two : (o : PlanOp) (f g : NodeFacts) → IsTwoOn o f g → IsSmallOp o
small_two op.Product f g on = tt
small_two (op.Join a cmp b) f g on = (on.1.small, on.2.small)
small_two _ f g on = absurd on

small_node : (facts : ℕ → NodeFacts) (n : ℕ) (o : PlanOp) (k : Kind) → IsNodeAt facts n o k → IsSmallOp o
small_node facts n (op.Base t used) kind.Leaf at = tt
small_node facts n _ kind.Leaf at = absurd at
small_node facts n o (kind.One x) at = small_one o (facts x.0) at.stands
small_node facts n o (kind.Two x y) at = small_two o (facts x.0) (facts y.0) at.stands

pub small-op : (facts : PlanFacts) (n : ℕ) → n < length facts.plan.nodes → IsSmallOp (node_at facts.plan.nodes n).op
small-op facts n below =
    small_node (facts_at facts.nodes) n (node_at facts.plan.nodes n).op (kind_of (node_at facts.plan.nodes n)) (facts.are_facts.node n below)

pub ruleset small = (small-op)

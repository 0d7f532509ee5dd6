-- The setting of a task is determined by the task, and what is found under a setting excludes all else.
use Rattle.std.proofs.Common.{◌≡◌, ℕ, zero, suc, ◌-◌, ◌<◌, ◌⊎◌, inl, inr, List, map, length, sym, ap, ◌∙◌, subst, arith, ext_get_or}
use Rattle.std.specs.List.{range_with_len}
use Rattle.std.proofs.lemmas.List.Elements.{All-weaker}
use Rattle.assign_table.specs.Found.{HasFew}
use Rattle.command_input.specs.declared.task.RunTask.{RunTask}
use Rattle.command_input.specs.declared.task.Task.TheVariants as task
use Rattle.cost_model.specs.Estimates.{estimates_of, padded}
use Rattle.extended_plan.proofs.ViewLaws.{node_is}
use Rattle.extended_plan.specs.Setting.{Setting, root}
use Rattle.extended_plan.specs.States.{HasTooMany, IsFirstTooMany, IsSpotOf}
use Rattle.key_clusters.specs.declared.assigned.Clusters.{Clusters}
use Rattle.key_clusters.specs.Asked.{equated_set, ordered_set}
use Rattle.key_clusters.specs.Clusters.{ceiling_of, least_of, set_of, smaller, wanted}
use Rattle.mq_base.specs.declared.attr_set.AttrSet.{AttrSet}
use Rattle.mq_base.specs.declared.ids.AttrId.{AttrId}
use Rattle.mq_base.specs.declared.ids.NodeId.{NodeId}
use Rattle.mq_base.specs.declared.plan.PlanNode.{PlanNode}
use Rattle.mq_base.specs.declared.plan.PlanOp.{PlanOp}
use Rattle.mq_base.specs.declared.plan.PlanOp.TheVariants as op
use Rattle.mq_base.specs.declared.query.Query.{Query}
use Rattle.mq_base.specs.declared.table.PlainTable.{PlainTable}
use Rattle.mq_base.specs.declared.table.Scheme.{Scheme}
use Rattle.plan_algebra.specs.declared.facts.NodeFacts.{NodeFacts}
use Rattle.plan_algebra.specs.declared.kind.Kind.{Kind}
use Rattle.plan_algebra.specs.declared.kind.Kind.TheVariants as kind
use Rattle.plan_algebra.specs.Facts.{IsFacts, IsLeafAt, IsNodeAt, facts_at, leaf_facts, node_at, one_facts, two_facts}
use Rattle.plan_algebra.specs.Kinds.{kind_of}
use Rattle.provider_engine.specs.Wide.{IsWide}
use Rattle.policy_base.specs.declared.policy.Policy.{Policy}
use Rattle.policy_base.specs.declared.prices.Prices.{Prices}
use Rattle.row_algebra.specs.Contents.{contents_of}
use Rattle.planner_cli.specs.declared.status.Status.{Status}
use Rattle.planner_cli.specs.declared.status.Status.TheVariants as status
use Rattle.planner_cli.specs.Ends.{IsSettingOf, EndsUnder, planned, unplanned, crowded, dear, wide, HaveOneStatus}

-- the facts of a node are determined by those of the nodes before it
leaf_same : (f g : ℕ → NodeFacts) (n : ℕ) (o : PlanOp) → IsLeafAt f n o → IsLeafAt g n o → f n ≡ g n
leaf_same f g n (op.Base t used) left right = left ∙ sym right
leaf_same f g n _ left right = absurd left

node_same : (f g : ℕ → NodeFacts) (n : ℕ) (o : PlanOp) (k : Kind) → ((m : ℕ) → m < n → f m ≡ g m) → IsNodeAt f n o k → IsNodeAt g n o k → f n ≡ g n
node_same f g n o kind.Leaf before left right = leaf_same f g n o left right
node_same f g n o (kind.One x) before left right = left.are ∙ ap (one_facts o) (before x.0 left.below) ∙ sym right.are
node_same f g n o (kind.Two x y) before left right =
    let first : f x.0 ≡ g x.0 = before x.0 (omega (arith, left.left_below, left.right_below)) in
    let second : f y.0 ≡ g y.0 = before y.0 left.right_below in
    left.are ∙ ap (λ a. two_facts o a (f y.0)) first ∙ ap (two_facts o (g x.0)) second ∙ sym right.are

-- a plan has one list of facts
facts_below : (nodes : List PlanNode) (f g : List NodeFacts) → IsFacts nodes f → IsFacts nodes g → (m n : ℕ) → n < m → n < length nodes
    → facts_at f n ≡ facts_at g n
facts_below nodes f g left right zero n small below = absurd (omega (arith, small))
facts_below nodes f g left right (suc m) n small below =
    node_same (facts_at f) (facts_at g) n (node_at nodes n).op (kind_of (node_at nodes n))
    (λ k before. facts_below nodes f g left right m k (omega (arith, small, before)) (omega (arith, below, before)))
    (left.node n below) (right.node n below)

facts_same : (nodes : List PlanNode) (f g : List NodeFacts) → IsFacts nodes f → IsFacts nodes g → f ≡ g
facts_same nodes f g left right =
    ext_get_or (leaf_facts (record { 0 = 0 })) f g (left.for_each ∙ sym right.for_each)
    (λ n below. facts_below nodes f g left right (length nodes) n (omega (arith, left.for_each, below)) (omega (arith, left.for_each, below)))

clusters_same : (one other : Clusters) → one.cluster ≡ other.cluster → one.scheme ≡ other.scheme → one ≡ other
clusters_same one other cluster scheme =
    ap (λ (c : List AttrId). record { cluster = c; scheme = one.scheme }) cluster
    ∙ ap (λ (s : List Scheme). record { cluster = other.cluster; scheme = s }) scheme

-- clusters and schemes, and the setting, as functions of the nodes and their facts
abbrev root_of : List PlanNode → List NodeFacts → List AttrSet
root_of ns fs = (facts_at fs (length ns - 1)).eq

abbrev clusters_by : List PlanNode → List NodeFacts → List AttrId
clusters_by ns fs = map (λ a. least_of (set_of (root_of ns fs) a)) (range_with_len 0 64)

abbrev schemes_by : List Scheme → List PlanNode → List NodeFacts → List Scheme
schemes_by ceilings ns fs =
    map (λ a. smaller (wanted (ordered_set ns) (equated_set ns) (set_of (root_of ns fs) a)) (ceiling_of ceilings (set_of (root_of ns fs) a)))
    (range_with_len 0 64)

abbrev made_by : Policy → Prices → List PlanNode → List NodeFacts → List ℕ → Clusters → Setting
made_by p prices ns fs rows clusters = record {
  policy = p;
  basis = record { nodes = ns; facts = fs; rows = rows; clusters = clusters; prices = prices; schema = p.schema };
}

-- a task has one setting
pub settings_same : (t : RunTask) (s other : Setting) → IsSettingOf t s → IsSettingOf t other → s ≡ other
settings_same t s other one two =
    let nodes : one.facts.plan.nodes ≡ two.facts.plan.nodes = one.planned ∙ sym two.planned in
    let facts : one.facts.nodes ≡ two.facts.nodes =
    facts_same two.facts.plan.nodes one.facts.nodes two.facts.nodes
    (subst (λ (ns : List PlanNode). IsFacts ns one.facts.nodes) nodes one.facts.are_facts) two.facts.are_facts in
    let cluster : one.clusters.cluster ≡ two.clusters.cluster =
    one.clustered.cluster ∙ ap (λ (ns : List PlanNode). clusters_by ns one.facts.nodes) nodes
    ∙ ap (λ (fs : List NodeFacts). clusters_by two.facts.plan.nodes fs) facts ∙ sym two.clustered.cluster in
    let scheme : one.clusters.scheme ≡ two.clusters.scheme =
    one.clustered.scheme ∙ ap (λ (ns : List PlanNode). schemes_by t.policy.ceiling ns one.facts.nodes) nodes
    ∙ ap (λ (fs : List NodeFacts). schemes_by t.policy.ceiling two.facts.plan.nodes fs) facts ∙ sym two.clustered.scheme in
    let clusters : one.clusters ≡ two.clusters = clusters_same one.clusters two.clusters cluster scheme in
    let rows : one.estimates.rows ≡ two.estimates.rows =
    one.estimated ∙ ap (λ (ns : List PlanNode). padded (estimates_of t.prices ns)) nodes ∙ sym two.estimated in
    one.made
    ∙ ap (λ (ns : List PlanNode). made_by t.policy t.prices ns one.facts.nodes one.estimates.rows one.clusters) nodes
    ∙ ap (λ (fs : List NodeFacts). made_by t.policy t.prices two.facts.plan.nodes fs one.estimates.rows one.clusters) facts
    ∙ ap (λ (rs : List ℕ). made_by t.policy t.prices two.facts.plan.nodes two.facts.nodes rs one.clusters) rows
    ∙ ap (λ (cs : Clusters). made_by t.policy t.prices two.facts.plan.nodes two.facts.nodes two.estimates.rows cs) clusters
    ∙ sym two.made

-- where too many states are reached up to some node, they are up to the root
many_at_root : (s : Setting) (n : ℕ) → HasTooMany s n → HasTooMany s (root s)
many_at_root s n many = record {
  spots = many.spots;
  more = many.more;
  differ = many.differ;
  reached = All-weaker (IsSpotOf s n) (IsSpotOf s (root s))
      (λ spot is. record {
        early = let below = node_is s is.reached.term spot.node is.reached.reaches.stands.gives in omega (arith, below);
        reached = is.reached;
      }) many.spots many.reached;
}

few_not_many : {A : Type 0} (s : Setting) (n : ℕ) → HasFew s → IsFirstTooMany s n → A
few_not_many s n few many = absurd (few (many_at_root s n many.many))

-- the least number of a kind is one
least_same : (P : ℕ → Type 0) (n m : ℕ) → P n → P m → ((k : ℕ) → k < n → P k → ⊥) → ((k : ℕ) → k < m → P k → ⊥) → n ≡ m
least_same P n m here there first_here first_there = by_order (order n m)
  where
    order : (n m : ℕ) → (n < m) ⊎ ((m < n) ⊎ (n ≡ m))
    order n m = grind arith

    by_order : (n < m) ⊎ ((m < n) ⊎ (n ≡ m)) → n ≡ m
    by_order (inl below) = absurd (first_there n below here)
    by_order (inr (inl below)) = absurd (first_here m below there)
    by_order (inr (inr same)) = same

same_node : (n m : NodeId) → n.0 ≡ m.0 → n ≡ m
same_node n m same = ap (λ k. record { 0 = k }) same

-- two ends under one setting have one status
module _ (s : Setting) (q : Query) (tables : List PlainTable) {end other : Status} {text other_text : List ℕ} where
  ends_agree : EndsUnder s q tables end text → EndsUnder s q tables other other_text → end ≡ other
  ends_agree (planned steps least p is same) (planned steps_too least_too p_too is_too same_too) = is ∙ sym is_too
  ends_agree (planned steps least p is same) (unplanned none is_too same_too) =
      absurd (none.none p.plan.term p.plan.valid)
  ends_agree (planned steps least p is same) (crowded n many is_too same_too) = few_not_many s n.0 p.few many
  ends_agree (planned steps least p is same) (dear d is_too same_too) =
      absurd (let high = d.costs.all p.plan.term p.plan.valid in omega (arith, high, p.plan.costs, p.within))
  ends_agree (planned steps least p is same) (wide n w is_too same_too) =
      absurd (p.narrow n.0 w.wide.below w.wide.wide)
  ends_agree (unplanned none is same) (planned steps least p is_too same_too) =
      absurd (none.none p.plan.term p.plan.valid)
  ends_agree (unplanned none is same) (unplanned none_too is_too same_too) = is ∙ sym is_too
  ends_agree (unplanned none is same) (crowded n many is_too same_too) = few_not_many s n.0 none.few many
  ends_agree (unplanned none is same) (dear d is_too same_too) = absurd (none.none d.costs.term d.costs.valid)
  ends_agree (unplanned none is same) (wide n w is_too same_too) = absurd (none.none w.term w.valid)
  ends_agree (crowded n many is same) (planned steps least p is_too same_too) = few_not_many s n.0 p.few many
  ends_agree (crowded n many is same) (unplanned none is_too same_too) = few_not_many s n.0 none.few many
  ends_agree (crowded n many is same) (crowded m many_too is_too same_too) =
      let node : n ≡ m = same_node n m (least_same (HasTooMany s) n.0 m.0 many.many many_too.many many.first many_too.first) in
      is ∙ ap (λ (k : NodeId). status.TooManyStates k) node ∙ sym is_too
  ends_agree (crowded n many is same) (dear d is_too same_too) = few_not_many s n.0 d.few many
  ends_agree (crowded n many is same) (wide m w is_too same_too) = few_not_many s n.0 w.few many
  ends_agree (dear d is same) (planned steps least p is_too same_too) =
      absurd (let high = d.costs.all p.plan.term p.plan.valid in omega (arith, high, p.plan.costs, p.within))
  ends_agree (dear d is same) (unplanned none is_too same_too) = absurd (none.none d.costs.term d.costs.valid)
  ends_agree (dear d is same) (crowded n many is_too same_too) = few_not_many s n.0 d.few many
  ends_agree (dear d is same) (dear d_too is_too same_too) = is ∙ sym is_too
  ends_agree (dear d is same) (wide n w is_too same_too) =
      absurd (let high = d.costs.all w.term w.valid in omega (arith, high, w.within))
  ends_agree (wide n w is same) (planned steps least p is_too same_too) =
      absurd (p.narrow n.0 w.wide.below w.wide.wide)
  ends_agree (wide n w is same) (unplanned none is_too same_too) = absurd (none.none w.term w.valid)
  ends_agree (wide n w is same) (crowded m many is_too same_too) = few_not_many s m.0 w.few many
  ends_agree (wide n w is same) (dear d is_too same_too) =
      absurd (let high = d.costs.all w.term w.valid in omega (arith, high, w.within))
  ends_agree (wide n w is same) (wide m w_too is_too same_too) =
      let node : n ≡ m =
      same_node n m (least_same (λ k. IsWide (contents_of s.policy.schema tables) s.basis.nodes k) n.0 m.0
      w.wide.wide w_too.wide.wide w.wide.first w_too.wide.first) in
      is ∙ ap (λ (k : NodeId). status.RowRange k) node ∙ sym is_too

-- two ends of one task have one status
pub one_status : HaveOneStatus
one_status (task.Run t) end other text other_text one two =
    let same : two.setting ≡ one.setting = settings_same t two.setting one.setting two.is one.is in
    ends_agree one.setting t.query t.tables one.ends
    (subst (λ (s : Setting). EndsUnder s t.query t.tables other other_text) same two.ends)

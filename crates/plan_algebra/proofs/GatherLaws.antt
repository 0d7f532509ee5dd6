-- Laws of the facts as they are gathered: one node on and at the end, and that they are the facts of a plan.
use Rattle.std.proofs.Common.{◌≡◌, ℕ, ◌+◌, ◌<◌, ◌≤◌, List, [], ◌∷◌, ◌++◌, length, get_or, drop, refl, add-one, bit_or}
use Rattle.std.proofs.lemmas.List.{drop_more, drop_all}
use Rattle.base_laws.specs.Folds.{union_to}
use Rattle.mq_base.specs.declared.plan.PlanNode.{PlanNode}
use Rattle.plan_algebra.specs.declared.facts.NodeFacts.{NodeFacts}
use Rattle.plan_algebra.specs.Facts.{leaf_set, node_at}
use Rattle.plan_algebra.specs.inside.Gathering.{AllStand, Stands, facts_after, node_facts}

-- past a node
pub facts-more : (facts : List NodeFacts) (nodes : List PlanNode) (i : ℕ) (d : PlanNode) → i < length nodes
    → facts_after facts (drop i nodes) ≡ facts_after (facts ++ node_facts facts (get_or nodes i d) ∷ []) (drop (i + 1) nodes)
facts-more facts nodes i d below = rw (drop_more nodes i d below) refl

pub facts-end : (facts : List NodeFacts) (nodes : List PlanNode) (i : ℕ) → length nodes ≤ i → facts_after facts (drop i nodes) ≡ facts
facts-end facts nodes i past = rw (drop_all i nodes past) refl

pub stands-here : (facts : List NodeFacts) (nodes : List PlanNode) (i : ℕ) (d : PlanNode) → i < length nodes
    → AllStand facts (drop i nodes) → Stands facts (get_or nodes i d)
stands-here facts nodes i d below all = (rw (drop_more nodes i d below) at all).0

pub stands-more : (facts : List NodeFacts) (nodes : List PlanNode) (i : ℕ) (d : PlanNode) → i < length nodes
    → AllStand facts (drop i nodes) → AllStand (facts ++ node_facts facts (get_or nodes i d) ∷ []) (drop (i + 1) nodes)
stands-more facts nodes i d below all = (rw (drop_more nodes i d below) at all).1

-- the attributes of the leaves, one node on
pub leaves-more : (nodes : List PlanNode) (i : ℕ)
    → union_to (λ n. leaf_set (node_at nodes n).op) (i + 1) ≡ bit_or (union_to (λ n. leaf_set (node_at nodes n).op) i) (leaf_set (node_at nodes i).op)
leaves-more nodes i = rw add-one refl

pub ruleset gathering = (facts-more, facts-end, stands-here, stands-more, leaves-more)

-- The parts of the job of a query make a setting of which the laws of extended plans hold.
use Rattle.std.proofs.Common.{◌≡◌, ◌≢◌, ℕ, zero, suc, ◌<◌, Bool, true, false, List, [], ◌∷◌, map, length, All, Option, Some, None, refl, ◌∙◌, ap, subst, cond, arith}
use Rattle.std.specs.Prelude.{position, slice_get, slice_index_or, IfSome, nat_lt}
use Rattle.std.specs.List.{cons_option, position_or_len}
use Rattle.std.proofs.lemmas.Bool.Decides.{nat_tests}
use Rattle.std.proofs.lemmas.List.Elements.{All-head, All-map, All-tail, All-weaker}
use Rattle.std.proofs.lemmas.List.Sums.{position_or_len_is}
use Rattle.std.proofs.lemmas.Option.{slice_get-get_or}
use Rattle.mq_base.specs.BoundQuery.{AreDistinct, IsBound}
use Rattle.mq_base.specs.declared.ids.SubjectId.{SubjectId}
use Rattle.mq_base.specs.declared.ids.TableId.{TableId}
use Rattle.mq_base.specs.declared.attr_set.AttrSet.{AttrSet}
use Rattle.mq_base.specs.declared.plan.PlanNode.{PlanNode}
use Rattle.mq_base.specs.declared.plan.PlanOp.{PlanOp}
use Rattle.mq_base.specs.declared.plan.PlanOp.TheVariants as op
use Rattle.mq_base.specs.declared.query.Query.{Query}
use Rattle.cost_model.specs.declared.estimated.Estimates.{Estimates}
use Rattle.key_clusters.specs.declared.assigned.Clusters.{Clusters}
use Rattle.plan_algebra.specs.declared.plan_facts.PlanFacts.{PlanFacts}
use Rattle.plan_algebra.specs.Facts.{node_at}
use Rattle.plan_algebra.specs.Leaves.{leaf_table, leaf_tables}
use Rattle.plan_algebra.specs.Nodes.{leaf_node}
use Rattle.policy_base.specs.Accepted.{IsAccepted}
use Rattle.policy_base.specs.declared.policy.Policy.{Policy}
use Rattle.policy_base.specs.declared.prices.Prices.{Prices}
use Rattle.extended_plan.specs.Parts.{setting_by}
use Rattle.extended_plan.specs.Ready.{IfBase, IsLeafOf, IsReady}
use Rattle.extended_plan.specs.Setting.{Setting, is_base, op_at}

-- the numbers of the tables of leaves
abbrev numbers : List PlanNode → List ℕ
numbers nodes = map (λ (t : TableId). t.0) (leaf_tables nodes)

-- what is said of the leaves of a list is said of those after its first node
rest_holds : (P : ℕ → Type 0) (first : Option TableId) (rest : List TableId) → All P (map (λ (t : TableId). t.0) (cons_option first rest))
    → All P (map (λ (t : TableId). t.0) rest)
rest_holds P None rest all = all
rest_holds P (Some t) rest all = All-tail P t.0 (map (λ (u : TableId). u.0) rest) all

rest_distinct : (first : Option TableId) (rest : List TableId) → AreDistinct (map (λ (t : TableId). t.0) (cons_option first rest))
    → AreDistinct (map (λ (t : TableId). t.0) rest)
rest_distinct None rest distinct = distinct
rest_distinct (Some t) rest distinct = distinct.1

-- what holds of the table of each leaf holds of that of the leaf at a place
leaf_holds : (P : ℕ → Type 0) (nodes : List PlanNode) (n : ℕ) (t : TableId) (used : AttrSet) → All P (numbers nodes) → n < length nodes
    → (node_at nodes n).op ≡ op.Base t used → P t.0
leaf_holds P [] n t used all below is = absurd (omega arith)
leaf_holds P (node ∷ rest) zero t used all below is =
    let found : leaf_table node.op ≡ Some t = ap leaf_table is in
    All-head P t.0 (numbers rest) (subst (λ (first : Option TableId). All P (map (λ (u : TableId). u.0) (cons_option first (leaf_tables rest)))) found all)
leaf_holds P (node ∷ rest) (suc n) t used all below is =
    leaf_holds P rest n t used (rest_holds P (leaf_table node.op) (leaf_tables rest) all) (omega arith) is

-- where no table has two leaves, no earlier node is a leaf of the same table
alone : (nodes : List PlanNode) (k n : ℕ) (t : TableId) (used : AttrSet) → AreDistinct (numbers nodes) → k < n → n < length nodes
    → (node_at nodes n).op ≡ op.Base t used → is_base t (node_at nodes k).op ≡ false
alone [] k n t used distinct before below is = absurd (omega arith)
alone (node ∷ rest) k zero t used distinct before below is = absurd (omega arith)
alone (node ∷ rest) zero (suc n) t used distinct before below is =
    by_op node.op distinct (λ (x : ℕ) all. leaf_holds (λ y. x ≢ y) rest n t used all (omega arith) is)
  where
    by_op : (o : PlanOp) → AreDistinct (map (λ (u : TableId). u.0) (cons_option (leaf_table o) (leaf_tables rest)))
        → ((x : ℕ) → All (λ y. x ≢ y) (numbers rest) → x ≢ t.0) → is_base t o ≡ false
    by_op (op.Base u set) distinct differs = let other : u.0 ≢ t.0 = differs u.0 distinct.0 in grind (arith, nat_tests, other)
    by_op _ distinct differs = refl
alone (node ∷ rest) (suc k) (suc n) t used distinct before below is =
    alone rest k n t used (rest_distinct (leaf_table node.op) (leaf_tables rest) distinct) (omega arith) (omega arith) is

-- so a leaf is the one that is found for its table
found_at : (nodes : List PlanNode) (n : ℕ) (t : TableId) (used : AttrSet) → AreDistinct (numbers nodes) → n < length nodes
    → (node_at nodes n).op ≡ op.Base t used → position (λ (node : PlanNode). is_base t node.op) nodes ≡ Some n
found_at nodes n t used distinct below is =
    let test : PlanNode → Bool = λ (node : PlanNode). is_base t node.op in
    let d : PlanNode = leaf_node (record { 0 = 0 }) (record { 0 = 0 }) in
    let here : is_base t (node_at nodes n).op ≡ true = ap (is_base t) is ∙ grind (arith, nat_tests) in
    let place : position_or_len test nodes ≡ n =
    position_or_len_is test nodes n d (omega arith) (λ k before. alone nodes k n t used distinct before below is) (λ inside. here) in
    let inside : nat_lt n (length nodes) ≡ true = grind (arith, nat_tests) in
    ap (λ i. cond (nat_lt i (length nodes)) (Some i) None) place ∙ rw inside refl

-- the table of a leaf is stored by a subject of the policy
record IsStored (policy : Policy) (t : ℕ) : Type 0 where
  pub placed : t < length policy.store
  pub stored : (slice_index_or policy.store t (record { 0 = 0 })).0 < length policy.subjects

table_stored : (policy : Policy) (t : ℕ) → IsAccepted policy → t < length policy.schema.tables → IsStored policy t
table_stored policy t ok below =
    let placed : t < length policy.store = rw ok.store_each below in
    let none : SubjectId = record { 0 = 0 } in
    let listed : IfSome (slice_get policy.store t) (λ (s : SubjectId). s.0 < length policy.subjects) = ok.stores_listed t in
    record {
      placed = placed;
      stored =
          subst (λ (found : Option SubjectId). IfSome found (λ (s : SubjectId). s.0 < length policy.subjects))
          (slice_get-get_or policy.store t none placed) listed;
    }

-- what is said of a leaf, by its operation
leaf_is : (s : Setting) (n : ℕ) (o : PlanOp) → op_at s n ≡ o
    → ((t : TableId) (used : AttrSet) → op_at s n ≡ op.Base t used → IsLeafOf s n t) → IfBase o (IsLeafOf s n)
leaf_is s n (op.Base t used) is leaf = leaf t used is
leaf_is s n _ is leaf = tt

-- the parts of a job make a setting that is ready
pub parts_ready : (policy : Policy) (prices : Prices) (query : Query) (facts : PlanFacts) (clusters : Clusters) (estimates : Estimates)
    → IsAccepted policy → IsBound policy.schema query → leaf_tables facts.plan.nodes ≡ query.tables
    → IsReady (setting_by policy prices facts clusters estimates)
parts_ready policy prices query facts clusters estimates ok bound leaves =
    let s : Setting = setting_by policy prices facts clusters estimates in
    let numbered : numbers facts.plan.nodes ≡ map (λ (t : TableId). t.0) query.tables = ap (map (λ (t : TableId). t.0)) leaves in
    let distinct : AreDistinct (numbers facts.plan.nodes) = rw numbered bound.once in
    let stored : All (IsStored policy) (numbers facts.plan.nodes) =
    rw numbered (All-map (IsStored policy) (λ (t : TableId). t.0) query.tables
    (All-weaker (λ (t : TableId). t.0 < length policy.schema.tables) (λ (t : TableId). IsStored policy t.0)
    (λ t below. table_stored policy t.0 ok below) query.tables bound.tables)) in
    record {
      plan = facts.is_plan;
      facts = facts.are_facts;
      few_subjects = ok.few_subjects;
      leaves = λ n below. leaf_is s n (op_at s n) refl (λ t used is.
          let kept : IsStored policy t.0 = leaf_holds (IsStored policy) facts.plan.nodes n t used stored below is in
          record { only = found_at facts.plan.nodes n t used distinct below is; placed = kept.placed; stored = kept.stored });
    }

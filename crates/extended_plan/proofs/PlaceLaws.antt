-- What is known of a node that a term gives: a leaf's facts, and the facts of a node by those of its operands.
use Rattle.std.proofs.Common.{◌≡◌, ℕ, ◌<◌, ◌≤◌, Bool, true, false, length, Option, Some, None, if◌then◌else◌, ap, refl, sym, ◌∙◌, ◌⊎◌, inl, inr, arith}
use Rattle.std.specs.Prelude.{slice_index_or}
use Rattle.std.proofs.lemmas.Bool.{eqb-true}
use Rattle.std.proofs.lemmas.List.{get_or_past}
use Rattle.std.proofs.lemmas.List.Quantifiers.{position-Some}
use Rattle.std.proofs.Math.Path.{subst}
use Rattle.base_laws.proofs.BoolLaws.{both}
use Rattle.base_laws.proofs.ListLaws.{position-below}
use Rattle.mq_base.specs.declared.ids.NodeId.{NodeId}
use Rattle.mq_base.specs.declared.ids.TableId.{TableId}
use Rattle.mq_base.specs.declared.plan.PlanNode.{PlanNode}
use Rattle.mq_base.specs.declared.plan.PlanOp.{PlanOp}
use Rattle.mq_base.specs.declared.plan.PlanOp.TheVariants as op
use Rattle.plan_algebra.specs.declared.facts.NodeFacts.{NodeFacts}
use Rattle.plan_algebra.specs.declared.kind.Kind.{Kind}
use Rattle.plan_algebra.specs.declared.kind.Kind.TheVariants as kind
use Rattle.plan_algebra.specs.Facts.{IsNodeAt, IsOneAt, IsTwoAt, leaf_facts, leaf_set}
use Rattle.plan_algebra.specs.Kinds.{kind_of}
use Rattle.plan_algebra.specs.Nodes.{leaf_node}
use Rattle.extended_plan.specs.Ready.{IfBase, IsLeafOf, IsReady}
use Rattle.extended_plan.specs.Setting.{Setting, is_base, kind_at, known_at, leaf_of, op_at, store_of}
use Rattle.extended_plan.specs.Term.{Term, node_of, stands_on, stands_on_both}

-- the facts of a node whose operation is the leaf of a table are those of its set
base_facts : (facts : ℕ → NodeFacts) (n : ℕ) (t : TableId) (operation : PlanOp) (k : Kind) → IsNodeAt facts n operation k
    → is_base t operation ≡ true → facts n ≡ leaf_facts (record { 0 = leaf_set operation })
base_facts facts n t (op.Base u used) kind.Leaf at is = at
base_facts facts n t (op.Base u used) (kind.One x) at is = absurd at.stands
base_facts facts n t (op.Base u used) (kind.Two x y) at is = absurd at.stands
base_facts facts n t _ k at is = cc

-- the leaf of a table is one of the plan
pub leaf_below : (s : Setting) (t : TableId) (n : ℕ) → leaf_of s t ≡ Some n → n < length s.basis.nodes
leaf_below s t n gives = position-below (λ (node : PlanNode). is_base t node.op) s.basis.nodes n gives

-- the facts of the leaf of a table are those of its set
pub leaf_known : (s : Setting) → IsReady s → (t : TableId) (n : ℕ) → leaf_of s t ≡ Some n
    → known_at s n ≡ leaf_facts (record { 0 = leaf_set (op_at s n) })
leaf_known s ready t n gives =
    let found = position-Some (λ (node : PlanNode). is_base t node.op) s.basis.nodes n (leaf_node (record { 0 = 0 }) (record { 0 = 0 })) gives in
    base_facts (known_at s) n t (op_at s n) (kind_at s n) (ready.facts.node n (leaf_below s t n gives)) found.1

-- the subject that stores the table of a leaf is one of the policy
stored_by : (s : Setting) (n : ℕ) (t : TableId) (operation : PlanOp) → IfBase operation (IsLeafOf s n) → is_base t operation ≡ true
    → (store_of s t).0 < length s.policy.subjects
stored_by s n t (op.Base u used) leaf is =
    subst (λ i. (slice_index_or s.policy.store i (record { 0 = 0 })).0 < length s.policy.subjects) (eqb-true u.0 t.0 is) leaf.stored
stored_by s n t _ leaf is = cc

pub leaf_stored : (s : Setting) → IsReady s → (t : TableId) (n : ℕ) → leaf_of s t ≡ Some n → (store_of s t).0 < length s.policy.subjects
leaf_stored s ready t n gives =
    let found = position-Some (λ (node : PlanNode). is_base t node.op) s.basis.nodes n (leaf_node (record { 0 = 0 }) (record { 0 = 0 })) gives in
    stored_by s n t (op_at s n) (ready.leaves n (leaf_below s t n gives)) found.1

-- a node that is no leaf is one of the plan
pub node_below : (s : Setting) (n : ℕ) (k : Kind) → kind_at s n ≡ k → (kind.Leaf ≡ k → ⊥) → n < length s.basis.nodes
node_below s n k is other = by_place (place n (length s.basis.nodes))
  where
    place : (n m : ℕ) → (n < m) ⊎ (m ≤ n)
    place n m = grind arith

    by_place : (n < length s.basis.nodes) ⊎ (length s.basis.nodes ≤ n) → n < length s.basis.nodes
    by_place (inl below) = below
    by_place (inr past) =
        absurd (other (sym (ap kind_of (get_or_past s.basis.nodes n (leaf_node (record { 0 = 0 }) (record { 0 = 0 })) past)) ∙ is))

-- the facts of a node with one operand, and of a node with two
pub one_known : (s : Setting) → IsReady s → (n : ℕ) (x : NodeId) → kind_at s n ≡ kind.One x → IsOneAt (known_at s) n (op_at s n) x.0
one_known s ready n x is =
    subst (IsNodeAt (known_at s) n (op_at s n)) is (ready.facts.node n (node_below s n (kind.One x) is (λ e. cc)))

pub two_known : (s : Setting) → IsReady s → (n : ℕ) (x y : NodeId) → kind_at s n ≡ kind.Two x y
    → IsTwoAt (known_at s) n (op_at s n) x.0 y.0
two_known s ready n x y is =
    subst (IsNodeAt (known_at s) n (op_at s n)) is (ready.facts.node n (node_below s n (kind.Two x y) is (λ e. cc)))

-- a node whose operand is given by a term
pub record IsOnOne (k : Kind) (place : Option ℕ) : Type 0 where
  pub operand : NodeId
  pub kind : k ≡ kind.One operand
  pub gives : place ≡ Some operand.0

pub record IsOnTwo (k : Kind) (left right : Option ℕ) : Type 0 where
  pub left_operand : NodeId
  pub right_operand : NodeId
  pub kind : k ≡ kind.Two left_operand right_operand
  pub left_gives : left ≡ Some left_operand.0
  pub right_gives : right ≡ Some right_operand.0

on_one : (k : Kind) (place : Option ℕ) → stands_on k place ≡ true → IsOnOne k place
on_one (kind.One x) (Some m) on = record { operand = x; kind = refl; gives = ap (λ i. Some i) (sym (eqb-true x.0 m on)) }
on_one (kind.One x) None on = cc
on_one kind.Leaf place on = cc
on_one (kind.Two x y) place on = cc

on_two : (k : Kind) (left right : Option ℕ) → stands_on_both k left right ≡ true → IsOnTwo k left right
on_two (kind.Two x y) (Some m) (Some n) on = record {
  left_operand = x;
  right_operand = y;
  kind = refl;
  left_gives = ap (λ i. Some i) (sym (eqb-true x.0 m (both _ _ on).0));
  right_gives = ap (λ i. Some i) (sym (eqb-true y.0 n (both _ _ on).1));
}
on_two (kind.Two x y) (Some m) None on = cc
on_two (kind.Two x y) None right on = cc
on_two kind.Leaf left right on = cc
on_two (kind.One x) left right on = cc

-- what is given where a test passes
pub gives_tested : (b : Bool) (m n : ℕ) → (if b then Some m else None) ≡ Some n → (b ≡ true) × (m ≡ n)
gives_tested true m n is = (refl, cc)
gives_tested false m n is = cc

pub one_operand : (s : Setting) (m : NodeId) (n : ℕ) (x : Term)
    → (if stands_on (kind_at s m.0) (node_of s x) then Some m.0 else None) ≡ Some n → (m.0 ≡ n) × IsOnOne (kind_at s m.0) (node_of s x)
one_operand s m n x gives =
    let tested = gives_tested (stands_on (kind_at s m.0) (node_of s x)) m.0 n gives in
    (tested.1, on_one (kind_at s m.0) (node_of s x) tested.0)

pub two_operands : (s : Setting) (m : NodeId) (n : ℕ) (x y : Term)
    → (if stands_on_both (kind_at s m.0) (node_of s x) (node_of s y) then Some m.0 else None) ≡ Some n
    → (m.0 ≡ n) × IsOnTwo (kind_at s m.0) (node_of s x) (node_of s y)
two_operands s m n x y gives =
    let tested = gives_tested (stands_on_both (kind_at s m.0) (node_of s x) (node_of s y)) m.0 n gives in
    (tested.1, on_two (kind_at s m.0) (node_of s x) (node_of s y) tested.0)

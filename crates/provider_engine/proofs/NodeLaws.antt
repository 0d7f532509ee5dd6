-- The tree of the node that a term gives, by those of its operands.
use Rattle.std.proofs.Common.{◌≡◌, ℕ, zero, suc, ◌+◌, ◌<◌, true, List, [], ◌∷◌, ◌++◌, length, get_or, Option, Some, None, refl, sym, ◌∙◌, ap, subst, arith}
use Rattle.std.proofs.lemmas.Bool.{eqb-true}
use Rattle.std.proofs.lemmas.List.{get_or_append_left, get_or-append-add, length-append}
use Rattle.std.proofs.lemmas.List.Quantifiers.{position-Some}
use Rattle.extended_plan.proofs.PlaceLaws.{node_below, one_known, two_known}
use Rattle.extended_plan.specs.Ready.{IsReady}
use Rattle.extended_plan.specs.Setting.{Setting, is_base, kind_at, known_at, leaf_of, op_at}
use Rattle.mq_base.specs.declared.attr_set.AttrSet.{AttrSet}
use Rattle.mq_base.specs.declared.ids.NodeId.{NodeId}
use Rattle.mq_base.specs.declared.ids.TableId.{TableId}
use Rattle.mq_base.specs.declared.plan.PlanNode.{PlanNode}
use Rattle.mq_base.specs.declared.plan.PlanOp.{PlanOp}
use Rattle.mq_base.specs.declared.plan.PlanOp.TheVariants as op
use Rattle.plan_algebra.specs.declared.facts.NodeFacts.{NodeFacts}
use Rattle.plan_algebra.specs.declared.kind.Kind.{Kind}
use Rattle.plan_algebra.specs.declared.kind.Kind.TheVariants as kind
use Rattle.plan_algebra.specs.Facts.{IsNodeAt, leaf_set}
use Rattle.plan_algebra.specs.Kinds.{kind_by}
use Rattle.plan_algebra.specs.Nodes.{leaf_by, leaf_node, tree_at, tree_by, trees_after}
use Rattle.plan_algebra.specs.Tree.{Tree, Leaf, One, Two}
use Rattle.provider_engine.specs.Wide.{tree_of_node}

-- ---- the trees of a list of nodes

-- the tree of node n is made of those before it
record IsMadeOf (trees : ℕ → Tree) (n : ℕ) (node : PlanNode) (before : List Tree) : Type 0 where
  count : length before ≡ n
  same : (m : ℕ) → m < n → trees m ≡ tree_at before m
  made : trees n ≡ tree_by before node.op node.left node.right

kept : (nodes : List PlanNode) (ts : List Tree) (m : ℕ) → m < length ts → tree_at (trees_after ts nodes) m ≡ tree_at ts m
kept [] ts m below = refl
kept (node ∷ rest) ts m below =
    let next : List Tree = tree_by ts node.op node.left node.right ∷ [] in
    kept rest (ts ++ next) m (omega (arith, length-append ts next, below)) ∙ get_or_append_left ts next _ m below

made_after : (nodes : List PlanNode) (ts : List Tree) (n : ℕ) (d : PlanNode) → n < length nodes
    → (before : List Tree) × IsMadeOf (tree_at (trees_after ts nodes)) (length ts + n) (get_or nodes n d) before
made_after [] ts n d below = absurd (omega (arith, below))
made_after (node ∷ rest) ts zero d below =
    let next : List Tree = tree_by ts node.op node.left node.right ∷ [] in (
      ts,
      record {
        count = omega arith;
        same = λ m small. kept (node ∷ rest) ts m (omega (arith, small));
        made = kept rest (ts ++ next) (length ts + 0) (omega (arith, length-append ts next)) ∙ get_or-append-add ts next 0 _;
      },
    )
made_after (node ∷ rest) ts (suc n) d below =
    let next : List Tree = tree_by ts node.op node.left node.right ∷ [] in
    let place : length (ts ++ next) + n ≡ length ts + suc n = omega (arith, length-append ts next) in
    let made = made_after rest (ts ++ next) n d (omega (arith, below)) in
    (made.0, subst (λ m. IsMadeOf (tree_at (trees_after (ts ++ next) rest)) m (get_or rest n d) made.0) place made.1)

made_of : (s : Setting) (n : ℕ) → n < length s.basis.nodes
    → (before : List Tree) × IsMadeOf (tree_of_node s.basis.nodes) n (get_or s.basis.nodes n (leaf_node (record { 0 = 0 }) (record { 0 = 0 }))) before
made_of s n below =
    let made = made_after s.basis.nodes [] n (leaf_node (record { 0 = 0 }) (record { 0 = 0 })) below in
    let place : 0 + n ≡ n = omega arith in (
      made.0,
      subst (λ m. IsMadeOf (tree_of_node s.basis.nodes) m (get_or s.basis.nodes n (leaf_node (record { 0 = 0 }) (record { 0 = 0 }))) made.0)
          place made.1,
    )

-- ---- a node with one operand, and with two

one_by : (trees : ℕ → Tree) (n : ℕ) (before : List Tree) (o : PlanOp) (left right : Option NodeId) (x : NodeId)
    → kind_by left right ≡ kind.One x → ((m : ℕ) → m < n → trees m ≡ tree_at before m) → x.0 < n
    → trees n ≡ tree_by before o left right → trees n ≡ One o (trees x.0)
one_by trees n before o None right x is same below made = cc
one_by trees n before o (Some y) (Some z) x is same below made = cc
one_by trees n before o (Some y) None x is same below made =
    let h : y ≡ x = cc in
    made ∙ ap (λ (i : NodeId). One o (tree_at before i.0)) h ∙ ap (One o) (sym (same x.0 below))

two_by : (trees : ℕ → Tree) (n : ℕ) (before : List Tree) (o : PlanOp) (left right : Option NodeId) (x y : NodeId)
    → kind_by left right ≡ kind.Two x y → ((m : ℕ) → m < n → trees m ≡ tree_at before m) → x.0 < n → y.0 < n
    → trees n ≡ tree_by before o left right → trees n ≡ Two o (trees x.0) (trees y.0)
two_by trees n before o None right x y is same below also made = cc
two_by trees n before o (Some z) None x y is same below also made = cc
two_by trees n before o (Some z) (Some w) x y is same below also made =
    let first : z ≡ x = cc in
    let second : w ≡ y = cc in
    made ∙ ap (λ (i : NodeId). Two o (tree_at before i.0) (tree_at before w.0)) first
    ∙ ap (λ (i : NodeId). Two o (tree_at before x.0) (tree_at before i.0)) second
    ∙ ap (λ t. Two o t (tree_at before y.0)) (sym (same x.0 below)) ∙ ap (Two o (trees x.0)) (sym (same y.0 also))

pub one_tree : (s : Setting) → IsReady s → (n : ℕ) (x : NodeId) → kind_at s n ≡ kind.One x
    → tree_of_node s.basis.nodes n ≡ One (op_at s n) (tree_of_node s.basis.nodes x.0)
one_tree s ready n x is =
    let made = made_of s n (node_below s n (kind.One x) is (λ e. cc)) in
    one_by (tree_of_node s.basis.nodes) n made.0 (op_at s n) _ _ x is made.1.same (one_known s ready n x is).below made.1.made

pub two_tree : (s : Setting) → IsReady s → (n : ℕ) (x y : NodeId) → kind_at s n ≡ kind.Two x y
    → tree_of_node s.basis.nodes n ≡ Two (op_at s n) (tree_of_node s.basis.nodes x.0) (tree_of_node s.basis.nodes y.0)
two_tree s ready n x y is =
    let made = made_of s n (node_below s n (kind.Two x y) is (λ e. cc)) in
    let known = two_known s ready n x y is in
    two_by (tree_of_node s.basis.nodes) n made.0 (op_at s n) _ _ x y is made.1.same
    (omega (arith, known.left_below, known.right_below)) known.right_below made.1.made

-- ---- the leaf of a table

-- a tree that is the leaf of a table, with the attributes of an operation
pub record IsLeafTree (tree : Tree) (t : TableId) (operation : PlanOp) : Type 0 where
  pub used : AttrSet
  pub is : tree ≡ Leaf t used
  pub of_op : leaf_set operation ≡ used.0

leaf_by_op : (trees : ℕ → Tree) (facts : ℕ → NodeFacts) (n : ℕ) (before : List Tree) (t : TableId) (o : PlanOp) (left right : Option NodeId)
    → IsNodeAt facts n o (kind_by left right) → is_base t o ≡ true → trees n ≡ tree_by before o left right → IsLeafTree (trees n) t o
leaf_by_op trees facts n before t (op.Base u used) None right at is made =
    let h : u ≡ t = ap (λ i. record { 0 = i }) (eqb-true u.0 t.0 is) in
    record { used = used; is = made ∙ ap (λ (i : TableId). Leaf i used) h; of_op = refl }
leaf_by_op trees facts n before t (op.Base u used) (Some x) None at is made = absurd at.stands
leaf_by_op trees facts n before t (op.Base u used) (Some x) (Some y) at is made = absurd at.stands
leaf_by_op trees facts n before t _ left right at is made = cc

pub leaf_tree : (s : Setting) → IsReady s → (t : TableId) (n : ℕ) → leaf_of s t ≡ Some n
    → IsLeafTree (tree_of_node s.basis.nodes n) t (op_at s n)
leaf_tree s ready t n gives =
    let found = position-Some (λ (node : PlanNode). is_base t node.op) s.basis.nodes n (leaf_node (record { 0 = 0 }) (record { 0 = 0 })) gives in
    let made = made_of s n found.0 in
    leaf_by_op (tree_of_node s.basis.nodes) (known_at s) n made.0 t (op_at s n) _ _
    (ready.facts.node n found.0) found.1 made.1.made

-- ---- from node to node

leaf_by_kind : (before : List Tree) (o : PlanOp) (left right : Option NodeId) → kind_by left right ≡ kind.Leaf → tree_by before o left right ≡ leaf_by o
leaf_by_kind before o None right is = refl
leaf_by_kind before o (Some x) None is = cc
leaf_by_kind before o (Some x) (Some y) is = cc

pub bare_tree : (s : Setting) (n : ℕ) → n < length s.basis.nodes → kind_at s n ≡ kind.Leaf → tree_of_node s.basis.nodes n ≡ leaf_by (op_at s n)
bare_tree s n inside is =
    let made = made_of s n inside in
    made.1.made ∙ leaf_by_kind made.0 (op_at s n) _ _ is

-- what holds of each leaf, and of each node where it holds of its operands, holds of every node of a plan
nodes_below : (s : Setting) → IsReady s → (Q : ℕ → Type 0) → ((n : ℕ) → n < length s.basis.nodes → kind_at s n ≡ kind.Leaf → Q n)
    → ((n : ℕ) (x : NodeId) → n < length s.basis.nodes → kind_at s n ≡ kind.One x → x.0 < n → Q x.0 → Q n)
    → ((n : ℕ) (x y : NodeId) → n < length s.basis.nodes → kind_at s n ≡ kind.Two x y → x.0 < n → y.0 < n → Q x.0 → Q y.0 → Q n)
    → (k n : ℕ) → n < k → n < length s.basis.nodes → Q n
nodes_below s ready Q leaf one two zero n below inside = absurd (omega (arith, below))
nodes_below s ready Q leaf one two (suc k) n below inside =
    by_kind (kind_at s n) refl
    (λ m less. nodes_below s ready Q leaf one two k m (omega (arith, below, less)) (omega (arith, inside, less)))
  where
    by_kind : (k : Kind) → kind_at s n ≡ k → ((m : ℕ) → m < n → Q m) → Q n
    by_kind kind.Leaf is each = leaf n inside is
    by_kind (kind.One x) is each =
        let known = one_known s ready n x is in
        one n x inside is known.below (each x.0 known.below)
    by_kind (kind.Two x y) is each =
        let known = two_known s ready n x y is in
        let left : x.0 < n = omega (arith, known.left_below, known.right_below) in
        two n x y inside is left known.right_below (each x.0 left) (each y.0 known.right_below)

pub every_node : (s : Setting) → IsReady s → (Q : ℕ → Type 0) → ((n : ℕ) → n < length s.basis.nodes → kind_at s n ≡ kind.Leaf → Q n)
    → ((n : ℕ) (x : NodeId) → n < length s.basis.nodes → kind_at s n ≡ kind.One x → x.0 < n → Q x.0 → Q n)
    → ((n : ℕ) (x y : NodeId) → n < length s.basis.nodes → kind_at s n ≡ kind.Two x y → x.0 < n → y.0 < n → Q x.0 → Q y.0 → Q n)
    → (n : ℕ) → n < length s.basis.nodes → Q n
every_node s ready Q leaf one two n inside = nodes_below s ready Q leaf one two (suc n) n (omega arith) inside

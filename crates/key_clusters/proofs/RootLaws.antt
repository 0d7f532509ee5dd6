-- The attributes that a node compares stand in one set of the root: each node of the tree keeps what its operands made equivalent, and
-- the facts of the last node are those of the tree.
use Rattle.std.proofs.Common.{◌≡◌, ℕ, ◌+◌, ◌-◌, ◌<◌, true, ◌&&◌, List, [], ◌∷◌, ◌++◌, length, All, refl, sym, ◌∙◌, ap, append_assoc, arith}
use Rattle.std.proofs.lemmas.List.{append-nil, get_or_at, length-append}
use Rattle.std.proofs.lemmas.List.Elements.{All-append, All-cons, All-get_or, All-nil, All-weaker}
use Rattle.base_laws.specs.Sets.{has}
use Rattle.mq_base.specs.declared.attr_set.AttrSet.{AttrSet}
use Rattle.mq_base.specs.declared.plan.PlanNode.{PlanNode}
use Rattle.mq_base.specs.declared.plan.PlanOp.{PlanOp}
use Rattle.mq_base.specs.declared.plan.PlanOp.TheVariants as op
use Rattle.plan_algebra.specs.declared.facts.NodeFacts.{NodeFacts}
use Rattle.plan_algebra.specs.declared.plan_facts.PlanFacts.{PlanFacts}
use Rattle.plan_algebra.specs.Facts.{IsFacts, IsFormed, IsNodeAt, IsOneOn, IsTwoOn, facts_at, facts_of, node_at, one_facts, two_facts}
use Rattle.plan_algebra.specs.Families.{united}
use Rattle.plan_algebra.specs.Kinds.{kind_of}
use Rattle.plan_algebra.specs.Nodes.{last_of, leaf_node, nodes_of, one_node, tree_of, two_node}
use Rattle.plan_algebra.specs.Tree.{Tree, Leaf, One, Two, size}
use Rattle.plan_algebra.proofs.PlanLaws.{nodes-length}
use Rattle.key_clusters.specs.Clusters.{root_family}
use Rattle.key_clusters.specs.Laws.{IfPair, are_together}
use Rattle.key_clusters.proofs.TogetherLaws.{merged-kept, merged-pair, united-left, united-right}

-- what an operation makes of its operands' families keeps what they made equivalent
one_kept : (o : PlanOp) (f : NodeFacts) (a b : ℕ) → are_together a b f.eq ≡ true → are_together a b (one_facts o f).eq ≡ true
one_kept (op.SelAttr c cmp d) f a b kept = merged-kept c d f.eq a b kept
one_kept (op.Project set) f a b kept = kept
one_kept (op.Group by aggs count) f a b kept = kept
one_kept _ f a b kept = kept

two_kept : (o : PlanOp) (f g : NodeFacts) (a b : ℕ) → are_together a b (united f.eq g.eq) ≡ true → are_together a b (two_facts o f g).eq ≡ true
two_kept (op.Join c cmp d) f g a b kept = merged-kept c d (united f.eq g.eq) a b kept
two_kept _ f g a b kept = kept

-- and has the attributes that it compares in one set
one_pair : (o : PlanOp) (f : NodeFacts) → IsOneOn o f → IfPair o (λ a b. are_together a b (one_facts o f).eq ≡ true)
one_pair (op.SelAttr a cmp b) f on = merged-pair a b f.eq
one_pair (op.Join a cmp b) f on = absurd on
one_pair _ f on = tt

two_pair : (o : PlanOp) (f g : NodeFacts) → IsTwoOn o f g → IfPair o (λ a b. are_together a b (two_facts o f g).eq ≡ true)
two_pair (op.Join a cmp b) f g on = merged-pair a b (united f.eq g.eq)
two_pair (op.SelAttr a cmp b) f g on = absurd on
two_pair _ f g on = tt

-- a node whose compared attributes stand in one set of a family
abbrev pub IsJoined : List AttrSet → PlanNode → Type 0
IsJoined family node = IfPair node.op (λ a b. are_together a b family ≡ true)

joined_more : (f g : List AttrSet) → ((a b : ℕ) → are_together a b f ≡ true → are_together a b g ≡ true) → (o : PlanOp)
    → IfPair o (λ a b. are_together a b f ≡ true) → IfPair o (λ a b. are_together a b g ≡ true)
joined_more f g more (op.SelAttr a cmp b) here = more a.0 b.0 here
joined_more f g more (op.Join a cmp b) here = more a.0 b.0 here
joined_more f g more _ here = tt

all_more : (f g : List AttrSet) (nodes : List PlanNode) → ((a b : ℕ) → are_together a b f ≡ true → are_together a b g ≡ true)
    → All (IsJoined f) nodes → All (IsJoined g) nodes
all_more f g nodes more all = All-weaker (IsJoined f) (IsJoined g) (λ node here. joined_more f g more node.op here) nodes all

-- each node of a formed tree is joined in the family of the tree
tree_joined : (x : Tree) (i : ℕ) → IsFormed x → All (IsJoined (facts_of x).eq) (nodes_of i x)
tree_joined (Leaf t used) i formed = All-cons (IsJoined []) (leaf_node t used) [] tt (All-nil (IsJoined []))
tree_joined (One o x) i formed =
    All-append (IsJoined (facts_of (One o x)).eq) (nodes_of i x) (one_node o (last_of i x) ∷ [])
    (all_more (facts_of x).eq (facts_of (One o x)).eq (nodes_of i x) (one_kept o (facts_of x)) (tree_joined x i formed.0))
    (All-cons (IsJoined (facts_of (One o x)).eq) (one_node o (last_of i x)) [] (one_pair o (facts_of x) formed.1)
    (All-nil (IsJoined (facts_of (One o x)).eq)))
tree_joined (Two o x y) i formed =
    All-append whole (nodes_of i x ++ nodes_of (i + size x) y) (root ∷ [])
    (All-append whole (nodes_of i x) (nodes_of (i + size x) y)
    (all_more (facts_of x).eq (facts_of (Two o x y)).eq (nodes_of i x)
    (λ a b kept. two_kept o (facts_of x) (facts_of y) a b
    (united-left (λ s. has s.0 a && has s.0 b) (facts_of x).eq (facts_of y).eq kept)) (tree_joined x i formed.0))
    (all_more (facts_of y).eq (facts_of (Two o x y)).eq (nodes_of (i + size x) y)
    (λ a b kept. two_kept o (facts_of x) (facts_of y) a b
    (united-right (λ s. has s.0 a && has s.0 b) (facts_of x).eq (facts_of y).eq kept)) (tree_joined y (i + size x) formed.1)))
    (All-cons whole root [] (two_pair o (facts_of x) (facts_of y) formed.2) (All-nil whole))
  where
    whole : PlanNode → Type 0
    whole = IsJoined (facts_of (Two o x y)).eq

    root : PlanNode
    root = two_node o (last_of i x) (last_of (i + size x) y)

-- the node after these
node_after : (nodes : List PlanNode) (facts : List NodeFacts) (front : List PlanNode) (node : PlanNode) (rest : List PlanNode)
    → IsFacts nodes facts → nodes ≡ front ++ node ∷ rest → IsNodeAt (facts_at facts) (length front) node.op (kind_of node)
node_after nodes facts front node rest are parts =
    let here : node_at nodes (length front) ≡ node =
    rw parts (get_or_at front node rest (leaf_node (record { 0 = 0 }) (record { 0 = 0 })) (length front) refl) in
    let inside : length front < length nodes = rw parts (rw length-append (omega arith)) in
    rw here at (are.node (length front) inside)

-- the facts of the last node of a tree that stands in a plan are those of the tree
tree_facts : (x : Tree) (nodes : List PlanNode) (facts : List NodeFacts) (front rest : List PlanNode) → IsFacts nodes facts
    → nodes ≡ front ++ nodes_of (length front) x ++ rest → facts_at facts (last_of (length front) x) ≡ facts_of x
tree_facts (Leaf t used) nodes facts front rest are parts =
    let place : length front ≡ last_of (length front) (Leaf t used) = omega arith in
    let at : facts_at facts (length front) ≡ facts_of (Leaf t used) =
    node_after nodes facts front (leaf_node t used) rest are (rw append_assoc at parts) in
    sym (ap (facts_at facts) place) ∙ at
tree_facts (One o x) nodes facts front rest are parts =
    let root = one_node o (last_of (length front) x) in
    let before : nodes ≡ (front ++ nodes_of (length front) x) ++ root ∷ rest = parts ∙ simp append_assoc in
    let below : facts_at facts (last_of (length front) x) ≡ facts_of x = tree_facts x nodes facts front (root ∷ rest) are before in
    let place : length (front ++ nodes_of (length front) x) ≡ last_of (length front) (One o x) =
    rw (length-append, nodes-length) (omega arith) in
    let at : IsNodeAt (facts_at facts) (length (front ++ nodes_of (length front) x)) o (kind_of root) =
    node_after nodes facts (front ++ nodes_of (length front) x) root rest are before in
    sym (ap (facts_at facts) place) ∙ at.are ∙ ap (one_facts o) below
tree_facts (Two o x y) nodes facts front rest are parts =
    let root = two_node o (last_of (length front) x) (last_of (length front + size x) y) in
    let long : length (front ++ nodes_of (length front) x) ≡ length front + size x = rw (length-append, nodes-length) refl in
    let left : facts_at facts (last_of (length front) x) ≡ facts_of x =
    tree_facts x nodes facts front (nodes_of (length front + size x) y ++ root ∷ rest) are (parts ∙ simp append_assoc) in
    let second : nodes ≡ (front ++ nodes_of (length front) x) ++ nodes_of (length (front ++ nodes_of (length front) x)) y ++ root ∷ rest =
    rw long (parts ∙ simp append_assoc) in
    let right : facts_at facts (last_of (length front + size x) y) ≡ facts_of y =
    rw long at (tree_facts y nodes facts (front ++ nodes_of (length front) x) (root ∷ rest) are second) in
    let before : nodes ≡ ((front ++ nodes_of (length front) x) ++ nodes_of (length front + size x) y) ++ root ∷ rest = parts ∙ simp append_assoc in
    let place : length ((front ++ nodes_of (length front) x) ++ nodes_of (length front + size x) y) ≡ last_of (length front) (Two o x y) =
    rw (length-append, long, nodes-length) (omega arith) in
    let at : IsNodeAt (facts_at facts) (length ((front ++ nodes_of (length front) x) ++ nodes_of (length front + size x) y)) o (kind_of root) =
    node_after nodes facts ((front ++ nodes_of (length front) x) ++ nodes_of (length front + size x) y) root rest are before in
    sym (ap (facts_at facts) place) ∙ at.are ∙ ap (λ f. two_facts o f (facts_at facts (last_of (length front + size x) y))) left
    ∙ ap (two_facts o (facts_of x)) right

-- the family of a plan's root is that of its tree
root_is_tree : (facts : PlanFacts) → root_family facts ≡ (facts_of (tree_of facts.plan.nodes)).eq
root_is_tree facts =
    let long : length facts.plan.nodes ≡ size (tree_of facts.plan.nodes) =
    ap length facts.is_plan.listed ∙ nodes-length 0 (tree_of facts.plan.nodes) in
    let last : facts_at facts.nodes (0 + size (tree_of facts.plan.nodes) - 1) ≡ facts_of (tree_of facts.plan.nodes) =
    tree_facts (tree_of facts.plan.nodes) facts.plan.nodes facts.nodes [] [] facts.are_facts
    (facts.is_plan.listed ∙ sym (append-nil (nodes_of 0 (tree_of facts.plan.nodes)))) in
    let place : length facts.plan.nodes - 1 ≡ 0 + size (tree_of facts.plan.nodes) - 1 = omega (arith, long) in
    ap (λ n. (facts_at facts.nodes n).eq) place ∙ ap (λ (f : NodeFacts). f.eq) last

-- the attributes that a node of a plan compares stand in one set of the root
pub root-joined : (facts : PlanFacts) (n : ℕ) → n < length facts.plan.nodes → IsJoined (root_family facts) (node_at facts.plan.nodes n)
root-joined facts n below =
    let all : All (IsJoined (facts_of (tree_of facts.plan.nodes)).eq) facts.plan.nodes =
    rw (← facts.is_plan.listed) at (tree_joined (tree_of facts.plan.nodes) 0 facts.is_plan.formed) in
    rw (root_is_tree facts)
    (All-get_or (IsJoined (facts_of (tree_of facts.plan.nodes)).eq) facts.plan.nodes n (leaf_node (record { 0 = 0 }) (record { 0 = 0 })) below all)

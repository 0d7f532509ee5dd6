-- The tree of each node of a plan is made of the trees of its operands.
use Rattle.std.proofs.Common.{◌≡◌, ℕ, ◌<◌, List, [], ◌∷◌, ◌++◌, length, ◌⊎◌, inl, inr, Option, Some, None, refl, sym, ◌∙◌, ap, append_assoc, arith}
use Rattle.std.proofs.lemmas.List.{append-nil, get_or_append_left, get_or_push, length-append}
use Rattle.mq_base.specs.declared.ids.NodeId.{NodeId}
use Rattle.mq_base.specs.declared.plan.Plan.{Plan}
use Rattle.mq_base.specs.declared.plan.PlanNode.{PlanNode}
use Rattle.mq_base.specs.declared.plan.PlanOp.{PlanOp}
use Rattle.plan_algebra.specs.declared.facts.NodeFacts.{NodeFacts}
use Rattle.plan_algebra.specs.declared.kind.Kind.{Kind}
use Rattle.plan_algebra.specs.declared.kind.Kind.TheVariants as kind
use Rattle.plan_algebra.specs.Facts.{IsPlan, node_at}
use Rattle.plan_algebra.specs.inside.Gathering.{AllStand, StandsBy, node_facts}
use Rattle.plan_algebra.specs.Kinds.{IsTreeAt, kind_by, kind_of}
use Rattle.plan_algebra.specs.Nodes.{leaf_node, tree_at, tree_by, trees_after}
use Rattle.plan_algebra.specs.Tree.{Tree, Leaf, One, Two}
use Rattle.plan_algebra.proofs.StandLaws.{plan_stands}

-- the trees of these nodes
record AreTrees (nodes : List PlanNode) (ts : List Tree) : Type 0 where
  pub for_each : length ts ≡ length nodes
  pub node : (n : ℕ) → n < length nodes → IsTreeAt (tree_at ts) n (node_at nodes n).op (kind_of (node_at nodes n))

-- operands stand before a node
abbrev AreBelow : ℕ → Kind → Type 0
AreBelow n kind.Leaf = Unit {0}
AreBelow n (kind.One x) = x.0 < n
AreBelow n (kind.Two x y) = (x.0 < n) × (y.0 < n)

below_from : (fs : List NodeFacts) (o : PlanOp) (k : Kind) → StandsBy fs o k → AreBelow (length fs) k
below_from fs o kind.Leaf stands = tt
below_from fs o (kind.One x) stands = stands.0
below_from fs o (kind.Two x y) stands = (omega (arith, stands.0, stands.1), stands.1)

-- trees that agree below a node and there
tree_agrees : (f g : ℕ → Tree) (n : ℕ) (o : PlanOp) (k : Kind) → AreBelow n k → f n ≡ g n → ((m : ℕ) → m < n → f m ≡ g m)
    → IsTreeAt f n o k → IsTreeAt g n o k
tree_agrees f g n o kind.Leaf below here agree at = sym here ∙ at
tree_agrees f g n o (kind.One x) below here agree at = sym here ∙ at ∙ ap (One o) (agree x.0 below)
tree_agrees f g n o (kind.Two x y) below here agree at =
    sym here ∙ at ∙ ap (λ t. Two o t (f y.0)) (agree x.0 below.0) ∙ ap (Two o (g x.0)) (agree y.0 below.1)

-- the tree of the next node
tree_next : (ts : List Tree) (made : Tree) (o : PlanOp) (l r : Option NodeId) → AreBelow (length ts) (kind_by l r)
    → tree_at (ts ++ made ∷ []) (length ts) ≡ tree_by ts o l r
    → ((m : ℕ) → m < length ts → tree_at (ts ++ made ∷ []) m ≡ tree_at ts m)
    → IsTreeAt (tree_at (ts ++ made ∷ [])) (length ts) o (kind_by l r)
tree_next ts made o None r below here before = here
tree_next ts made o (Some x) None below here before = here ∙ ap (One o) (sym (before x.0 below))
tree_next ts made o (Some x) (Some y) below here before =
    here ∙ ap (λ t. Two o t (tree_at ts y.0)) (sym (before x.0 below.0))
    ∙ ap (Two o (tree_at (ts ++ made ∷ []) x.0)) (sym (before y.0 below.1))

abbrev made_of : List Tree → PlanNode → Tree
made_of ts node = tree_by ts node.op node.left node.right

-- all nodes so far have operands before them
abbrev AllBelow : List PlanNode → Type 0
AllBelow nodes = (n : ℕ) → n < length nodes → AreBelow n (kind_of (node_at nodes n))

places : (done : List PlanNode) (node : PlanNode) (n : ℕ) → n < length (done ++ node ∷ []) → (n < length done) ⊎ (n ≡ length done)
places done node n below = grind (arith, length-append done (node ∷ []))

next_below : (done : List PlanNode) (node : PlanNode) → AllBelow done → AreBelow (length done) (kind_of node) → AllBelow (done ++ node ∷ [])
next_below done node all here n below = by_place (places done node n below)
  where
    by_place : (n < length done) ⊎ (n ≡ length done) → AreBelow n (kind_of (node_at (done ++ node ∷ []) n))
    by_place (inl before) =
        rw (get_or_append_left done (node ∷ []) (leaf_node (record { 0 = 0 }) (record { 0 = 0 })) n before) (all n before)
    by_place (inr last) = rw (get_or_push done node (leaf_node (record { 0 = 0 }) (record { 0 = 0 })) n (sym last)) (rw last here)

next_trees : (done : List PlanNode) (ts : List Tree) (node : PlanNode) → AllBelow done → AreTrees done ts → AreBelow (length ts) (kind_of node)
    → AreTrees (done ++ node ∷ []) (ts ++ made_of ts node ∷ [])
next_trees done ts node all are here = record {
  for_each = simp length-append (omega (arith, are.for_each));
  node = λ n below. by_place n (places done node n below);
}
  where
    kept : (m : ℕ) → m < length ts → tree_at (ts ++ made_of ts node ∷ []) m ≡ tree_at ts m
    kept m below = get_or_append_left ts (made_of ts node ∷ []) (Leaf (record { 0 = 0 }) (record { 0 = 0 })) m below

    by_place : (n : ℕ) → (n < length done) ⊎ (n ≡ length done)
        → IsTreeAt (tree_at (ts ++ made_of ts node ∷ [])) n (node_at (done ++ node ∷ []) n).op (kind_of (node_at (done ++ node ∷ []) n))
    by_place n (inl before) =
        rw (get_or_append_left done (node ∷ []) (leaf_node (record { 0 = 0 }) (record { 0 = 0 })) n before)
        (tree_agrees (tree_at ts) (tree_at (ts ++ made_of ts node ∷ [])) n (node_at done n).op (kind_of (node_at done n)) (all n before)
        (sym (kept n (omega (arith, before, are.for_each)))) (λ m under. sym (kept m (omega (arith, under, before, are.for_each)))) (are.node n before))
    by_place n (inr last) =
        rw (get_or_push done node (leaf_node (record { 0 = 0 }) (record { 0 = 0 })) n (sym last), last, ← are.for_each)
        (tree_next ts (made_of ts node) node.op node.left node.right here
        (get_or_push ts (made_of ts node) (Leaf (record { 0 = 0 }) (record { 0 = 0 })) (length ts) refl) kept)

all_trees : (rest done : List PlanNode) (ts : List Tree) (fs : List NodeFacts) → length fs ≡ length ts → AllBelow done → AreTrees done ts
    → AllStand fs rest → AreTrees (done ++ rest) (trees_after ts rest)
all_trees [] done ts fs same below are stand = rw (append-nil done) are
all_trees (node ∷ rest) done ts fs same below are stand =
    let here : AreBelow (length ts) (kind_of node) = rw same at (below_from fs node.op (kind_of node) stand.0.by_kind) in
    rw append_assoc at
    (all_trees rest (done ++ node ∷ []) (ts ++ made_of ts node ∷ []) (fs ++ node_facts fs node ∷ [])
    (simp length-append (omega (arith, same))) (next_below done node below (rw are.for_each at here)) (next_trees done ts node below are here) stand.1)

-- the tree of each node
pub node-tree : (plan : Plan) (n : ℕ) → IsPlan plan → n < length plan.nodes
    → IsTreeAt (tree_at (trees_after [] plan.nodes)) n (node_at plan.nodes n).op (kind_of (node_at plan.nodes n))
node-tree plan n is inside =
    (all_trees plan.nodes [] [] [] refl (λ m below. absurd (omega (arith, below)))
    (record { for_each = refl; node = λ m below. absurd (omega (arith, below)) }) (plan_stands plan is)).node n inside

pub ruleset trees = (node-tree)

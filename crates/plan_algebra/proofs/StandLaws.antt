-- The nodes of a formed tree stand in turn on those before them, and the facts that are gathered are those of the plan.
use Rattle.std.proofs.Common.{◌≡◌, ℕ, ◌+◌, ◌<◌, ◌≤◌, List, [], ◌∷◌, ◌++◌, length, map, get_or, ◌⊎◌, inl, inr, refl, sym, ◌∙◌, ap, append_assoc, zero-add, arith}
use Rattle.std.proofs.lemmas.List.{append-nil, get_or_append_left, get_or_push, length-append, length-map, map-append, map-id}
use Rattle.mq_base.specs.declared.plan.Plan.{Plan}
use Rattle.mq_base.specs.declared.plan.PlanNode.{PlanNode}
use Rattle.mq_base.specs.declared.plan.PlanOp.{PlanOp}
use Rattle.mq_base.specs.declared.plan.PlanOp.TheVariants as op
use Rattle.plan_algebra.specs.declared.facts.NodeFacts.{NodeFacts}
use Rattle.plan_algebra.specs.declared.kind.Kind.{Kind}
use Rattle.plan_algebra.specs.declared.kind.Kind.TheVariants as kind
use Rattle.plan_algebra.specs.Facts.{IsFacts, IsFormed, IsNodeAt, IsOneOn, IsPlan, IsTwoOn, facts_at, facts_of, leaf_facts, node_at}
use Rattle.plan_algebra.specs.inside.Gathering.{AllStand, Stands, StandsBy, facts_after, facts_by, node_facts}
use Rattle.plan_algebra.specs.Kinds.{kind_of}
use Rattle.plan_algebra.specs.Nodes.{last_of, leaf_node, nodes_of, one_node, subtrees, tree_at, tree_of, trees_after, two_node}
use Rattle.plan_algebra.specs.Tree.{Tree, Leaf, One, Two, size}
use Rattle.plan_algebra.proofs.PlanLaws.{nodes-length}

-- the facts of all subtrees
abbrev facts_in : Tree → List NodeFacts
facts_in x = map facts_of (subtrees x)

-- the subtrees before the tree itself
abbrev front : Tree → List Tree
front (Leaf t used) = []
front (One op x) = subtrees x
front (Two op x y) = subtrees x ++ subtrees y

front-last : (x : Tree) → subtrees x ≡ front x ++ x ∷ []
front-last (Leaf t used) = refl
front-last (One op x) = refl
front-last (Two op x y) = refl

subtrees-length : (x : Tree) → length (subtrees x) ≡ size x
subtrees-length (Leaf t used) = refl
subtrees-length (One op x) = simp length-append (omega (arith, subtrees-length x))
subtrees-length (Two op x y) = simp length-append (omega (arith, subtrees-length x, subtrees-length y))

pub facts-length : (x : Tree) → length (facts_in x) ≡ size x
facts-length x = length-map (subtrees x) facts_of ∙ subtrees-length x

size-some : (x : Tree) → 1 ≤ size x
size-some (Leaf t used) = omega arith
size-some (One op x) = omega arith
size-some (Two op x y) = omega arith

-- what belongs to a tree stands at the number of its last node
pub last-at : {Y : Type 0} (f : Tree → Y) (d : Y) (ys : List Y) (x : Tree) → get_or (ys ++ map f (subtrees x)) (last_of (length ys) x) d ≡ f x
last-at {Y} f d ys x =
    let parts : ys ++ map f (subtrees x) ≡ (ys ++ map f (front x)) ++ f x ∷ [] =
    rw (front-last x, map-append, ← append_assoc) refl in
    let long : length ys + size x ≡ length ((ys ++ map f (front x)) ++ f x ∷ []) =
    rw (← parts, length-append, length-map, subtrees-length) refl in
    rw parts (get_or_push (ys ++ map f (front x)) (f x) d (last_of (length ys) x) (omega (arith, long, length-append {A = Y})))

last-facts : (fs : List NodeFacts) (x : Tree) → facts_at (fs ++ facts_in x) (last_of (length fs) x) ≡ facts_of x
last-facts fs x = last-at facts_of (leaf_facts (record { 0 = 0 })) fs x

last-below : (fs : List NodeFacts) (x : Tree) → last_of (length fs) x < length (fs ++ facts_in x)
last-below fs x = rw (length-append, facts-length) (omega (arith, size-some x))

one_stands : (op : PlanOp) (fs : List NodeFacts) (x : Tree) (rest : List PlanNode) → IsOneOn op (facts_of x)
    → AllStand (fs ++ facts_in (One op x)) rest → AllStand (fs ++ facts_in x) (one_node op (last_of (length fs) x) ∷ rest)
one_stands op fs x rest on all = (
  record { by_kind = (last-below fs x, rw (last-facts fs x) on) },
  rw (last-facts fs x, append_assoc) (rw map-append at all),
)

two_stands : (op : PlanOp) (fs : List NodeFacts) (x y : Tree) (rest : List PlanNode) → IsTwoOn op (facts_of x) (facts_of y)
    → AllStand (fs ++ facts_in (Two op x y)) rest
    → AllStand ((fs ++ facts_in x) ++ facts_in y) (two_node op (last_of (length fs) x) (last_of (length (fs ++ facts_in x)) y) ∷ rest)
two_stands op fs x y rest on all =
    let left : facts_at ((fs ++ facts_in x) ++ facts_in y) (last_of (length fs) x) ≡ facts_of x =
    get_or_append_left (fs ++ facts_in x) (facts_in y) (leaf_facts (record { 0 = 0 })) (last_of (length fs) x) (last-below fs x) ∙ last-facts fs x in
    let right = last-facts (fs ++ facts_in x) y in
    let long : length (fs ++ facts_in x) ≡ length fs + size x = rw (length-append, facts-length) refl in (
      record { by_kind = (omega (arith, long, size-some x, size-some y), last-below (fs ++ facts_in x) y, rw (left, right) on) },
      rw (left, right, append_assoc, append_assoc) (simp (map-append, append_assoc) at all),
    )

-- the nodes of a formed tree stand, and so do the nodes after it
all_stand : (x : Tree) (fs : List NodeFacts) (rest : List PlanNode) → IsFormed x → AllStand (fs ++ facts_in x) rest
    → AllStand fs (nodes_of (length fs) x ++ rest)
all_stand (Leaf t used) fs rest formed all = (record { by_kind = tt }, all)
all_stand (One op x) fs rest formed all =
    rw append_assoc (all_stand x fs (one_node op (last_of (length fs) x) ∷ rest) formed.0 (one_stands op fs x rest formed.1 all))
all_stand (Two op x y) fs rest formed all =
    let long : length (fs ++ facts_in x) ≡ length fs + size x = rw (length-append, facts-length) refl in
    let second = all_stand y (fs ++ facts_in x) (two_node op (last_of (length fs) x) (last_of (length (fs ++ facts_in x)) y) ∷ rest) formed.1
    (two_stands op fs x y rest formed.2 all) in
    rw (append_assoc, append_assoc)
    (all_stand x fs (nodes_of (length fs + size x) y ++ two_node op (last_of (length fs) x) (last_of (length fs + size x) y) ∷ rest) formed.0
    (rw long at second))

-- the nodes of a plan stand
pub plan_stands : (plan : Plan) → IsPlan plan → AllStand [] plan.nodes
plan_stands plan is =
    rw (is.listed, ← append-nil (nodes_of 0 (tree_of plan.nodes))) (all_stand (tree_of plan.nodes) [] [] is.formed tt)

-- the trees that are read back from a tree's list are its subtrees
tree_last : (ts : List Tree) (x : Tree) → tree_at (ts ++ subtrees x) (last_of (length ts) x) ≡ x
tree_last ts x =
    let same : ts ++ map (λ (t : Tree). t) (subtrees x) ≡ ts ++ subtrees x = rw (map-id (subtrees x)) refl in
    rw same at (last-at (λ (t : Tree). t) (Leaf (record { 0 = 0 }) (record { 0 = 0 })) ts x)

read_on : (x : Tree) (ts : List Tree) (rest : List PlanNode)
    → trees_after ts (nodes_of (length ts) x ++ rest) ≡ trees_after (ts ++ subtrees x) rest
read_on (Leaf t used) ts rest = refl
read_on (One op x) ts rest =
    rw append_assoc (read_on x ts (one_node op (last_of (length ts) x) ∷ rest)
    ∙ ap (λ t. trees_after ((ts ++ subtrees x) ++ One op t ∷ []) rest) (tree_last ts x)
    ∙ ap (λ us. trees_after us rest) (append_assoc ts (subtrees x) (One op x ∷ [])))
read_on (Two op x y) ts rest =
    let long : length (ts ++ subtrees x) ≡ length ts + size x = rw (length-append, subtrees-length) refl in
    let below : last_of (length ts) x < length (ts ++ subtrees x) = omega (arith, long, size-some x) in
    let left : tree_at ((ts ++ subtrees x) ++ subtrees y) (last_of (length ts) x) ≡ x =
    get_or_append_left (ts ++ subtrees x) (subtrees y) (Leaf (record { 0 = 0 }) (record { 0 = 0 })) (last_of (length ts) x) below ∙ tree_last ts x in
    let second = read_on y (ts ++ subtrees x) (two_node op (last_of (length ts) x) (last_of (length (ts ++ subtrees x)) y) ∷ rest) in
    let third : trees_after ((ts ++ subtrees x) ++ subtrees y) (two_node op (last_of (length ts) x) (last_of (length (ts ++ subtrees x)) y) ∷ rest)
    ≡ trees_after (((ts ++ subtrees x) ++ subtrees y) ++ Two op x y ∷ []) rest =
    rw (left, tree_last (ts ++ subtrees x) y) refl in
    let joined : ((ts ++ subtrees x) ++ subtrees y) ++ Two op x y ∷ [] ≡ ts ++ subtrees (Two op x y) = simp append_assoc in
    rw (append_assoc, append_assoc)
    (read_on x ts (nodes_of (length ts + size x) y ++ two_node op (last_of (length ts) x) (last_of (length ts + size x) y) ∷ rest)
    ∙ rw long at second ∙ rw long at third ∙ ap (λ us. trees_after us rest) joined)

pub read_back : (x : Tree) → trees_after [] (nodes_of 0 x) ≡ subtrees x
read_back x = ap (trees_after []) (sym (append-nil (nodes_of 0 x))) ∙ read_on x [] []

-- and the last of them is the tree
pub tree_back : (x : Tree) → tree_of (nodes_of 0 x) ≡ x
tree_back x = rw (read_back x, nodes-length 0 x) (rw zero-add at (tree_last [] x))

-- facts that agree up to a node
node_agrees : (f g : ℕ → NodeFacts) (n : ℕ) (op : PlanOp) (k : Kind) → ((m : ℕ) → m ≤ n → f m ≡ g m) → IsNodeAt f n op k → IsNodeAt g n op k
node_agrees f g n (op.Base t used) kind.Leaf agree at = sym (agree n (omega arith)) ∙ at
node_agrees f g n _ kind.Leaf agree at = absurd at
node_agrees f g n op (kind.One x) agree at =
    let operand = agree x.0 (omega (arith, at.below)) in
    record { below = at.below; stands = rw (← operand) at.stands; are = rw (← operand, ← agree n (omega arith)) at.are }
node_agrees f g n op (kind.Two x y) agree at =
    let left = agree x.0 (omega (arith, at.left_below, at.right_below)) in
    let right = agree y.0 (omega (arith, at.right_below)) in
    record {
      left_below = at.left_below;
      right_below = at.right_below;
      stands = rw (← left, ← right) at.stands;
      are = rw (← left, ← right, ← agree n (omega arith)) at.are;
    }

-- the facts of a node that stands are those of the next node
node_next : (fs : List NodeFacts) (made : NodeFacts) (o : PlanOp) (k : Kind) → StandsBy fs o k
    → facts_at (fs ++ made ∷ []) (length fs) ≡ facts_by fs o k
    → ((m : ℕ) → m < length fs → facts_at (fs ++ made ∷ []) m ≡ facts_at fs m)
    → IsNodeAt (facts_at (fs ++ made ∷ [])) (length fs) o k
node_next fs made (op.Base t used) kind.Leaf stands here before = here
node_next fs made _ kind.Leaf stands here before = absurd stands
node_next fs made o (kind.One x) stands here before =
    let operand = before x.0 stands.0 in
    record { below = stands.0; stands = rw operand stands.1; are = rw operand here }
node_next fs made o (kind.Two x y) stands here before =
    let left = before x.0 (omega (arith, stands.0, stands.1)) in
    let right = before y.0 stands.1 in
    record { left_below = stands.0; right_below = stands.1; stands = rw (left, right) stands.2; are = rw (left, right) here }

next_facts : (done : List PlanNode) (fs : List NodeFacts) (node : PlanNode) → IsFacts done fs → Stands fs node
    → IsFacts (done ++ node ∷ []) (fs ++ node_facts fs node ∷ [])
next_facts done fs node are stands = record {
  for_each = simp length-append (omega (arith, are.for_each));
  node = λ n below. by_place n (places n below);
}
  where
    places : (n : ℕ) → n < length (done ++ node ∷ []) → (n < length done) ⊎ (n ≡ length fs)
    places n below = grind (arith, length-append done (node ∷ []), are.for_each)

    by_place : (n : ℕ) → (n < length done) ⊎ (n ≡ length fs)
        → IsNodeAt (facts_at (fs ++ node_facts fs node ∷ [])) n (node_at (done ++ node ∷ []) n).op (kind_of (node_at (done ++ node ∷ []) n))
    by_place n (inl before) =
        rw (get_or_append_left done (node ∷ []) (leaf_node (record { 0 = 0 }) (record { 0 = 0 })) n before)
        (node_agrees (facts_at fs) (facts_at (fs ++ node_facts fs node ∷ [])) n (node_at done n).op (kind_of (node_at done n))
        (λ m upto. sym (get_or_append_left fs (node_facts fs node ∷ []) (leaf_facts (record { 0 = 0 })) m (omega (arith, upto, are.for_each)))) (are.node n before))
    by_place n (inr last) =
        rw (get_or_push done node (leaf_node (record { 0 = 0 }) (record { 0 = 0 })) n (omega (arith, are.for_each)))
        (rw last (node_next fs (node_facts fs node) node.op (kind_of node) stands.by_kind
        (get_or_push fs (node_facts fs node) (leaf_facts (record { 0 = 0 })) (length fs) refl)
        (λ m below. get_or_append_left fs (node_facts fs node ∷ []) (leaf_facts (record { 0 = 0 })) m below)))

all_facts : (rest done : List PlanNode) (fs : List NodeFacts) → IsFacts done fs → AllStand fs rest → IsFacts (done ++ rest) (facts_after fs rest)
all_facts [] done fs are all = rw (append-nil done) are
all_facts (node ∷ rest) done fs are all =
    rw append_assoc at (all_facts rest (done ++ node ∷ []) (fs ++ node_facts fs node ∷ []) (next_facts done fs node are all.0) all.1)

-- the facts that are gathered are those of the plan
pub plan_facts : (plan : Plan) → IsPlan plan → IsFacts plan.nodes (facts_after [] plan.nodes)
plan_facts plan is =
    all_facts plan.nodes [] [] (record { for_each = refl; node = λ n below. absurd (omega (arith, below)) }) (plan_stands plan is)

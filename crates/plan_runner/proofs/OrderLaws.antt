-- Steps do the nodes of the plan in order.
use Rattle.std.proofs.Common.{◌≡◌, true, ℕ, zero, suc, ◌+◌, ◌-◌, ◌<◌, ◌≤◌, List, [], ◌∷◌, ◌++◌, length, get_or, Some, None, ◌⊎◌, inl, inr, refl, sym, ◌∙◌, ap, subst, arith}
use Rattle.std.specs.List.{cons_option, range_with_len}
use Rattle.std.proofs.lemmas.List.{append-nil, get_or_push, length-append}
use Rattle.std.proofs.lemmas.List.Quantifiers.{position-Some}
use Rattle.std.proofs.lemmas.List.Elements.{filter_map-append}
use Rattle.extended_plan.proofs.SpanLaws.{first_low, span_at}
use Rattle.extended_plan.specs.Spans.{IsSpan, first_of, firsts_of}
use Rattle.extended_plan.proofs.PlaceLaws.{leaf_below, node_below, one_operand, two_operands}
use Rattle.extended_plan.proofs.ViewLaws.{node_is}
use Rattle.extended_plan.specs.Ready.{IsReady}
use Rattle.extended_plan.specs.Setting.{Setting, is_base, kind_at, known_at, leaf_of, op_at, root}
use Rattle.extended_plan.specs.Term.{Term, Leaf, Enc, Dec, Send, Un, Bin, node_of, spell}
use Rattle.mq_base.specs.declared.ids.NodeId.{NodeId}
use Rattle.mq_base.specs.declared.ids.TableId.{TableId}
use Rattle.mq_base.specs.declared.plan.PlanNode.{PlanNode}
use Rattle.mq_base.specs.declared.plan.PlanOp.{PlanOp}
use Rattle.mq_base.specs.declared.plan.PlanOp.TheVariants as op
use Rattle.mq_base.specs.declared.plan.Step.{Step}
use Rattle.mq_base.specs.declared.plan.Step.TheVariants as step
use Rattle.plan_algebra.specs.declared.facts.NodeFacts.{NodeFacts}
use Rattle.plan_algebra.specs.declared.kind.Kind.{Kind}
use Rattle.plan_algebra.specs.declared.kind.Kind.TheVariants as kind
use Rattle.plan_algebra.proofs.PlanLaws.{nodes-length}
use Rattle.plan_algebra.specs.Facts.{IsNodeAt}
use Rattle.plan_algebra.specs.Nodes.{leaf_node, tree_of}
use Rattle.plan_algebra.specs.Tree as tree
use Rattle.plan_algebra.specs.Tree.{Tree, size}
use Rattle.provider_engine.proofs.TypedLaws.{narrow_root}
use Rattle.provider_engine.specs.Wide.{IsWide, NoneIsWide, tree_of_node}
use Rattle.row_algebra.specs.Contents.{Contents}
use Rattle.plan_runner.specs.inside.Order.{does, done}
use Rattle.plan_runner.specs.inside.UnderWay.{IsInOrder}

-- ---- one step

-- a list of numbers in order, after its first one
first_of_range : (n a k : ℕ) (rest : List ℕ) → n ∷ rest ≡ range_with_len a k → (n ≡ a) × (rest ≡ range_with_len (a + 1) (k - 1))
first_of_range n a zero rest is = cc
first_of_range n a (suc k) rest is =
    let less : k ≡ suc k - 1 = omega arith in
    let tail : rest ≡ range_with_len (a + 1) k = cc in
    (cc, tail ∙ ap (range_with_len (a + 1)) less)

-- a step that does no node leaves the order as it is
pub order_stays : (s : Setting) (contents : Contents) (taking : Step) (left : List Step) → does s taking ≡ None
    → IsInOrder s contents (taking ∷ left) → IsInOrder s contents left
order_stays s contents taking left none order = record {
  next = order.next;
  does = sym (ap (λ o. cons_option o (done s left)) none) ∙ order.does;
  narrow = order.narrow;
}

-- a node that a step does is the next one
pub next_done : (s : Setting) (contents : Contents) (taking : Step) (left : List Step) (n : ℕ) → does s taking ≡ Some n
    → (order : IsInOrder s contents (taking ∷ left))
    → (n ≡ order.next) × (done s left ≡ range_with_len (order.next + 1) (length s.basis.nodes - order.next - 1))
next_done s contents taking left n does_n order =
    first_of_range n order.next (length s.basis.nodes - order.next) (done s left)
    (sym (ap (λ o. cons_option o (done s left)) does_n) ∙ order.does)

below_next : (m n : ℕ) → m < n + 1 → (m < n) ⊎ (n ≡ m)
below_next m n below = grind arith

-- and the order goes on, where it is not wide
pub order_goes : (s : Setting) (contents : Contents) (taking : Step) (left : List Step) (n : ℕ) → does s taking ≡ Some n
    → NoneIsWide contents (tree_of_node s.basis.nodes n) → IsInOrder s contents (taking ∷ left) → IsInOrder s contents left
order_goes s contents taking left n does_n none order = record {
  next = order.next + 1;
  does = is_next.1 ∙ ap (range_with_len (order.next + 1)) (one_less (length s.basis.nodes) order.next);
  narrow = λ m below. by_place m (below_next m order.next below);
}
  where
    is_next : (n ≡ order.next) × (done s left ≡ range_with_len (order.next + 1) (length s.basis.nodes - order.next - 1))
    is_next = next_done s contents taking left n does_n order

    one_less : (all next : ℕ) → all - next - 1 ≡ all - (next + 1)
    one_less all next = omega arith

    by_place : (m : ℕ) → (m < order.next) ⊎ (order.next ≡ m) → IsWide contents s.basis.nodes m → ⊥
    by_place m (inl before) wide = order.narrow m before wide
    by_place m (inr here) wide =
        let there : NoneIsWide contents (tree_of_node s.basis.nodes m) =
        subst (λ i. NoneIsWide contents (tree_of_node s.basis.nodes i)) (is_next.0 ∙ here) none in
        omega (arith, narrow_root contents (tree_of_node s.basis.nodes m) there, wide)

-- ---- the steps of a term

range-append : (a k m : ℕ) → range_with_len a (k + m) ≡ range_with_len a k ++ range_with_len (a + k) m
range-append a zero m =
    let sum : 0 + m ≡ m = omega arith in
    let start : a ≡ a + 0 = omega arith in
    ap (range_with_len a) sum ∙ ap (λ i. range_with_len i m) start
range-append a (suc k) m =
    let sum : suc k + m ≡ suc (k + m) = omega arith in
    let start : a + 1 + k ≡ a + suc k = omega arith in
    ap (range_with_len a) sum ∙ ap (λ xs. a ∷ xs) (range-append (a + 1) k m ∙ ap (λ i. range_with_len (a + 1) k ++ range_with_len i m) start)

-- the numbers from one up to another
abbrev upto : ℕ → ℕ → List ℕ
upto first last = range_with_len first (last + 1 - first)

-- numbers up to one, and those from the next one on
upto-append : (first middle last : ℕ) → first ≤ middle → middle < last → upto first middle ++ upto (middle + 1) last ≡ upto first last
upto-append first middle last low high =
    let start : middle + 1 ≡ first + (middle + 1 - first) = omega arith in
    let count : (middle + 1 - first) + (last + 1 - (middle + 1)) ≡ last + 1 - first = omega arith in
    ap (λ i. upto first middle ++ range_with_len i (last + 1 - (middle + 1))) start
    ∙ sym (range-append first (middle + 1 - first) (last + 1 - (middle + 1)))
    ∙ ap (range_with_len first) count

upto-one : (n : ℕ) → n ∷ [] ≡ upto n n
upto-one n = let one : suc zero ≡ n + 1 - n = omega arith in ap (range_with_len n) one

nothing : (ns : List ℕ) → ns ++ [] ≡ ns
nothing ns = append-nil ns

-- the leaf of a table is a leaf
base_kind : (facts : ℕ → NodeFacts) (n : ℕ) (t : TableId) (operation : PlanOp) (k : Kind) → IsNodeAt facts n operation k
    → is_base t operation ≡ true → k ≡ kind.Leaf
base_kind facts n t (op.Base u used) kind.Leaf at is = refl
base_kind facts n t (op.Base u used) (kind.One x) at is = absurd at.stands
base_kind facts n t (op.Base u used) (kind.Two x y) at is = absurd at.stands
base_kind facts n t _ k at is = cc

leaf_kind : (s : Setting) → IsReady s → (t : TableId) (n : ℕ) → leaf_of s t ≡ Some n → kind_at s n ≡ kind.Leaf
leaf_kind s ready t n gives =
    let found = position-Some (λ (node : PlanNode). is_base t node.op) s.basis.nodes n (leaf_node (record { 0 = 0 }) (record { 0 = 0 })) gives in
    base_kind (known_at s) n t (op_at s n) (kind_at s n) (ready.facts.node n (leaf_below s t n gives)) found.1

-- the nodes up to the operands of a node, and the node
after_one : (first : ℕ → ℕ) (n : ℕ) (x : NodeId) → first x.0 ≤ x.0 → IsSpan first n (kind.One x) → upto (first x.0) x.0 ++ n ∷ [] ≡ upto (first n) n
after_one first n x low span =
    ap (λ ns. upto (first x.0) x.0 ++ ns) (upto-one n ∙ ap (λ i. upto i n) (sym span.0))
    ∙ upto-append (first x.0) x.0 n low (omega (arith, span.0))
    ∙ ap (λ i. upto i n) (sym span.1)

after_two : (first : ℕ → ℕ) (n : ℕ) (x y : NodeId) → first x.0 ≤ x.0 → IsSpan first n (kind.Two x y)
    → (upto (first x.0) x.0 ++ upto (first y.0) y.0) ++ n ∷ [] ≡ upto (first n) n
after_two first n x y low span =
    ap (λ ns. ns ++ n ∷ [])
    (ap (λ i. upto (first x.0) x.0 ++ upto i y.0) span.2 ∙ upto-append (first x.0) x.0 y.0 low span.0)
    ∙ ap (λ ns. upto (first x.0) y.0 ++ ns) (upto-one n ∙ ap (λ i. upto i n) (sym span.1))
    ∙ upto-append (first x.0) y.0 n (omega (arith, low, span.0)) (omega (arith, span.1))
    ∙ ap (λ i. upto i n) (sym span.3)

-- the steps of a term do the nodes of its subtree, from the first to the last
pub term_done : (s : Setting) → IsReady s → (x : Term) (n : ℕ) → node_of s x ≡ Some n
    → done s (spell x) ≡ upto (first_of s.basis.nodes n) n
term_done s ready (Leaf t) n gives =
    let span : IsSpan (first_of s.basis.nodes) n kind.Leaf =
    subst (IsSpan (first_of s.basis.nodes) n) (leaf_kind s ready t n gives) (span_at s ready n (leaf_below s t n gives)) in
    ap (λ o. cons_option o []) gives ∙ upto-one n ∙ ap (λ i. upto i n) (sym span)
term_done s ready (Enc a x) n gives =
    filter_map-append (does s) (spell x) (step.Enc a ∷ []) ∙ nothing (done s (spell x)) ∙ term_done s ready x n gives
term_done s ready (Dec a x) n gives =
    filter_map-append (does s) (spell x) (step.Dec a ∷ []) ∙ nothing (done s (spell x)) ∙ term_done s ready x n gives
term_done s ready (Send to x) n gives =
    filter_map-append (does s) (spell x) (step.Send to ∷ []) ∙ nothing (done s (spell x)) ∙ term_done s ready x n gives
term_done s ready (Un m x) n gives =
    let on = one_operand s m n x gives in
    let below : m.0 < length s.basis.nodes = node_below s m.0 (kind.One on.1.operand) on.1.kind (λ e. cc) in
    let span : IsSpan (first_of s.basis.nodes) m.0 (kind.One on.1.operand) =
    subst (IsSpan (first_of s.basis.nodes) m.0) on.1.kind (span_at s ready m.0 below) in
    let low = first_low s ready on.1.operand.0 (node_is s x on.1.operand.0 on.1.gives) in
    filter_map-append (does s) (spell x) (step.Un m ∷ [])
    ∙ ap (λ ns. ns ++ m.0 ∷ []) (term_done s ready x on.1.operand.0 on.1.gives)
    ∙ after_one (first_of s.basis.nodes) m.0 on.1.operand low span
    ∙ ap (λ i. upto (first_of s.basis.nodes i) i) on.0
term_done s ready (Bin m x y) n gives =
    let on = two_operands s m n x y gives in
    let below : m.0 < length s.basis.nodes = node_below s m.0 (kind.Two on.1.left_operand on.1.right_operand) on.1.kind (λ e. cc) in
    let span : IsSpan (first_of s.basis.nodes) m.0 (kind.Two on.1.left_operand on.1.right_operand) =
    subst (IsSpan (first_of s.basis.nodes) m.0) on.1.kind (span_at s ready m.0 below) in
    let low = first_low s ready on.1.left_operand.0 (node_is s x on.1.left_operand.0 on.1.left_gives) in
    filter_map-append (does s) (spell x ++ spell y) (step.Bin m ∷ [])
    ∙ ap (λ ns. ns ++ m.0 ∷ [])
    (filter_map-append (does s) (spell x) (spell y)
    ∙ ap (λ ns. ns ++ done s (spell y)) (term_done s ready x on.1.left_operand.0 on.1.left_gives)
    ∙ ap (λ ns. upto (first_of s.basis.nodes on.1.left_operand.0) on.1.left_operand.0 ++ ns)
    (term_done s ready y on.1.right_operand.0 on.1.right_gives))
    ∙ after_two (first_of s.basis.nodes) m.0 on.1.left_operand on.1.right_operand low span
    ∙ ap (λ i. upto (first_of s.basis.nodes i) i) on.0

-- ---- the first node of all

firsts-length : (i : ℕ) (x : Tree) → length (firsts_of i x) ≡ size x
firsts-length i (tree.Leaf t used) = refl
firsts-length i (tree.One op x) = length-append (firsts_of i x) (i ∷ []) ∙ ap (λ k. k + 1) (firsts-length i x)
firsts-length i (tree.Two op x y) =
    length-append (firsts_of i x ++ firsts_of (i + size x) y) (i ∷ [])
    ∙ ap (λ k. k + 1) (length-append (firsts_of i x) (firsts_of (i + size x) y))
    ∙ ap (λ k. k + length (firsts_of (i + size x) y) + 1) (firsts-length i x)
    ∙ ap (λ k. size x + k + 1) (firsts-length (i + size x) y)

-- a tree begins at its first node
firsts-last : (i : ℕ) (x : Tree) → get_or (firsts_of i x) (size x - 1) 0 ≡ i
firsts-last i (tree.Leaf t used) = let none : 0 ≡ 1 - 1 = omega arith in ap (λ k. get_or (i ∷ []) k 0) (sym none)
firsts-last i (tree.One op x) =
    get_or_push (firsts_of i x) i 0 (size x + 1 - 1) (omega (arith, firsts-length i x))
firsts-last i (tree.Two op x y) =
    get_or_push (firsts_of i x ++ firsts_of (i + size x) y) i 0 (size x + size y + 1 - 1)
    (omega (arith, length-append (firsts_of i x) (firsts_of (i + size x) y), firsts-length i x, firsts-length (i + size x) y))

root_first : (s : Setting) → IsReady s → first_of s.basis.nodes (root s) ≡ 0
root_first s ready =
    let long : length s.basis.nodes ≡ size (tree_of s.basis.nodes) = ap length ready.plan.listed ∙ nodes-length 0 (tree_of s.basis.nodes) in
    ap (λ n. get_or (firsts_of 0 (tree_of s.basis.nodes)) (n - 1) 0) long ∙ firsts-last 0 (tree_of s.basis.nodes)

-- so the steps of a plan do all its nodes in order
pub plan_in_order : (s : Setting) (contents : Contents) → IsReady s → (x : Term) → node_of s x ≡ Some (root s) → IsInOrder s contents (spell x)
plan_in_order s contents ready x gives = record {
  next = 0;
  does = term_done s ready x (root s) gives
      ∙ ap (λ i. upto i (root s)) (root_first s ready)
      ∙ ap (range_with_len 0) (all (length s.basis.nodes) (node_is s x (root s) gives));
  narrow = λ m below. absurd (omega (arith, below));
}
  where
    all : (n : ℕ) → n - 1 < n → n - 1 + 1 - 0 ≡ n - 0
    all n some = omega (arith, some)

-- and after the last step none is left
pub all_narrow : (s : Setting) (contents : Contents) → IsInOrder s contents [] → (n : ℕ) → n < length s.basis.nodes
    → IsWide contents s.basis.nodes n → ⊥
all_narrow s contents order n below = order.narrow n (omega (arith, below, past (length s.basis.nodes - order.next) order.does))
  where
    past : (k : ℕ) → [] ≡ range_with_len order.next k → k ≡ 0
    past zero is = refl
    past (suc k) is = cc

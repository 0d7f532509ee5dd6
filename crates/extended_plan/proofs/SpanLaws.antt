-- The subtree of each node of a plan is a run of nodes that ends with the node.
use Rattle.std.proofs.Common.{◌≡◌, ℕ, zero, suc, ◌+◌, ◌-◌, ◌≤◌, ◌<◌, List, [], ◌∷◌, ◌++◌, length, get_or, ◌⊎◌, inl, inr, refl, sym, ◌∙◌, ap, append_assoc, arith}
use Rattle.std.proofs.lemmas.List.{get_or_append_left, get_or-append_right, get_or_push, length-append}
use Rattle.std.proofs.Math.Path.{subst}
use Rattle.mq_base.specs.declared.plan.PlanNode.{PlanNode}
use Rattle.mq_base.specs.declared.plan.PlanOp.{PlanOp}
use Rattle.plan_algebra.specs.declared.kind.Kind.{Kind}
use Rattle.plan_algebra.specs.declared.kind.Kind.TheVariants as kind
use Rattle.plan_algebra.specs.Kinds.{kind_of}
use Rattle.plan_algebra.specs.Nodes.{last_of, leaf_node, nodes_of, one_node, tree_of, two_node}
use Rattle.plan_algebra.specs.Tree.{Tree, Leaf, One, Two, size}
use Rattle.plan_algebra.proofs.PlanLaws.{nodes-length}
use Rattle.extended_plan.specs.Ready.{IsReady}
use Rattle.extended_plan.specs.Setting.{Setting, kind_at}
use Rattle.extended_plan.specs.Spans.{IsSpan, first_of, firsts_of}

abbrev blank : PlanNode
blank = leaf_node (record { 0 = 0 }) (record { 0 = 0 })

size-some : (x : Tree) → 1 ≤ size x
size-some (Leaf t used) = omega arith
size-some (One op x) = omega arith
size-some (Two op x y) = omega arith

firsts-length : (i : ℕ) (x : Tree) → length (firsts_of i x) ≡ size x
firsts-length i (Leaf t used) = refl
firsts-length i (One op x) = length-append (firsts_of i x) (i ∷ []) ∙ ap (λ k. k + 1) (firsts-length i x)
firsts-length i (Two op x y) =
    length-append (firsts_of i x ++ firsts_of (i + size x) y) (i ∷ [])
    ∙ ap (λ k. k + 1) (length-append (firsts_of i x) (firsts_of (i + size x) y))
    ∙ ap (λ k. k + length (firsts_of (i + size x) y) + 1) (firsts-length i x)
    ∙ ap (λ k. size x + k + 1) (firsts-length (i + size x) y)

-- the firsts of the nodes before the tree's last one
abbrev front : ℕ → Tree → List ℕ
front i (Leaf t used) = []
front i (One op x) = firsts_of i x
front i (Two op x y) = firsts_of i x ++ firsts_of (i + size x) y

front-last : (i : ℕ) (x : Tree) → firsts_of i x ≡ front i x ++ i ∷ []
front-last i (Leaf t used) = refl
front-last i (One op x) = refl
front-last i (Two op x y) = refl

-- where the subtrees of a tree's nodes begin, behind those of other nodes
abbrev begins : List ℕ → Tree → ℕ → ℕ
begins pre x m = get_or (pre ++ firsts_of (length pre) x) m 0

-- the tree itself begins at its first node
begins-last : (pre : List ℕ) (x : Tree) → begins pre x (last_of (length pre) x) ≡ length pre
begins-last pre x =
    let parts : pre ++ firsts_of (length pre) x ≡ (pre ++ front (length pre) x) ++ length pre ∷ [] =
    ap (λ fs. pre ++ fs) (front-last (length pre) x) ∙ sym (append_assoc pre (front (length pre) x) (length pre ∷ [])) in
    let long : length pre + size x ≡ length ((pre ++ front (length pre) x) ++ length pre ∷ []) =
    ap (λ k. length pre + k) (sym (firsts-length (length pre) x)) ∙ sym (length-append pre (firsts_of (length pre) x)) ∙ ap length parts in
    ap (λ fs. get_or fs (last_of (length pre) x) 0) parts
    ∙ get_or_push (pre ++ front (length pre) x) (length pre) 0 (last_of (length pre) x)
    (omega (arith, long, length-append (pre ++ front (length pre) x) (length pre ∷ [])))

-- subtrees that begin alike up to a node
span_agrees : (f g : ℕ → ℕ) (n : ℕ) (k : Kind) → ((m : ℕ) → m ≤ n → f m ≡ g m) → IsSpan f n k → IsSpan g n k
span_agrees f g n kind.Leaf agree is = sym (agree n (omega arith)) ∙ is
span_agrees f g n (kind.One x) agree is =
    (is.0, sym (agree n (omega arith)) ∙ is.1 ∙ agree x.0 (omega (arith, is.0)))
span_agrees f g n (kind.Two x y) agree is = (
  is.0,
  is.1,
  sym (agree y.0 (omega (arith, is.1))) ∙ is.2,
  sym (agree n (omega arith)) ∙ is.3 ∙ agree x.0 (omega (arith, is.0, is.1)),
)

-- the subtree of each node of a tree, behind other nodes
abbrev AreSpans : List ℕ → Tree → Type 0
AreSpans pre x = (k : ℕ) → k < size x → IsSpan (begins pre x) (length pre + k) (kind_of (get_or (nodes_of (length pre) x) k blank))

-- more firsts behind change nothing before
begins-more : (pre fs more : List ℕ) (m : ℕ) → m < length (pre ++ fs) → get_or (pre ++ fs) m 0 ≡ get_or (pre ++ (fs ++ more)) m 0
begins-more pre fs more m below =
    sym (get_or_append_left (pre ++ fs) more 0 m below) ∙ ap (λ gs. get_or gs m 0) (append_assoc pre fs more)

long_enough : (pre : List ℕ) (x : Tree) → length (pre ++ firsts_of (length pre) x) ≡ length pre + size x
long_enough pre x = length-append pre (firsts_of (length pre) x) ∙ ap (λ k. length pre + k) (firsts-length (length pre) x)

two_places : (k n : ℕ) → k < n + 1 → (k < n) ⊎ (k ≡ n)
two_places k n below = grind arith

one_spans : (op : PlanOp) (x : Tree) (pre : List ℕ) → AreSpans pre x → AreSpans pre (One op x)
one_spans op x pre are k below = by_place (two_places k (size x) below)
  where
    agree : (m : ℕ) → m < length pre + size x → begins pre x m ≡ begins pre (One op x) m
    agree m under = begins-more pre (firsts_of (length pre) x) (length pre ∷ []) m (omega (arith, under, long_enough pre x))

    by_place : (k < size x) ⊎ (k ≡ size x) → IsSpan (begins pre (One op x)) (length pre + k) (kind_of (get_or (nodes_of (length pre) (One op x)) k blank))
    by_place (inl before) =
        subst (λ node. IsSpan (begins pre (One op x)) (length pre + k) (kind_of node))
        (sym (get_or_append_left (nodes_of (length pre) x) (one_node op (last_of (length pre) x) ∷ []) blank k (omega (arith, before, nodes-length (length pre) x))))
        (span_agrees (begins pre x) (begins pre (One op x)) (length pre + k) _ (λ m upto. agree m (omega (arith, upto, before))) (are k before))
    by_place (inr last) =
        subst (λ node. IsSpan (begins pre (One op x)) (length pre + k) (kind_of node))
        (sym (get_or_push (nodes_of (length pre) x) (one_node op (last_of (length pre) x)) blank k (omega (arith, last, nodes-length (length pre) x)))) (
          omega (arith, last, size-some x),
          ap (begins pre (One op x)) (omega (arith, last)) ∙ begins-last pre (One op x) ∙ sym (begins-last pre x)
              ∙ agree (last_of (length pre) x) (omega (arith, size-some x)),
        )

three_places : (k m n : ℕ) → k < m + n + 1 → (k < m) ⊎ ((m ≤ k) × (k < m + n)) ⊎ (k ≡ m + n)
three_places k m n below = grind arith

module _ (op : PlanOp) (x y : Tree) (pre : List ℕ) where
  abbrev i : ℕ
  i = length pre

  abbrev j : ℕ
  j = length pre + size x

  abbrev pre_too : List ℕ
  pre_too = pre ++ firsts_of (length pre) x

  abbrev root : PlanNode
  root = two_node op (last_of (length pre) x) (last_of (length pre + size x) y)

  long : length pre_too ≡ j
  long = long_enough pre x

  right_of : (n : ℕ) → n ≡ j → pre_too ++ (firsts_of n y ++ i ∷ []) ≡ pre ++ firsts_of i (Two op x y)
  right_of n is =
      ap (λ l. pre_too ++ (firsts_of l y ++ i ∷ [])) is ∙ append_assoc pre (firsts_of i x) (firsts_of j y ++ i ∷ [])
      ∙ ap (λ fs. pre ++ fs) (sym (append_assoc (firsts_of i x) (firsts_of j y) (i ∷ [])))

  agree_right : (m : ℕ) → m < j + size y → begins pre_too y m ≡ begins pre (Two op x y) m
  agree_right m under =
      begins-more pre_too (firsts_of (length pre_too) y) (i ∷ []) m (omega (arith, under, long, long_enough pre_too y))
      ∙ ap (λ fs. get_or fs m 0) (right_of (length pre_too) long)

  agree_left : (m : ℕ) → m < j → begins pre x m ≡ begins pre (Two op x y) m
  agree_left m under =
      begins-more pre (firsts_of i x) (firsts_of j y ++ i ∷ []) m (omega (arith, under, long))
      ∙ ap (λ fs. get_or (pre ++ fs) m 0) (sym (append_assoc (firsts_of i x) (firsts_of j y) (i ∷ [])))

  left_end : begins pre (Two op x y) (last_of i x) ≡ i
  left_end = sym (agree_left (last_of i x) (omega (arith, size-some x))) ∙ begins-last pre x

  right_end : begins pre (Two op x y) (last_of j y) ≡ j
  right_end =
      sym (agree_right (last_of j y) (omega (arith, size-some y)))
      ∙ ap (λ l. begins pre_too y (last_of l y)) (sym long) ∙ begins-last pre_too y ∙ long

  node_left : (k : ℕ) → k < size x → get_or (nodes_of i x) k blank ≡ get_or (nodes_of i (Two op x y)) k blank
  node_left k before =
      sym (get_or_append_left (nodes_of i x) (nodes_of j y ++ root ∷ []) blank k (omega (arith, before, nodes-length i x)))
      ∙ ap (λ ns. get_or ns k blank) (sym (append_assoc (nodes_of i x) (nodes_of j y) (root ∷ [])))

  behind : (k : ℕ) → size x ≤ k → get_or (nodes_of j y ++ root ∷ []) (k - size x) blank ≡ get_or (nodes_of i (Two op x y)) k blank
  behind k after =
      sym (get_or-append_right (nodes_of i x) (nodes_of j y ++ root ∷ []) (size x) k blank (nodes-length i x) after)
      ∙ ap (λ ns. get_or ns k blank) (sym (append_assoc (nodes_of i x) (nodes_of j y) (root ∷ [])))

  two_spans : AreSpans pre x → AreSpans pre_too y → AreSpans pre (Two op x y)
  two_spans are are_too k below = by_place (three_places k (size x) (size y) below)
    where
      by_place : (k < size x) ⊎ ((size x ≤ k) × (k < size x + size y)) ⊎ (k ≡ size x + size y)
          → IsSpan (begins pre (Two op x y)) (i + k) (kind_of (get_or (nodes_of i (Two op x y)) k blank))
      by_place (inl before) =
          subst (λ node. IsSpan (begins pre (Two op x y)) (i + k) (kind_of node)) (node_left k before)
          (span_agrees (begins pre x) (begins pre (Two op x y)) (i + k) _ (λ m upto. agree_left m (omega (arith, upto, before))) (are k before))
      by_place (inr (inl both)) =
          let place : k - size x < size y = omega (arith, both.0, both.1) in
          let there : length pre_too + (k - size x) ≡ i + k = omega (arith, long, both.0) in
          subst (λ node. IsSpan (begins pre (Two op x y)) (i + k) (kind_of node))
          (ap (λ l. get_or (nodes_of l y) (k - size x) blank) long
          ∙ sym (get_or_append_left (nodes_of j y) (root ∷ []) blank (k - size x) (omega (arith, place, nodes-length j y))) ∙ behind k both.0)
          (subst (λ n. IsSpan (begins pre (Two op x y)) n (kind_of (get_or (nodes_of (length pre_too) y) (k - size x) blank))) there
          (span_agrees (begins pre_too y) (begins pre (Two op x y)) (length pre_too + (k - size x)) _
          (λ m upto. agree_right m (omega (arith, upto, there, both.1))) (are_too (k - size x) place)))
      by_place (inr (inr last)) =
          subst (λ node. IsSpan (begins pre (Two op x y)) (i + k) (kind_of node))
          (sym (get_or_push (nodes_of j y) root blank (k - size x) (omega (arith, last, nodes-length j y))) ∙ behind k (omega (arith, last))) (
            omega (arith, size-some x, size-some y),
            omega (arith, last, size-some y),
            right_end ∙ omega (arith, size-some x),
            ap (begins pre (Two op x y)) (omega (arith, last)) ∙ begins-last pre (Two op x y) ∙ sym left_end,
          )

-- so each subtree is such a run
spans : (x : Tree) (pre : List ℕ) → AreSpans pre x
spans (Leaf t used) pre k below =
    let none : 0 ≡ k = omega (arith, below) in
    subst (λ m. IsSpan (begins pre (Leaf t used)) (length pre + m) (kind_of (get_or (nodes_of (length pre) (Leaf t used)) m blank))) none
    (ap (begins pre (Leaf t used)) (omega arith) ∙ begins-last pre (Leaf t used) ∙ omega arith)
spans (One op x) pre k below = one_spans op x pre (spans x pre) k below
spans (Two op x y) pre k below = two_spans op x y pre (spans x pre) (spans y (pre ++ firsts_of (length pre) x)) k below

-- and so is that of each node of a plan
pub span_at : (s : Setting) → IsReady s → (n : ℕ) → n < length s.basis.nodes → IsSpan (first_of s.basis.nodes) n (kind_at s n)
span_at s ready n below =
    let tree : Tree = tree_of s.basis.nodes in
    let same : 0 + n ≡ n = omega arith in
    subst (λ nodes. IsSpan (first_of s.basis.nodes) n (kind_of (get_or nodes n blank))) (sym ready.plan.listed)
    (subst (λ m. IsSpan (first_of s.basis.nodes) m (kind_of (get_or (nodes_of 0 tree) n blank))) same
    (spans tree [] n (omega (arith, below, nodes-length 0 tree, ap length ready.plan.listed))))

-- a subtree begins no later than its node
first_low_below : (s : Setting) → IsReady s → (most n : ℕ) → n < most → n < length s.basis.nodes → first_of s.basis.nodes n ≤ n
first_low_below s ready zero n small below = absurd (omega (arith, small))
first_low_below s ready (suc most) n small below = by_kind (kind_at s n) (span_at s ready n below) (λ m lower. first_low_below s ready most m (omega (arith, lower, small)) (omega (arith, lower, below)))
  where
    by_kind : (k : Kind) → IsSpan (first_of s.basis.nodes) n k → ((m : ℕ) → m < n → first_of s.basis.nodes m ≤ m) → first_of s.basis.nodes n ≤ n
    by_kind kind.Leaf is lower = omega (arith, is)
    by_kind (kind.One x) is lower = omega (arith, is.0, is.1, lower x.0 (omega (arith, is.0)))
    by_kind (kind.Two x y) is lower = omega (arith, is.0, is.1, is.3, lower x.0 (omega (arith, is.0, is.1)))

pub first_low : (s : Setting) → IsReady s → (n : ℕ) → n < length s.basis.nodes → first_of s.basis.nodes n ≤ n
first_low s ready n below = first_low_below s ready (suc n) n (omega arith) below

-- The trees of a typed plan: each operation compares values of one type, and no group stands over a group. And trees without wide nodes.
use Rattle.std.proofs.Common.{◌≡◌, ◌⊎◌, inl, inr, ℕ, ◌<◌, ◌≤◌, Bool, true, false, ◌||◌, [], ◌∷◌, ◌++◌, length, refl, sym, subst, arith}
use Rattle.base_laws.proofs.FilterLaws.{each_append, each_first, each_second}
use Rattle.extended_plan.specs.Ready.{IsReady}
use Rattle.extended_plan.specs.Setting.{Setting, op_at}
use Rattle.mq_base.specs.declared.ids.NodeId.{NodeId}
use Rattle.mq_base.specs.declared.plan.PlanOp.{PlanOp}
use Rattle.mq_base.specs.declared.plan.PlanOp.TheVariants as op
use Rattle.mq_base.specs.declared.schema.Schema.{Schema}
use Rattle.plan_algebra.specs.Nodes.{leaf_by, subtrees}
use Rattle.plan_algebra.specs.Tree.{Tree, Leaf, One, Two, sem}
use Rattle.provider_engine.proofs.NodeLaws.{bare_tree, every_node, one_tree, two_tree}
use Rattle.provider_engine.specs.Typed.{AreTyped, IsTypedOp, groups}
use Rattle.provider_engine.specs.Wide.{NodesAreNarrow, NoneIsWide, tree_of_node}
use Rattle.column_table.specs.Tables.{most_rows}
use Rattle.row_algebra.specs.Contents.{Contents}
use Rattle.row_algebra.specs.Values.{value_tests}
use Rattle.provider_engine.proofs.OrLaws.{either}

-- whether an operation of a tree groups
abbrev pub has_group : Tree → Bool
has_group (Leaf t used) = false
has_group (One o x) = groups o || has_group x
has_group (Two o x y) = has_group x || has_group y

-- each operation of a tree compares values of one type, and only rows of tables are grouped, never groups
abbrev pub IsTyped : Schema → Tree → Type 0
IsTyped schema (Leaf t used) = Unit {0}
IsTyped schema (One o x) = IsTyped schema x × IsTypedOp schema o × (groups o ≡ true → has_group x ≡ false)
IsTyped schema (Two o x y) = IsTyped schema x × IsTyped schema y × IsTypedOp schema o

-- a node up to n groups
record HasGroupTo (s : Setting) (n : ℕ) : Type 0 where
  place : ℕ
  early : place ≤ n
  groups_there : groups (op_at s place) ≡ true

-- what is shown of each node: its tree is typed, and where that has a group, a node up to it groups
record IsTypedAt (s : Setting) (n : ℕ) (tree : Tree) : Type 0 where
  typed : IsTyped s.policy.schema tree
  group : has_group tree ≡ true → HasGroupTo s n

later : (s : Setting) (m n : ℕ) → m < n → HasGroupTo s m → HasGroupTo s n
later s m n less has =
    record { place = has.place; early = omega (arith, has.early, less); groups_there = has.groups_there }

bare_typed : (s : Setting) (n : ℕ) (o : PlanOp) → IsTypedAt s n (leaf_by o)
bare_typed s n (op.Base t used) = record { typed = tt; group = λ (no : false ≡ true). cc }
bare_typed s n _ = record { typed = tt; group = λ (no : false ≡ true). cc }

one_typed : (s : Setting) → AreTyped s.policy.schema s.basis.nodes → (n : ℕ) (x : NodeId) → n < length s.basis.nodes → x.0 < n → (t : Tree)
    → IsTypedAt s x.0 t → IsTypedAt s n (One (op_at s n) t)
one_typed s typed n x inside less t is = record {
  typed = (is.typed, typed.typed n inside, λ grouping. by_test grouping (has_group t) refl);
  group = λ has. by_place (either (groups (op_at s n)) (has_group t) has);
}
  where
    by_test : groups (op_at s n) ≡ true → (b : Bool) → has_group t ≡ b → b ≡ false
    by_test grouping false none = refl
    by_test grouping true some =
        let has = is.group some in
        let place : has.place < length s.basis.nodes = omega (arith, has.early, less, inside) in
        absurd (omega (arith, typed.one_group has.place n place inside has.groups_there grouping, has.early, less))

    by_place : (groups (op_at s n) ≡ true) ⊎ (has_group t ≡ true) → HasGroupTo s n
    by_place (inl here) = record { place = n; early = omega arith; groups_there = here }
    by_place (inr below) = later s x.0 n less (is.group below)

two_typed : (s : Setting) → AreTyped s.policy.schema s.basis.nodes → (n : ℕ) (x y : NodeId) → n < length s.basis.nodes → x.0 < n → y.0 < n
    → (t u : Tree) → IsTypedAt s x.0 t → IsTypedAt s y.0 u → IsTypedAt s n (Two (op_at s n) t u)
two_typed s typed n x y inside less also t u left right = record {
  typed = (left.typed, right.typed, typed.typed n inside);
  group = λ has. by_place (either (has_group t) (has_group u) has);
}
  where
    by_place : (has_group t ≡ true) ⊎ (has_group u ≡ true) → HasGroupTo s n
    by_place (inl first) = later s x.0 n less (left.group first)
    by_place (inr second) = later s y.0 n also (right.group second)

-- the tree of each node of a typed plan is typed
pub tree_typed : (s : Setting) → IsReady s → AreTyped s.policy.schema s.basis.nodes → (n : ℕ) → n < length s.basis.nodes
    → IsTyped s.policy.schema (tree_of_node s.basis.nodes n)
tree_typed s ready typed n inside =
    (every_node s ready (λ m. IsTypedAt s m (tree_of_node s.basis.nodes m))
    (λ m within is. subst (IsTypedAt s m) (sym (bare_tree s m within is)) (bare_typed s m (op_at s m)))
    (λ m x within is less below. subst (IsTypedAt s m) (sym (one_tree s ready m x is))
    (one_typed s typed m x within less (tree_of_node s.basis.nodes x.0) below))
    (λ m x y within is less also left right. subst (IsTypedAt s m) (sym (two_tree s ready m x y is))
    (two_typed s typed m x y within less also (tree_of_node s.basis.nodes x.0) (tree_of_node s.basis.nodes y.0) left right)) n inside).typed

-- ---- trees of which no node is wide

abbrev IsNarrow : Contents → Tree → Type 0
IsNarrow contents t = length (sem value_tests contents t) ≤ most_rows

pub narrow_root : (contents : Contents) (t : Tree) → NoneIsWide contents t → IsNarrow contents t
narrow_root contents (Leaf u used) all = all.0
narrow_root contents (One o x) all = (each_second (IsNarrow contents) (subtrees x) (One o x ∷ []) all).0
narrow_root contents (Two o x y) all = (each_second (IsNarrow contents) (subtrees x ++ subtrees y) (Two o x y ∷ []) all).0

pub narrow_one : (contents : Contents) (o : PlanOp) (x : Tree) → NoneIsWide contents (One o x) → NoneIsWide contents x
narrow_one contents o x all = each_first (IsNarrow contents) (subtrees x) (One o x ∷ []) all

pub narrow_left : (contents : Contents) (o : PlanOp) (x y : Tree) → NoneIsWide contents (Two o x y) → NoneIsWide contents x
narrow_left contents o x y all =
    each_first (IsNarrow contents) (subtrees x) (subtrees y)
    (each_first (IsNarrow contents) (subtrees x ++ subtrees y) (Two o x y ∷ []) all)

pub narrow_right : (contents : Contents) (o : PlanOp) (x y : Tree) → NoneIsWide contents (Two o x y) → NoneIsWide contents y
narrow_right contents o x y all =
    each_second (IsNarrow contents) (subtrees x) (subtrees y)
    (each_first (IsNarrow contents) (subtrees x ++ subtrees y) (Two o x y ∷ []) all)

bare_narrow : (contents : Contents) (o : PlanOp) → IsNarrow contents (leaf_by o) → NoneIsWide contents (leaf_by o)
bare_narrow contents (op.Base t used) narrow = (narrow, tt)
bare_narrow contents _ narrow = (narrow, tt)

pub nodes_are_narrow : NodesAreNarrow
nodes_are_narrow s contents ready none n inside =
    every_node s ready (λ m. NoneIsWide contents (tree_of_node s.basis.nodes m))
    (λ m within is. subst (NoneIsWide contents) (sym (bare_tree s m within is))
    (bare_narrow contents (op_at s m) (subst (IsNarrow contents) (bare_tree s m within is) (narrow m within))))
    (λ m x within is less below. subst (NoneIsWide contents) (sym (one_tree s ready m x is))
    (each_append (IsNarrow contents) (subtrees (tree_of_node s.basis.nodes x.0)) (One (op_at s m) (tree_of_node s.basis.nodes x.0) ∷ []) below
    (subst (IsNarrow contents) (one_tree s ready m x is) (narrow m within), tt)))
    (λ m x y within is less also left right. subst (NoneIsWide contents) (sym (two_tree s ready m x y is))
    (each_append (IsNarrow contents) (subtrees (tree_of_node s.basis.nodes x.0) ++ subtrees (tree_of_node s.basis.nodes y.0))
    (Two (op_at s m) (tree_of_node s.basis.nodes x.0) (tree_of_node s.basis.nodes y.0) ∷ [])
    (each_append (IsNarrow contents) (subtrees (tree_of_node s.basis.nodes x.0)) (subtrees (tree_of_node s.basis.nodes y.0)) left right)
    (subst (IsNarrow contents) (two_tree s ready m x y is) (narrow m within), tt))) n inside
  where
    below_or_above : (i k : ℕ) → (i ≤ k) ⊎ (k < i)
    below_or_above i k = grind arith

    narrow : (m : ℕ) → m < length s.basis.nodes → IsNarrow contents (tree_of_node s.basis.nodes m)
    narrow m within = by_size (below_or_above (length (sem value_tests contents (tree_of_node s.basis.nodes m))) most_rows)
      where
        by_size : (length (sem value_tests contents (tree_of_node s.basis.nodes m)) ≤ most_rows)
            ⊎ (most_rows < length (sem value_tests contents (tree_of_node s.basis.nodes m)))
            → IsNarrow contents (tree_of_node s.basis.nodes m)
        by_size (inl few) = few
        by_size (inr many) = absurd (none m within many)

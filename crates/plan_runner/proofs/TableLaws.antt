-- The tables that the steps of a plan take are those of the query, in order.
use Rattle.std.proofs.Common.{◌≡◌, ℕ, ◌+◌, ◌≤◌, Bool, true, false, List, [], ◌∷◌, ◌++◌, map, length, refl, sym, ◌∙◌, ap, append_assoc, arith, Some, None}
use Rattle.std.specs.Prelude.{filter, if◌then◌else◌}
use Rattle.std.specs.List.{AllByRecursion}
use Rattle.std.proofs.lemmas.List.{append-nil}
use Rattle.std.proofs.lemmas.List.Elements.{filter_map-append}
use Rattle.base_laws.proofs.FilterLaws.{each_always, each_append, each_map}
use Rattle.mq_base.specs.declared.ids.TableId.{TableId}
use Rattle.mq_base.specs.declared.plan.PlanNode.{PlanNode}
use Rattle.mq_base.specs.declared.plan.PlanOp.{PlanOp}
use Rattle.mq_base.specs.declared.plan.PlanOp.TheVariants as op
use Rattle.mq_base.specs.declared.plan.Step.TheVariants as step
use Rattle.mq_base.specs.declared.query.Cond.{Cond}
use Rattle.mq_base.specs.declared.query.Cond.TheVariants as cond
use Rattle.mq_base.specs.declared.query.Having.{Having}
use Rattle.mq_base.specs.declared.query.Having.TheVariants as having
use Rattle.mq_base.specs.declared.query.Query.{Query}
use Rattle.mq_base.specs.declared.schema.Schema.{Schema}
use Rattle.mq_base.specs.BoundQuery.{IsBound}
use Rattle.mq_base.specs.Nodes.{is_of, joins, projects, selected_set}
use Rattle.plan_algebra.specs.declared.facts.NodeFacts.{NodeFacts}
use Rattle.plan_algebra.specs.Facts.{IsFormed, IsOneOn, IsTwoOn, facts_of}
use Rattle.plan_algebra.specs.Leaves.{leaf_table, leaf_tables}
use Rattle.plan_algebra.specs.Nodes.{last_of, nodes_of, one_node, tree_of, two_node}
use Rattle.plan_algebra.specs.Plan.{attached, branch, grouping, is_about, join_by, joined, joined_after, kept_by, over, plan_tree, projection, selection, turned, used_of}
use Rattle.plan_algebra.specs.Tree as tree
use Rattle.plan_algebra.specs.Tree.{Tree, size}
use Rattle.extended_plan.proofs.PlaceLaws.{one_operand, two_operands}
use Rattle.extended_plan.specs.Ready.{IsReady}
use Rattle.extended_plan.specs.Setting.{Setting, root}
use Rattle.extended_plan.specs.Term.{Term, Leaf, Enc, Dec, Send, Un, Bin, node_of, spell}
use Rattle.provider_engine.proofs.NodeLaws.{leaf_tree, one_tree, two_tree}
use Rattle.provider_engine.specs.Wide.{tree_of_node}
use Rattle.plan_runner.specs.inside.Order.{taken, takes}

-- the tables of a tree's leaves
abbrev tables_of : Tree → List TableId
tables_of (tree.Leaf t used) = t ∷ []
tables_of (tree.One o x) = tables_of x
tables_of (tree.Two o x y) = tables_of x ++ tables_of y

-- ---- the steps of a term

nothing : (ts : List TableId) → ts ++ [] ≡ ts
nothing ts = append-nil ts

-- the steps of a term take the tables of its node's tree
term_taken : (s : Setting) → IsReady s → (x : Term) (n : ℕ) → node_of s x ≡ Some n → taken (spell x) ≡ tables_of (tree_of_node s.basis.nodes n)
term_taken s ready (Leaf t) n gives = ap tables_of (sym (leaf_tree s ready t n gives).is)
term_taken s ready (Enc a x) n gives =
    filter_map-append takes (spell x) (step.Enc a ∷ []) ∙ nothing (taken (spell x)) ∙ term_taken s ready x n gives
term_taken s ready (Dec a x) n gives =
    filter_map-append takes (spell x) (step.Dec a ∷ []) ∙ nothing (taken (spell x)) ∙ term_taken s ready x n gives
term_taken s ready (Send to x) n gives =
    filter_map-append takes (spell x) (step.Send to ∷ []) ∙ nothing (taken (spell x)) ∙ term_taken s ready x n gives
term_taken s ready (Un m x) n gives =
    let on = one_operand s m n x gives in
    filter_map-append takes (spell x) (step.Un m ∷ []) ∙ nothing (taken (spell x))
    ∙ term_taken s ready x on.1.operand.0 on.1.gives
    ∙ ap tables_of (sym (one_tree s ready m.0 on.1.operand on.1.kind))
    ∙ ap (λ i. tables_of (tree_of_node s.basis.nodes i)) on.0
term_taken s ready (Bin m x y) n gives =
    let on = two_operands s m n x y gives in
    filter_map-append takes (spell x ++ spell y) (step.Bin m ∷ []) ∙ nothing (taken (spell x ++ spell y))
    ∙ filter_map-append takes (spell x) (spell y)
    ∙ ap (λ ts. ts ++ taken (spell y)) (term_taken s ready x on.1.left_operand.0 on.1.left_gives)
    ∙ ap (λ ts. tables_of (tree_of_node s.basis.nodes on.1.left_operand.0) ++ ts) (term_taken s ready y on.1.right_operand.0 on.1.right_gives)
    ∙ ap tables_of (sym (two_tree s ready m.0 on.1.left_operand on.1.right_operand on.1.kind))
    ∙ ap (λ i. tables_of (tree_of_node s.basis.nodes i)) on.0

-- ---- the tables of the plan of a query

-- no operation of a tree with operands is a leaf
abbrev IsInner : PlanOp → Type 0
IsInner o = leaf_table o ≡ None

abbrev IsTree : Tree → Type 0
IsTree (tree.Leaf t used) = Unit {0}
IsTree (tree.One o x) = IsInner o × IsTree x
IsTree (tree.Two o x y) = IsInner o × IsTree x × IsTree y

inner_adds_none : (nodes : List PlanNode) (node : PlanNode) → leaf_table node.op ≡ None → leaf_tables (nodes ++ node ∷ []) ≡ leaf_tables nodes
inner_adds_none nodes node none =
    filter_map-append (λ (n : PlanNode). leaf_table n.op) nodes (node ∷ []) ∙ rw none (append-nil (leaf_tables nodes))

tree_tables : (x : Tree) (i : ℕ) → IsTree x → leaf_tables (nodes_of i x) ≡ tables_of x
tree_tables (tree.Leaf t used) i is = refl
tree_tables (tree.One o x) i is = inner_adds_none (nodes_of i x) (one_node o (last_of i x)) is.0 ∙ tree_tables x i is.1
tree_tables (tree.Two o x y) i is =
    inner_adds_none (nodes_of i x ++ nodes_of (i + size x) y) (two_node o (last_of i x) (last_of (i + size x) y)) is.0
    ∙ filter_map-append (λ (n : PlanNode). leaf_table n.op) (nodes_of i x) (nodes_of (i + size x) y)
    ∙ rw (tree_tables x i is.1, tree_tables y (i + size x) is.2) refl

one_inner : (o : PlanOp) (f : NodeFacts) → IsOneOn o f → IsInner o
one_inner (op.Base t used) f on = absurd on
one_inner _ f on = refl

two_inner : (o : PlanOp) (f g : NodeFacts) → IsTwoOn o f g → IsInner o
two_inner (op.Base t used) f g on = absurd on
two_inner _ f g on = refl

formed_tree : (x : Tree) → IsFormed x → IsTree x
formed_tree (tree.Leaf t used) formed = tt
formed_tree (tree.One o x) formed = (one_inner o (facts_of x) formed.1, formed_tree x formed.0)
formed_tree (tree.Two o x y) formed = (two_inner o (facts_of x) (facts_of y) formed.2, formed_tree x formed.0, formed_tree y formed.1)

-- operations one after the other
over_tree : (ops : List PlanOp) (x : Tree) → AllByRecursion IsInner ops → IsTree x → IsTree (over ops x)
over_tree [] x inner is = is
over_tree (first ∷ rest) x inner is = over_tree rest (tree.One first x) inner.1 (inner.0, is)

over_tables : (ops : List PlanOp) (x : Tree) → tables_of (over ops x) ≡ tables_of x
over_tables [] x = refl
over_tables (first ∷ rest) x = over_tables rest (tree.One first x)

selection_inner : (c : Cond) → IsInner (selection c)
selection_inner (cond.Const a cmp x) = refl
selection_inner (cond.Attrs a cmp b) = refl

selections_inner : (conds : List Cond) → AllByRecursion IsInner (map selection conds)
selections_inner conds = each_map IsInner selection conds (each_always (λ c. IsInner (selection c)) selection_inner conds)

kept_inner : (h : Having) → IsInner (kept_by h)
kept_inner (having.Const a cmp x) = refl
kept_inner (having.Count cmp n) = refl

branch_tree : (schema : Schema) (q : Query) (t : TableId) → IsTree (branch schema q t)
branch_tree schema q t =
    over_tree (map selection (filter (is_about schema t) q.conds)) (tree.Leaf t (used_of schema q t))
    (selections_inner (filter (is_about schema t) q.conds)) tt

branch_tables : (schema : Schema) (q : Query) (t : TableId) → tables_of (branch schema q t) ≡ t ∷ []
branch_tables schema q t = over_tables (map selection (filter (is_about schema t) q.conds)) (tree.Leaf t (used_of schema q t))

join_inner : (schema : Schema) (t : TableId) (c : Cond) → IsInner (join_by schema t c)
join_inner schema t (cond.Const a cmp x) = refl
join_inner schema t (cond.Attrs a cmp b) = by_test (is_of schema t.0 b)
  where
    by_test : (right : Bool) → IsInner (if right then op.Join a cmp b else op.Join b (turned cmp) a)
    by_test true = refl
    by_test false = refl

attached_tree : (schema : Schema) (t : TableId) (links : List Cond) (x y : Tree) → IsTree x → IsTree y → IsTree (attached schema t links x y)
attached_tree schema t [] x y left right = (refl, left, right)
attached_tree schema t (first ∷ rest) x y left right =
    over_tree (map selection rest) (tree.Two (join_by schema t first) x y) (selections_inner rest) (join_inner schema t first, left, right)

attached_tables : (schema : Schema) (t : TableId) (links : List Cond) (x y : Tree)
    → tables_of (attached schema t links x y) ≡ tables_of x ++ tables_of y
attached_tables schema t [] x y = refl
attached_tables schema t (first ∷ rest) x y = over_tables (map selection rest) (tree.Two (join_by schema t first) x y)

joined_after_tree : (schema : Schema) (q : Query) (earlier rest : List TableId) (x : Tree) → IsTree x → IsTree (joined_after schema q earlier x rest)
joined_after_tree schema q earlier [] x is = is
joined_after_tree schema q earlier (t ∷ rest) x is =
    joined_after_tree schema q (earlier ++ t ∷ []) rest (attached schema t (filter (joins schema earlier t) q.conds) x (branch schema q t))
    (attached_tree schema t (filter (joins schema earlier t) q.conds) x (branch schema q t) is (branch_tree schema q t))

joined_after_tables : (schema : Schema) (q : Query) (earlier rest : List TableId) (x : Tree)
    → tables_of (joined_after schema q earlier x rest) ≡ tables_of x ++ rest
joined_after_tables schema q earlier [] x = sym (append-nil (tables_of x))
joined_after_tables schema q earlier (t ∷ rest) x =
    joined_after_tables schema q (earlier ++ t ∷ []) rest (attached schema t (filter (joins schema earlier t) q.conds) x (branch schema q t))
    ∙ ap (λ ts. ts ++ rest) (attached_tables schema t (filter (joins schema earlier t) q.conds) x (branch schema q t)
    ∙ ap (λ ts. tables_of x ++ ts) (branch_tables schema q t))
    ∙ append_assoc (tables_of x) (t ∷ []) rest

joined_tree : (schema : Schema) (q : Query) (tables : List TableId) → IsTree (joined schema q tables)
joined_tree schema q [] = tt
joined_tree schema q (first ∷ rest) = joined_after_tree schema q (first ∷ []) rest (branch schema q first) (branch_tree schema q first)

joined_tables : (schema : Schema) (q : Query) (tables : List TableId) → 1 ≤ length tables → tables_of (joined schema q tables) ≡ tables
joined_tables schema q [] some = absurd (omega arith)
joined_tables schema q (first ∷ rest) some =
    joined_after_tables schema q (first ∷ []) rest (branch schema q first) ∙ ap (λ ts. ts ++ rest) (branch_tables schema q first)

last_inner : (q : Query) → AllByRecursion IsInner (grouping q ++ projection q)
last_inner q = each_append IsInner (grouping q) (projection q) (groups_inner q.grouped) (projects_inner (projects q))
  where
    groups_inner : (b : Bool) → AllByRecursion IsInner (if b then op.Group q.group q.aggs q.count ∷ map kept_by q.having else [])
    groups_inner true = (refl, each_map IsInner kept_by q.having (each_always (λ h. IsInner (kept_by h)) kept_inner q.having))
    groups_inner false = tt

    projects_inner : (b : Bool) → AllByRecursion IsInner (if b then op.Project (record { 0 = selected_set q.items }) ∷ [] else [])
    projects_inner true = (refl, tt)
    projects_inner false = tt

-- the tables of the leaves of a plan are those of its query
plan_tables : (schema : Schema) (q : Query) → IsBound schema q → (nodes : List PlanNode) → nodes ≡ nodes_of 0 (plan_tree schema q)
    → leaf_tables nodes ≡ q.tables
plan_tables schema q bound nodes listed =
    ap leaf_tables listed
    ∙ tree_tables (plan_tree schema q) 0
    (over_tree (grouping q ++ projection q) (joined schema q q.tables) (last_inner q) (joined_tree schema q q.tables))
    ∙ over_tables (grouping q ++ projection q) (joined schema q q.tables)
    ∙ joined_tables schema q q.tables bound.some_table

-- so a plan takes these
pub plan_takes : (s : Setting) → IsReady s → (q : Query) → IsBound s.policy.schema q → s.basis.nodes ≡ nodes_of 0 (plan_tree s.policy.schema q)
    → (x : Term) → node_of s x ≡ Some (root s) → taken (spell x) ≡ q.tables
plan_takes s ready q bound planned x gives =
    term_taken s ready x (root s) gives
    ∙ sym (tree_tables (tree_of s.basis.nodes) 0 (formed_tree (tree_of s.basis.nodes) ready.plan.formed))
    ∙ ap leaf_tables (sym ready.plan.listed)
    ∙ plan_tables s.policy.schema q bound s.basis.nodes planned

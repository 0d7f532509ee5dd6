-- The leaves of the plan of a query have the query's tables, in their order.
use Rattle.std.proofs.Common.{◌≡◌, ℕ, ◌+◌, ◌≤◌, List, [], ◌∷◌, ◌++◌, map, length, refl, sym, ◌∙◌, ap, append_assoc, arith, None}
use Rattle.std.specs.Prelude.{filter}
use Rattle.std.proofs.lemmas.List.{append-nil}
use Rattle.std.proofs.lemmas.List.Elements.{filter_map-append}
use Rattle.mq_base.specs.declared.ids.TableId.{TableId}
use Rattle.mq_base.specs.declared.plan.PlanNode.{PlanNode}
use Rattle.mq_base.specs.declared.plan.PlanOp.{PlanOp}
use Rattle.mq_base.specs.declared.plan.PlanOp.TheVariants as op
use Rattle.mq_base.specs.declared.query.Cond.{Cond}
use Rattle.mq_base.specs.declared.query.Query.{Query}
use Rattle.mq_base.specs.declared.schema.Schema.{Schema}
use Rattle.mq_base.specs.BoundQuery.{IsBound}
use Rattle.mq_base.specs.Nodes.{joins}
use Rattle.mq_base.specs.Schema.{IsSchema}
use Rattle.plan_algebra.specs.declared.facts.NodeFacts.{NodeFacts}
use Rattle.plan_algebra.specs.Facts.{IsFormed, IsOneOn, IsTwoOn, facts_of}
use Rattle.plan_algebra.specs.Leaves.{leaf_table, leaf_tables}
use Rattle.plan_algebra.specs.Nodes.{last_of, nodes_of, one_node, two_node}
use Rattle.plan_algebra.specs.Plan.{attached, branch, grouping, is_about, join_by, joined, joined_after, over, plan_tree, projection, selection, used_of}
use Rattle.plan_algebra.specs.Tree.{Tree, Leaf, One, Two, size}
use Rattle.plan_algebra.proofs.GroupedLaws.{plan-formed}

-- the tables of a tree's leaves
abbrev tables_of : Tree → List TableId
tables_of (Leaf t used) = t ∷ []
tables_of (One o x) = tables_of x
tables_of (Two o x y) = tables_of x ++ tables_of y

-- an operation with operands is no leaf
one_inner : (o : PlanOp) (f : NodeFacts) → IsOneOn o f → leaf_table o ≡ None
one_inner (op.Base t used) f on = absurd on
one_inner _ f on = refl

two_inner : (o : PlanOp) (f g : NodeFacts) → IsTwoOn o f g → leaf_table o ≡ None
two_inner (op.Base t used) f g on = absurd on
two_inner _ f g on = refl

inner_adds_none : (nodes : List PlanNode) (node : PlanNode) → leaf_table node.op ≡ None → leaf_tables (nodes ++ node ∷ []) ≡ leaf_tables nodes
inner_adds_none nodes node none =
    filter_map-append (λ (n : PlanNode). leaf_table n.op) nodes (node ∷ []) ∙ rw none (append-nil (leaf_tables nodes))

tree_tables : (x : Tree) (i : ℕ) → IsFormed x → leaf_tables (nodes_of i x) ≡ tables_of x
tree_tables (Leaf t used) i formed = refl
tree_tables (One o x) i formed =
    inner_adds_none (nodes_of i x) (one_node o (last_of i x)) (one_inner o (facts_of x) formed.1) ∙ tree_tables x i formed.0
tree_tables (Two o x y) i formed =
    inner_adds_none (nodes_of i x ++ nodes_of (i + size x) y) (two_node o (last_of i x) (last_of (i + size x) y))
    (two_inner o (facts_of x) (facts_of y) formed.2)
    ∙ filter_map-append (λ (n : PlanNode). leaf_table n.op) (nodes_of i x) (nodes_of (i + size x) y)
    ∙ rw (tree_tables x i formed.0, tree_tables y (i + size x) formed.1) refl

over_tables : (ops : List PlanOp) (x : Tree) → tables_of (over ops x) ≡ tables_of x
over_tables [] x = refl
over_tables (first ∷ rest) x = over_tables rest (One first x)

branch_tables : (schema : Schema) (q : Query) (t : TableId) → tables_of (branch schema q t) ≡ t ∷ []
branch_tables schema q t = over_tables (map selection (filter (is_about schema t) q.conds)) (Leaf t (used_of schema q t))

attached_tables : (schema : Schema) (t : TableId) (links : List Cond) (x y : Tree)
    → tables_of (attached schema t links x y) ≡ tables_of x ++ tables_of y
attached_tables schema t [] x y = refl
attached_tables schema t (first ∷ rest) x y = over_tables (map selection rest) (Two (join_by schema t first) x y)

joined_after_tables : (schema : Schema) (q : Query) (earlier rest : List TableId) (x : Tree)
    → tables_of (joined_after schema q earlier x rest) ≡ tables_of x ++ rest
joined_after_tables schema q earlier [] x = sym (append-nil (tables_of x))
joined_after_tables schema q earlier (t ∷ rest) x =
    joined_after_tables schema q (earlier ++ t ∷ []) rest (attached schema t (filter (joins schema earlier t) q.conds) x (branch schema q t))
    ∙ ap (λ ts. ts ++ rest) (attached_tables schema t (filter (joins schema earlier t) q.conds) x (branch schema q t)
    ∙ ap (λ ts. tables_of x ++ ts) (branch_tables schema q t))
    ∙ append_assoc (tables_of x) (t ∷ []) rest

joined_tables : (schema : Schema) (q : Query) (tables : List TableId) → 1 ≤ length tables → tables_of (joined schema q tables) ≡ tables
joined_tables schema q [] some = absurd (omega arith)
joined_tables schema q (first ∷ rest) some =
    joined_after_tables schema q (first ∷ []) rest (branch schema q first) ∙ ap (λ ts. ts ++ rest) (branch_tables schema q first)

pub plan-leaves : (schema : Schema) (q : Query) → IsSchema schema → IsBound schema q → (nodes : List PlanNode)
    → nodes ≡ nodes_of 0 (plan_tree schema q) → leaf_tables nodes ≡ q.tables
plan-leaves schema q ok bound nodes listed =
    ap leaf_tables listed ∙ tree_tables (plan_tree schema q) 0 (plan-formed schema q ok bound)
    ∙ over_tables (grouping q ++ projection q) (joined schema q q.tables) ∙ joined_tables schema q q.tables bound.some_table

-- The plan as a list that grows is the plan as a tree, listed in post-order.
use Rattle.std.proofs.Common.{◌≡◌, ℕ, ◌+◌, ◌-◌, List, [], ◌∷◌, ◌++◌, map, length, refl, ◌∙◌, ap, zero-add, append_assoc, arith}
use Rattle.std.specs.Prelude.{filter}
use Rattle.std.proofs.lemmas.List.{length-append}
use Rattle.mq_base.specs.declared.ids.TableId.{TableId}
use Rattle.mq_base.specs.declared.plan.PlanNode.{PlanNode}
use Rattle.mq_base.specs.declared.plan.PlanOp.{PlanOp}
use Rattle.mq_base.specs.declared.plan.PlanOp.TheVariants as op
use Rattle.mq_base.specs.declared.query.Cond.{Cond}
use Rattle.mq_base.specs.declared.query.Query.{Query}
use Rattle.mq_base.specs.declared.schema.Schema.{Schema}
use Rattle.mq_base.specs.Nodes.{joins}
use Rattle.plan_algebra.specs.inside.Building.{attached_on, beside_last, branch_on, over_all, over_last, plan_nodes, table_on, tables_after, tables_on}
use Rattle.plan_algebra.specs.Nodes.{last_of, nodes_of, one_node, two_node}
use Rattle.plan_algebra.specs.Plan.{attached, branch, grouping, is_about, join_by, joined, joined_after, over, plan_tree, projection, selection, used_of}
use Rattle.plan_algebra.specs.Tree.{Tree, Leaf, One, Two, size}

-- a tree has as many nodes as it lists
pub nodes-length : (i : ℕ) (x : Tree) → length (nodes_of i x) ≡ size x
nodes-length i (Leaf t used) = refl
nodes-length i (One op x) = simp length-append (omega (arith, nodes-length i x))
nodes-length i (Two op x y) = simp length-append (omega (arith, nodes-length i x, nodes-length (i + size x) y))

-- a node on a tree
over_last-tree : (op : PlanOp) (b : List PlanNode) (x : Tree)
    → over_last op (b ++ nodes_of (length b) x) ≡ b ++ nodes_of (length b) (One op x)
over_last-tree op b x =
    rw (length-append, nodes-length) (append_assoc b (nodes_of (length b) x) (one_node op (last_of (length b) x) ∷ []))

over_all-tree : (ops : List PlanOp) (b : List PlanNode) (x : Tree)
    → over_all ops (b ++ nodes_of (length b) x) ≡ b ++ nodes_of (length b) (over ops x)
over_all-tree [] b x = refl
over_all-tree (first ∷ rest) b x = ap (over_all rest) (over_last-tree first b x) ∙ over_all-tree rest b (One first x)

branch-tree : (schema : Schema) (q : Query) (t : TableId) (b : List PlanNode)
    → branch_on schema q t b ≡ b ++ nodes_of (length b) (branch schema q t)
branch-tree schema q t b = over_all-tree (map selection (filter (is_about schema t) q.conds)) b (Leaf t (used_of schema q t))

-- a node on two trees, of which the first begins the list
beside-tree : (op : PlanOp) (x y : Tree)
    → beside_last op (length (nodes_of 0 x) - 1) (nodes_of 0 x ++ nodes_of (length (nodes_of 0 x)) y) ≡ nodes_of 0 (Two op x y)
beside-tree op x y =
    let whole : length (nodes_of 0 x ++ nodes_of (size x) y) ≡ 0 + size x + size y =
    simp length-append (omega (arith, nodes-length 0 x, nodes-length (size x) y)) in
    rw (nodes-length 0 x) (rw whole (omitted x y))
  where
    omitted : (x y : Tree)
        → (nodes_of 0 x ++ nodes_of (size x) y) ++ two_node op (size x - 1) (0 + size x + size y - 1) ∷ [] ≡ nodes_of 0 (Two op x y)
    omitted x y = simp zero-add

attached-tree : (schema : Schema) (t : TableId) (links : List Cond) (x y : Tree)
    → attached_on schema t links (length (nodes_of 0 x) - 1) (nodes_of 0 x ++ nodes_of (length (nodes_of 0 x)) y)
    ≡ nodes_of 0 (attached schema t links x y)
attached-tree schema t [] x y = beside-tree op.Product x y
attached-tree schema t (first ∷ rest) x y =
    ap (over_all (map selection rest)) (beside-tree (join_by schema t first) x y)
    ∙ over_all-tree (map selection rest) [] (Two (join_by schema t first) x y)

table-tree : (schema : Schema) (q : Query) (earlier : List TableId) (t : TableId) (x : Tree)
    → table_on schema q earlier t (nodes_of 0 x)
    ≡ nodes_of 0 (attached schema t (filter (joins schema earlier t) q.conds) x (branch schema q t))
table-tree schema q earlier t x =
    ap (attached_on schema t (filter (joins schema earlier t) q.conds) (length (nodes_of 0 x) - 1)) (branch-tree schema q t (nodes_of 0 x))
    ∙ attached-tree schema t (filter (joins schema earlier t) q.conds) x (branch schema q t)

tables-tree : (schema : Schema) (q : Query) (earlier rest : List TableId) (x : Tree)
    → tables_after schema q earlier rest (nodes_of 0 x) ≡ nodes_of 0 (joined_after schema q earlier x rest)
tables-tree schema q earlier [] x = refl
tables-tree schema q earlier (t ∷ rest) x =
    ap (tables_after schema q (earlier ++ t ∷ []) rest) (table-tree schema q earlier t x)
    ∙ tables-tree schema q (earlier ++ t ∷ []) rest (attached schema t (filter (joins schema earlier t) q.conds) x (branch schema q t))

joined-tree : (schema : Schema) (q : Query) (tables : List TableId) → tables_on schema q tables ≡ nodes_of 0 (joined schema q tables)
joined-tree schema q [] = refl
joined-tree schema q (first ∷ rest) =
    ap (tables_after schema q (first ∷ []) rest) (branch-tree schema q first [])
    ∙ tables-tree schema q (first ∷ []) rest (branch schema q first)

-- the whole plan
pub plan-tree : (schema : Schema) (q : Query) → plan_nodes schema q ≡ nodes_of 0 (plan_tree schema q)
plan-tree schema q =
    ap (over_all (grouping q ++ projection q)) (joined-tree schema q q.tables)
    ∙ over_all-tree (grouping q ++ projection q) [] (joined schema q q.tables)

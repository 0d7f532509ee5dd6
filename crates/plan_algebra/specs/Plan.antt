-- The plan of a query, step by step. docs/FORMATS.md, "Plan", tells the steps in prose.
use Rattle.std.specs.Prelude.{ℕ, ◌&&◌, Bool, List, [], ◌∷◌, ◌++◌, map, filter, slice_get, if◌then◌else◌, bit_and}
use Rattle.std.specs.Option.{option_map_or}
use Rattle.mq_base.specs.declared.attr_set.AttrSet.{AttrSet}
use Rattle.mq_base.specs.declared.ids.TableId.{TableId}
use Rattle.mq_base.specs.declared.plan.PlanOp.{PlanOp}
use Rattle.mq_base.specs.declared.plan.PlanOp.TheVariants as op
use Rattle.mq_base.specs.declared.query.CmpOp.{CmpOp}
use Rattle.mq_base.specs.declared.query.CmpOp.TheVariants.{Eq, Ne, Lt, Le, Gt, Ge}
use Rattle.mq_base.specs.declared.query.Cond.{Cond}
use Rattle.mq_base.specs.declared.query.Cond.TheVariants as cond
use Rattle.mq_base.specs.declared.query.Having.{Having}
use Rattle.mq_base.specs.declared.query.Having.TheVariants as having
use Rattle.mq_base.specs.declared.query.Query.{Query}
use Rattle.mq_base.specs.declared.schema.Schema.{Schema}
use Rattle.mq_base.specs.declared.schema.TableInfo.{TableInfo}
use Rattle.mq_base.specs.Nodes.{is_of, joins, projects, selected_set, used_set}
use Rattle.plan_algebra.specs.Tree.{Tree, Leaf, One, Two}

-- the set of the columns of a table, where there is such a table
abbrev pub columns_set : Schema → TableId → ℕ
columns_set schema t = option_map_or (λ (info : TableInfo). info.attrs.0) (slice_get schema.tables t.0) 0

-- the used attributes of a table are those of its columns that the query names
abbrev pub used_of : Schema → Query → TableId → AttrSet
used_of schema q t = record { 0 = bit_and (used_set q) (columns_set schema t) }

-- whether a condition names attributes of this table alone
abbrev pub is_about : Schema → TableId → Cond → Bool
is_about schema t (cond.Const a cmp x) = is_of schema t.0 a
is_about schema t (cond.Attrs a cmp b) = is_of schema t.0 a && is_of schema t.0 b

-- a condition as a selection, as it is written
abbrev pub selection : Cond → PlanOp
selection (cond.Const a cmp x) = op.SelConst a cmp x
selection (cond.Attrs a cmp b) = op.SelAttr a cmp b

-- a condition of HAVING as a selection
abbrev pub kept_by : Having → PlanOp
kept_by (having.Const a cmp x) = op.SelConst a cmp x
kept_by (having.Count cmp n) = op.SelCount cmp n

-- operations one after the other, each on the one before it
abbrev pub over : List PlanOp → Tree → Tree
over [] x = x
over (first ∷ rest) x = over rest (One first x)

-- the branch of a table: its used attributes, and then a selection for each condition on it alone, in order
abbrev pub branch : Schema → Query → TableId → Tree
branch schema q t = over (map selection (filter (is_about schema t) q.conds)) (Leaf t (used_of schema q t))

-- a comparison turned round, for its sides exchanged
abbrev pub turned : CmpOp → CmpOp
turned Eq = Eq
turned Ne = Ne
turned Lt = Gt
turned Le = Ge
turned Gt = Lt
turned Ge = Le

-- the join of a condition that links this table with earlier ones: its right attribute is of this table, so a condition
-- that is written the other way is turned round
abbrev pub join_by : Schema → TableId → Cond → PlanOp
join_by schema t (cond.Attrs a cmp b) = if is_of schema t.0 b then op.Join a cmp b else op.Join b (turned cmp) a
join_by schema t (cond.Const a cmp x) = op.Product

-- a further table beside the tree so far: a join by the first of the conditions that link them and a selection for each
-- other one, or else a product
abbrev pub attached : Schema → TableId → List Cond → Tree → Tree → Tree
attached schema t [] x y = Two op.Product x y
attached schema t (first ∷ rest) x y = over (map selection rest) (Two (join_by schema t first) x y)

-- the tree so far, which has the earlier tables, with each further table in turn
abbrev pub joined_after : Schema → Query → List TableId → Tree → List TableId → Tree
joined_after schema q earlier x [] = x
joined_after schema q earlier x (t ∷ rest) =
    joined_after schema q (earlier ++ t ∷ []) (attached schema t (filter (joins schema earlier t) q.conds) x (branch schema q t)) rest

-- the tables in FROM order; a bound query has at least one
abbrev pub joined : Schema → Query → List TableId → Tree
joined schema q [] = Leaf (record { 0 = 0 }) (record { 0 = 0 })
joined schema q (first ∷ rest) = joined_after schema q (first ∷ []) (branch schema q first) rest

-- with GROUP BY the group, and then a selection for each condition of HAVING, in order
abbrev pub grouping : Query → List PlanOp
grouping q = if q.grouped then op.Group q.group q.aggs q.count ∷ map kept_by q.having else []

-- the projection on the selected attributes, where these are not exactly the visible ones; a count column stays
abbrev pub projection : Query → List PlanOp
projection q = if projects q then op.Project (record { 0 = selected_set q.items }) ∷ [] else []

-- the plan of a query
abbrev pub plan_tree : Schema → Query → Tree
plan_tree schema q = over (grouping q ++ projection q) (joined schema q q.tables)

-- Plans and facts of small queries, computed; the values are worked out by hand from the steps of docs/FORMATS.md, "Plan".
use lib.Count.{count_trailing_zeros}
use Rattle.std.proofs.Common.{◌≡◌, ℕ, pos, true, false, Bool, List, [], ◌∷◌, codes, map, refl}
use Rattle.mq_base.specs.declared.attr_set.AttrSet.{AttrSet}
use Rattle.mq_base.specs.declared.ids.AttrId.{AttrId}
use Rattle.mq_base.specs.declared.ids.TableId.{TableId}
use Rattle.mq_base.specs.declared.plan.PlanOp.TheVariants as op
use Rattle.mq_base.specs.declared.query.Agg.TheVariants as agg
use Rattle.mq_base.specs.declared.query.CmpOp.TheVariants.{Eq, Ne, Lt, Gt, Ge}
use Rattle.mq_base.specs.declared.query.Cond.{Cond}
use Rattle.mq_base.specs.declared.query.Cond.TheVariants as cond
use Rattle.mq_base.specs.declared.query.Having.TheVariants as having
use Rattle.mq_base.specs.declared.query.Item.{Item}
use Rattle.mq_base.specs.declared.query.Item.TheVariants as item
use Rattle.mq_base.specs.declared.query.Query.{Query}
use Rattle.mq_base.specs.declared.schema.AttrInfo.{AttrInfo}
use Rattle.mq_base.specs.declared.schema.Schema.{Schema}
use Rattle.mq_base.specs.declared.schema.TableInfo.{TableInfo}
use Rattle.mq_base.specs.declared.value.ValueType.{ValueType}
use Rattle.mq_base.specs.declared.value.ValueType.TheVariants as type
use Rattle.mq_base.specs.declared.value.Value.TheVariants.{Int, Text}
use Rattle.plan_algebra.specs.declared.facts.NodeFacts.{NodeFacts}
use Rattle.plan_algebra.specs.Facts.{facts_of}
use Rattle.plan_algebra.specs.Nodes.{leaf_node, nodes_of, one_node, subtrees, trees_after, two_node}
use Rattle.plan_algebra.specs.Plan.{plan_tree}

abbrev attribute : ℕ → AttrId
attribute a = record { 0 = a }

abbrev members : ℕ → AttrSet
members s = record { 0 = s }

abbrev table : ℕ → TableId
table t = record { 0 = t }

abbrev column : List ℕ → ValueType → ℕ → AttrInfo
column name ty t = record { name = name; ty = ty; table = table t }

abbrev table_with : List ℕ → ℕ → TableInfo
table_with name attrs = record { name = name; owner = record { 0 = 0 }; attrs = members attrs }

abbrev facts : ℕ → List ℕ → Bool → NodeFacts
facts visible eq count = record { visible = members visible; eq = map members eq; count = count }

abbrev facts_in : Schema → Query → List NodeFacts
facts_in schema q = map facts_of (subtrees (plan_tree schema q))

-- patients S, B, D, T (0 to 3) and customers C, P (4, 5)
abbrev pub hospital : Schema
hospital = record {
  tables = table_with (codes "Hosp") 15 ∷ table_with (codes "Ins") 48 ∷ [];
  attrs = column (codes "S") type.Int 0 ∷ column (codes "B") type.Int 0 ∷ column (codes "D") type.Text 0
      ∷ column (codes "T") type.Text 0 ∷ column (codes "C") type.Int 1 ∷ column (codes "P") type.Int 1 ∷ [];
}

-- SELECT T, SUM(P) FROM Hosp JOIN Ins ON S = C WHERE D = 'stroke' GROUP BY T HAVING SUM(P) > 100
abbrev pub premiums : Query
premiums = record {
  items = item.Attr (attribute 3) ∷ item.Attr (attribute 5) ∷ [];
  tables = table 0 ∷ table 1 ∷ [];
  conds = cond.Attrs (attribute 0) Eq (attribute 4) ∷ cond.Const (attribute 2) Eq (Text (codes "stroke")) ∷ [];
  grouped = true;
  group = members 8;
  aggs = (attribute 5, agg.Sum) ∷ [];
  count = false;
  having = having.Const (attribute 5) Gt (Int (pos 100)) ∷ [];
}

-- B is not used; the selected T and P are those that the group leaves, so no projection ends the plan
premiums_plan : nodes_of 0 (plan_tree hospital premiums)
    ≡ leaf_node (table 0) (members 13)
    ∷ one_node (op.SelConst (attribute 2) Eq (Text (codes "stroke"))) 0
    ∷ leaf_node (table 1) (members 48)
    ∷ two_node (op.Join (attribute 0) Eq (attribute 4)) 1 2
    ∷ one_node (op.Group (members 8) ((attribute 5, agg.Sum) ∷ []) false) 3
    ∷ one_node (op.SelConst (attribute 5) Gt (Int (pos 100))) 4
    ∷ []
premiums_plan = refl

premiums_facts : facts_in hospital premiums
    ≡ facts 13 [] false ∷ facts 13 [] false ∷ facts 48 [] false ∷ facts 61 (17 ∷ []) false ∷ facts 40 (17 ∷ []) false
    ∷ facts 40 (17 ∷ []) false ∷ []
premiums_facts = refl

premiums_trees : trees_after [] (nodes_of 0 (plan_tree hospital premiums)) ≡ subtrees (plan_tree hospital premiums)
premiums_trees = refl

-- tables r, s, t of the columns a, b (0, 1), c, d (2, 3), e, f (4, 5)
abbrev pub three : Schema
three = record {
  tables = table_with (codes "r") 3 ∷ table_with (codes "s") 12 ∷ table_with (codes "t") 48 ∷ [];
  attrs = column (codes "a") type.Int 0 ∷ column (codes "b") type.Int 0 ∷ column (codes "c") type.Int 1
      ∷ column (codes "d") type.Int 1 ∷ column (codes "e") type.Int 2 ∷ column (codes "f") type.Int 2 ∷ [];
}

abbrev bare : List Item → List TableId → List Cond → Query
bare items tables conds = record {
  items = items;
  tables = tables;
  conds = conds;
  grouped = false;
  group = members 0;
  aggs = [];
  count = false;
  having = [];
}

-- SELECT a, f FROM r, s, t WHERE c < a AND b = e AND a = 1 AND d >= b AND f <> d
abbrev pub linked : Query
linked = bare (item.Attr (attribute 0) ∷ item.Attr (attribute 5) ∷ []) (table 0 ∷ table 1 ∷ table 2 ∷ [])
    (cond.Attrs (attribute 2) Lt (attribute 0) ∷ cond.Attrs (attribute 1) Eq (attribute 4)
    ∷ cond.Const (attribute 0) Eq (Int (pos 1)) ∷ cond.Attrs (attribute 3) Ge (attribute 1)
    ∷ cond.Attrs (attribute 5) Ne (attribute 3) ∷ [])

-- c < a is turned round to a > c, since a is of the tree so far; the second condition that links a table is kept as written
linked_plan : nodes_of 0 (plan_tree three linked)
    ≡ leaf_node (table 0) (members 3)
    ∷ one_node (op.SelConst (attribute 0) Eq (Int (pos 1))) 0
    ∷ leaf_node (table 1) (members 12)
    ∷ two_node (op.Join (attribute 0) Gt (attribute 2)) 1 2
    ∷ one_node (op.SelAttr (attribute 3) Ge (attribute 1)) 3
    ∷ leaf_node (table 2) (members 48)
    ∷ two_node (op.Join (attribute 1) Eq (attribute 4)) 4 5
    ∷ one_node (op.SelAttr (attribute 5) Ne (attribute 3)) 6
    ∷ one_node (op.Project (members 33)) 7
    ∷ []
linked_plan = refl

linked_facts : facts_in three linked
    ≡ facts 3 [] false ∷ facts 3 [] false ∷ facts 12 [] false ∷ facts 15 (5 ∷ []) false ∷ facts 15 (5 ∷ 10 ∷ []) false
    ∷ facts 48 [] false ∷ facts 63 (5 ∷ 26 ∷ []) false ∷ facts 63 (5 ∷ 58 ∷ []) false ∷ facts 33 (5 ∷ 58 ∷ []) false ∷ []
unfolding count_trailing_zeros
linked_facts = refl

-- SELECT e, f, a, b FROM t, r WHERE a < b AND f >= e
abbrev pub apart : Query
apart = bare (item.Attr (attribute 4) ∷ item.Attr (attribute 5) ∷ item.Attr (attribute 0) ∷ item.Attr (attribute 1) ∷ []) (table 2 ∷ table 0 ∷ [])
    (cond.Attrs (attribute 0) Lt (attribute 1) ∷ cond.Attrs (attribute 5) Ge (attribute 4) ∷ [])

apart_plan : nodes_of 0 (plan_tree three apart)
    ≡ leaf_node (table 2) (members 48)
    ∷ one_node (op.SelAttr (attribute 5) Ge (attribute 4)) 0
    ∷ leaf_node (table 0) (members 3)
    ∷ one_node (op.SelAttr (attribute 0) Lt (attribute 1)) 2
    ∷ two_node op.Product 1 3
    ∷ []
apart_plan = refl

-- the set of a and b is before that of e and f
apart_facts : facts_in three apart
    ≡ facts 48 [] false ∷ facts 48 (48 ∷ []) false ∷ facts 3 [] false ∷ facts 3 (3 ∷ []) false ∷ facts 51 (3 ∷ 48 ∷ []) false ∷ []
unfolding count_trailing_zeros
apart_facts = refl

-- SELECT a, COUNT(*) FROM r GROUP BY a, b HAVING COUNT(*) > 1: the projection on a keeps the count
abbrev pub counted : Query
counted = record {
  items = item.Attr (attribute 0) ∷ item.Count ∷ [];
  tables = table 0 ∷ [];
  conds = [];
  grouped = true;
  group = members 3;
  aggs = [];
  count = true;
  having = having.Count Gt (pos 1) ∷ [];
}

counted_plan : nodes_of 0 (plan_tree three counted)
    ≡ leaf_node (table 0) (members 3)
    ∷ one_node (op.Group (members 3) [] true) 0
    ∷ one_node (op.SelCount Gt (pos 1)) 1
    ∷ one_node (op.Project (members 1)) 2
    ∷ []
counted_plan = refl

counted_facts : facts_in three counted ≡ facts 3 [] false ∷ facts 3 [] true ∷ facts 3 [] true ∷ facts 1 [] true ∷ []
counted_facts = refl

-- The number of nodes and the used attributes of a query that joins, groups and keeps by HAVING, computed.
use Rattle.std.proofs.Common.{◌≡◌, ℕ, pos, true, false, List, [], ◌∷◌, codes, refl}
use Rattle.mq_base.specs.declared.ids.AttrId.{AttrId}
use Rattle.mq_base.specs.declared.ids.TableId.{TableId}
use Rattle.mq_base.specs.declared.query.Agg.TheVariants as agg
use Rattle.mq_base.specs.declared.query.CmpOp.TheVariants as cmp
use Rattle.mq_base.specs.declared.query.Cond.TheVariants as cond
use Rattle.mq_base.specs.declared.query.Having.TheVariants as having
use Rattle.mq_base.specs.declared.query.Item.TheVariants as item
use Rattle.mq_base.specs.declared.query.Query.{Query}
use Rattle.mq_base.specs.declared.schema.AttrInfo.{AttrInfo}
use Rattle.mq_base.specs.declared.schema.Schema.{Schema}
use Rattle.mq_base.specs.declared.value.ValueType.{ValueType}
use Rattle.mq_base.specs.declared.value.ValueType.TheVariants as type
use Rattle.mq_base.specs.declared.value.Value.{Value}
use Rattle.mq_base.specs.declared.value.Value.TheVariants.{Int, Text}
use Rattle.mq_base.specs.Nodes.{node_count, used_set, visible_set}

abbrev attribute : ℕ → AttrId
attribute a = record { 0 = a }

abbrev table : ℕ → TableId
table t = record { 0 = t }

abbrev column : List ℕ → ValueType → ℕ → AttrInfo
column name ty t = record { name = name; ty = ty; table = table t }

-- patients with their disease and treatment, and customers with their premium
abbrev schema : Schema
schema = record {
  tables = record { name = codes "Hosp"; owner = record { 0 = 0 }; attrs = record { 0 = 15 } }
      ∷ record { name = codes "Ins"; owner = record { 0 = 1 }; attrs = record { 0 = 48 } } ∷ [];
  attrs = column (codes "S") type.Int 0 ∷ column (codes "B") type.Int 0 ∷ column (codes "D") type.Text 0
      ∷ column (codes "T") type.Text 0 ∷ column (codes "C") type.Int 1 ∷ column (codes "P") type.Int 1 ∷ [];
}

-- SELECT T, SUM(P) FROM Hosp JOIN Ins ON S = C WHERE D = 'stroke' GROUP BY T HAVING SUM(P) > 100
abbrev query : Query
query = record {
  items = item.Attr (attribute 3) ∷ item.Attr (attribute 5) ∷ [];
  tables = table 0 ∷ table 1 ∷ [];
  conds = cond.Attrs (attribute 0) cmp.Eq (attribute 4) ∷ cond.Const (attribute 2) cmp.Eq (Text (codes "stroke")) ∷ [];
  grouped = true;
  group = record { 0 = 8 };
  aggs = (attribute 5, agg.Sum) ∷ [];
  count = false;
  having = having.Const (attribute 5) cmp.Gt (Int (pos 100)) ∷ [];
}

-- two tables, the join, the selection, the group and the selection of HAVING
pub nodes_computed : node_count schema query ≡ 6
unfolding node_count
nodes_computed = refl

-- D, T, S, P and C are named, and the group leaves T and P visible
pub used_computed : used_set query ≡ 61
used_computed = refl

pub visible_computed : visible_set query ≡ 40
visible_computed = refl

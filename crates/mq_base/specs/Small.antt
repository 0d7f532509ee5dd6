-- That the ids of a query are below 64, so that they are members of a set of attributes. docs/FORMATS.md, "Policy file", says the limit.
use Rattle.std.specs.Prelude.{◌<◌, All}
use Rattle.mq_base.specs.declared.ids.AttrId.{AttrId}
use Rattle.mq_base.specs.declared.query.Agg.{Agg}
use Rattle.mq_base.specs.declared.query.Cond.{Cond}
use Rattle.mq_base.specs.declared.query.Cond.TheVariants as cond
use Rattle.mq_base.specs.declared.query.Item.{Item}
use Rattle.mq_base.specs.declared.query.Item.TheVariants as item
use Rattle.mq_base.specs.declared.query.Query.{Query}

-- the id of an item is, where it has one; so are those of a condition, and that of an attribute under a function
abbrev pub IsSmallItem : Item → Type 0
IsSmallItem (item.Attr a) = a.0 < 64
IsSmallItem item.Count = Unit {0}

abbrev pub IsSmallCond : Cond → Type 0
IsSmallCond (cond.Const a op value) = a.0 < 64
IsSmallCond (cond.Attrs a op b) = (a.0 < 64) × (b.0 < 64)

abbrev pub IsSmallAgg : AttrId × Agg → Type 0
IsSmallAgg p = p.0.0 < 64

-- so are those of a query
pub record HasSmallIds (q : Query) : Type 0 where
  pub items : All IsSmallItem q.items
  pub conds : All IsSmallCond q.conds
  pub aggs : All IsSmallAgg q.aggs

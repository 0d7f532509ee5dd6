-- That the numbers of a query are within 64 bits, as each number that a program holds in 64 bits is.
use Rattle.std.specs.Prelude.{All}
use Rattle.mq_base.specs.declared.value.ValueType.TheVariants as type
use Rattle.mq_base.specs.declared.value.Value.TheVariants as value
use Rattle.mq_base.specs.Value.{IsCell}
use Rattle.sql_reader.specs.Syntax.{Literal, Number, Text, Side, Col, Lit, Condition, Having, Query}
use Rattle.query_bind.specs.Lookup.{all_conditions}

-- a number within 64 bits, or a text
abbrev pub Fits : Literal → Type 0
Fits (Number n) = IsCell type.Int (value.Int n)
Fits (Text inside) = Unit {0}

abbrev pub SideFits : Side → Type 0
SideFits (Col c) = Unit {0}
SideFits (Lit l) = Fits l

abbrev pub ConditionFits : Condition → Type 0
ConditionFits c = SideFits c.right

abbrev pub HavingFits : Having → Type 0
HavingFits h = Fits h.literal

-- each number of the query is within 64 bits
pub record NumbersFit (q : Query) : Type 0 where
  pub conds : All ConditionFits (all_conditions q)
  pub having : All HavingFits q.having

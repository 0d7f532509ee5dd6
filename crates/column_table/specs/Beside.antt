-- What a product and a join of two tables have of their columns and counts, and what a join asks of them. docs/MODEL.md, "Encoded run",
-- tells it in prose.
use Rattle.std.specs.Prelude.{◌≡◌, ℕ, ◌<◌, List, None, IsSome, is_some, option_map}
use Rattle.std.specs.Option.{option_or}
use Rattle.column_table.specs.declared.table.Table.{Table}
use Rattle.column_table.specs.Columns.{at_rows}
use Rattle.column_table.specs.Tables.{column_in}
use Rattle.mq_base.specs.declared.ids.AttrId.{AttrId}

-- a table has the columns of two others, each at rows of its own, and the counts of one that has them
pub record IsBeside (left right made : Table) : Type 0 where
  pub left_rows : List ℕ
  pub right_rows : List ℕ
  pub columns : (a : ℕ) → column_in made a
      ≡ option_or (option_map (at_rows left_rows) (column_in left a)) (option_map (at_rows right_rows) (column_in right a))
  pub counts : is_some made.counts ≡ is_some (option_or left.counts right.counts)

-- the left has the one attribute and not the other, which the right has
pub record AreJoined (left right : Table) (a b : ℕ) : Type 0 where
  pub on_left : IsSome (column_in left a)
  pub on_right : IsSome (column_in right b)
  pub apart : column_in left b ≡ None

-- the attributes of a join, where the left has its left one and not its right one, which the right has
pub record IsJoinOn (left right : Table) (a b : AttrId) : Type 0 where
  pub on_left : a.0 < 64
  pub on_right : b.0 < 64
  pub joined : AreJoined left right a.0 b.0

-- The profile of a table: what it shows, and what it tells beyond that. docs/MODEL.md, "Relation profile", tells it in prose.
use Rattle.std.specs.Prelude.{ℕ, List}
use Rattle.mq_base.specs.declared.attr_set.AttrSet.{AttrSet}

-- the visible plaintext and the visible encrypted attributes; the implicit plaintext and the implicit encrypted ones, by
-- which rows were chosen or grouped; and the disjoint sets of attributes that comparisons made equivalent, in the order of
-- their least members
pub record Profile : Type 0 where
  pub visible_plain : ℕ
  pub visible_encrypted : ℕ
  pub implicit_plain : ℕ
  pub implicit_encrypted : ℕ
  pub equivalent : List AttrSet

-- What the place of an item says, and which tables are among others.
use Rattle.std.proofs.Common.{◌≡◌, ℕ, ◌==◌, List, [], ◌∷◌, refl}
use Rattle.std.specs.List.{list_any}
use Rattle.base_laws.proofs.ListLaws.{position-below}
use Rattle.mq_base.specs.declared.ids.TableId.{TableId}
use Rattle.query_bind.specs.Lookup.{is_among}
use Rattle.query_bind.specs.inside.Results.{numbers}

pub ruleset below = (position-below)

-- a table is among the numbers of others where one of them has its number
pub among-numbers : (t : ℕ) (tables : List TableId) → is_among t (numbers tables) ≡ list_any (λ (other : TableId). other.0 == t) tables
among-numbers t [] = refl
among-numbers t (first ∷ rest) = rw (among-numbers t rest) refl

pub ruleset among = (among-numbers)

-- What a table that is held has by its job: its columns, their types and schemes by node and view, and what their cells open to.
-- docs/MODEL.md, "Encoded run", tells it in prose.
use Rattle.std.specs.Prelude.{◌≡◌, ℕ, ◌<◌, true, false, List, length, Option, Some, None, IfSome, is_some, if◌then◌else◌}
use Rattle.std.specs.List.{All}
use Rattle.base_laws.specs.Sets.{has}
use Rattle.column_table.specs.Cells.{Cell, Plain, Sealed}
use Rattle.column_table.specs.Columns.{Shown}
use Rattle.extended_plan.specs.Job.{IsStateAt}
use Rattle.extended_plan.specs.Setting.{Setting, known_at, op_at}
use Rattle.key_clusters.specs.Keys.{scheme_at}
use Rattle.mq_base.specs.declared.table.Scheme.{Scheme}
use Rattle.mq_base.specs.declared.value.Value.{Value}
use Rattle.mq_base.specs.BoundQuery.{type_at}
use Rattle.mq_base.specs.Value.{IsCell}
use Rattle.provider_engine.specs.declared.held.Held.{Held}
use Rattle.provider_engine.specs.Held.{column_of, counts_of, node_of, state_of}
use Rattle.provider_engine.specs.Opening.{listed_key}
use Rattle.provider_engine.specs.Typed.{groups}
use Rattle.relation_profile.specs.declared.view.View.{View}
use Rattle.sealed_column.specs.Cells.{OpenTo}
use Rattle.sealed_column.specs.Seal.{Opens}

-- a column of an attribute that node n has, in this view: it has the attribute's type, and is sealed under its cluster's scheme exactly
-- where the view says that it is sealed
pub record IsShownAt (s : Setting) (n : ℕ) (view : View) (a : ℕ) (c : Shown) : Type 0 where
  pub visible : has (known_at s n).visible.0 a ≡ true
  pub typed : type_at s.policy.schema a ≡ Some c.ty
  pub sealed : c.scheme ≡ (if has view.enc.0 a then Some (scheme_at s.basis.clusters a) else None)

-- there is a column exactly where node n has the attribute
abbrev pub IsColumnAt : Setting → ℕ → View → ℕ → Option Shown → Type 0
IsColumnAt s n view a None = has (known_at s n).visible.0 a ≡ false
IsColumnAt s n view a (Some c) = IsShownAt s n view a c

-- a table is one of a job: its state is one of its node, which has these columns, and counts exactly where they are told
pub record IsOfJob (s : Setting) (held : Held) : Type 0 where
  pub node : (node_of held).0 < length s.basis.nodes
  pub state : IsStateAt s (node_of held).0 (state_of held)
  pub column : (a : ℕ) → a < 64 → IsColumnAt s (node_of held).0 (state_of held).view a (column_of held a)
  pub counted : is_some (counts_of held) ≡ (known_at s (node_of held).0).count

-- a plain cell stands for its value, and a sealed one of a column for the value whose seal it is
abbrev pub StandsFor : Option Scheme → List ℕ → Cell → Value → Type 0
StandsFor scheme key (Plain v) w = v ≡ w
StandsFor None key (Sealed c) w = ⊥
StandsFor (Some scheme) key (Sealed c) w = Opens scheme key c w

-- a node stands before a group of the plan
pub record IsBeforeGroup (s : Setting) (n : ℕ) : Type 0 where
  pub group : ℕ
  pub before : n < group
  pub below : group < length s.basis.nodes
  pub is_group : groups (op_at s group) ≡ true

-- the cells of a column stand for values of its type; before a group, for such as a table's cell may hold
pub record IsColumnOpened (s : Setting) (keys : List (List ℕ)) (n a : ℕ) (c : Shown) : Type 0 where
  pub values : List Value
  pub opens : OpenTo (StandsFor c.scheme (listed_key keys a)) c.ty c.cells values
  pub small : IsBeforeGroup s n → All (IsCell c.ty) values

-- so do those of each column of a table, under these keys
abbrev pub IsOpenedBy : Setting → List (List ℕ) → Held → Type 0
IsOpenedBy s keys held = (a : ℕ) → a < 64 → IfSome (column_of held a) (IsColumnOpened s keys (node_of held).0 a)

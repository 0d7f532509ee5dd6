-- What sealing and opening make of a column, and of the columns of a table.
use Rattle.std.specs.Prelude.{◌≡◌, ℕ, ◌<◌, List, length, map, set, Option, Some, None}
use Rattle.column_table.specs.Cells.{Plain, Sealed}
use Rattle.column_table.specs.Columns.{Shown}
use Rattle.mq_base.specs.declared.table.Scheme.{Scheme}
use Rattle.mq_base.specs.declared.value.Value.{Value}
use Rattle.mq_base.specs.declared.value.ValueType.{ValueType}
use Rattle.provider_engine.specs.OfJob.{StandsFor}
use Rattle.sealed_column.specs.Cells.{OpenTo}
use Rattle.sealed_column.specs.Seal.{sealed_from}

-- a plain column of these values
abbrev pub plain_column : ValueType → List Value → Shown
plain_column ty values = record { scheme = None; ty = ty; cells = map Plain values }

-- the column of these values sealed at a place in the list of steps, each at its row
abbrev pub locked_column : Scheme → List ℕ → ℕ → ValueType → List Value → Shown
locked_column scheme key place ty values =
    record { scheme = Some scheme; ty = ty; cells = map Sealed (sealed_from scheme key place 0 values) }

-- a column opens to these values under a key
abbrev pub ColumnOpens : List ℕ → Shown → List Value → Type 0
ColumnOpens key c values = OpenTo (StandsFor c.scheme key) c.ty c.cells values

-- a column is that of these values, sealed, and opens to them
pub record IsLocked (scheme : Scheme) (key : List ℕ) (place : ℕ) (ty : ValueType) (values : List Value) (c : Shown) : Type 0 where
  pub sealed : c ≡ locked_column scheme key place ty values
  pub opens : ColumnOpens key c values

-- the columns with another one at a place
abbrev pub with_column : List (Option Shown) → ℕ → Shown → List (Option Shown)
with_column columns a c = set columns a (Some c)

-- the columns have at a place the sealed column of these values in place of what they had
pub record IsLockedAt (scheme : Scheme) (key : List ℕ) (place : ℕ) (ty : ValueType) (values : List Value) (a : ℕ)
    (before after : List (Option Shown)) : Type 0 where
  pub column : Shown
  pub locked : IsLocked scheme key place ty values column
  pub within : a < length before
  pub there : after ≡ with_column before a column

-- the columns have at a place the plain column of these values in place of what they had
pub record IsOpenedAt (ty : ValueType) (values : List Value) (a : ℕ) (before after : List (Option Shown)) : Type 0 where
  pub within : a < length before
  pub there : after ≡ with_column before a (plain_column ty values)

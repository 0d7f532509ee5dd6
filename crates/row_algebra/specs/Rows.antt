-- Rows of any kind of cell, and the operations on them that look at no cell. docs/MODEL.md, "Rows", tells them in prose.
use Rattle.std.specs.Prelude.{◌≡◌, ℕ, Bool, false, List, map, flat_map, Option, None, option_map, if◌then◌else◌}
use Rattle.std.specs.Option.{option_or}
use Rattle.base_laws.specs.Sets.{has}

-- a row gives each attribute its cell, where it has one, and the number of rows that it stands for, where it is told
pub record RowOf (C : Type 0) : Type 0 where
  pub cell : ℕ → Option C
  pub count : Option ℕ

-- the row without cells and count
abbrev pub empty_row : {C : Type 0} → RowOf C
empty_row = record { cell = λ a. None; count = None }

-- the row with the cells of these attributes alone; its count stays
abbrev pub cut : {C : Type 0} → ℕ → RowOf C → RowOf C
cut set r = record { cell = λ a. if has set a then r.cell a else None; count = r.count }

-- two rows beside each other
abbrev pub merge : {C : Type 0} → RowOf C → RowOf C → RowOf C
merge u v = record { cell = λ a. option_or (u.cell a) (v.cell a); count = option_or u.count v.count }

-- each left row in order, and for each the right rows in order
abbrev pub product : {C : Type 0} → List (RowOf C) → List (RowOf C) → List (RowOf C)
product us vs = flat_map (λ u. map (merge u) vs) us

-- the row with each cell changed, by its attribute
abbrev pub mapped : {C D : Type 0} → (ℕ → C → D) → RowOf C → RowOf D
mapped change r = record { cell = λ a. option_map (change a) (r.cell a); count = r.count }

-- the row has cells of the attributes that pass a test alone
abbrev pub IsOf : {C : Type 0} → (ℕ → Bool) → RowOf C → Type 0
IsOf test r = (a : ℕ) → test a ≡ false → r.cell a ≡ None

-- The order of values, and what a cell may hold. docs/FORMATS.md, "Table file", says the limits.
use Rattle.std.specs.Prelude.{◌≡◌, ◌≤◌, Bool, true, length}
use Rattle.std.specs.Ordering.{int_cmp, nat_cmp, eq_by_cmp}
use Rattle.std.specs.declared.cmp.Ordering.{Ordering}
use Rattle.std.specs.declared.cmp.Ordering.TheVariants.{Less, Greater}
use Rattle.std.specs.Cmp.Lexicographic.{slice_cmp}
use Rattle.base_laws.specs.Ranges.{fits_64_bits}
use Rattle.mq_base.specs.declared.value.ValueType.{ValueType}
use Rattle.mq_base.specs.declared.value.ValueType.TheVariants as type
use Rattle.mq_base.specs.declared.value.Value.{Value}
use Rattle.mq_base.specs.declared.value.Value.TheVariants.{Int, Text}

-- INT as numbers, TEXT by bytes, and every INT before every TEXT
abbrev pub value_cmp : Value → Value → Ordering
value_cmp (Int x) (Int y) = int_cmp x y
value_cmp (Int x) (Text t) = Less
value_cmp (Text s) (Int y) = Greater
value_cmp (Text s) (Text t) = slice_cmp nat_cmp s t

-- the type of a value
abbrev pub type_of : Value → ValueType
type_of (Int x) = type.Int
type_of (Text t) = type.Text

-- a value that a cell of this type may hold: an INT within 64 bits, a TEXT of at most 120 bytes
abbrev pub IsCell : ValueType → Value → Type 0
IsCell type.Int (Int x) = fits_64_bits x ≡ true
IsCell type.Text (Text t) = length t ≤ 120
IsCell type.Int (Text t) = ⊥
IsCell type.Text (Int x) = ⊥

-- one value
abbrev pub value_eq : Value → Value → Bool
value_eq = eq_by_cmp value_cmp

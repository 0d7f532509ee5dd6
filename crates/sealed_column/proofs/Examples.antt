-- Small columns, computed; the values are worked out by hand from docs/CIPHERS.md, "Sealed columns".
use Rattle.std.proofs.Common.{◌≡◌, ℕ, pos, negsuc, true, false, List, [], ◌∷◌, ◌++◌, codes, replicate, refl}
use Rattle.std.specs.declared.cmp.Ordering.TheVariants.{Less, Equal, Greater}
use Rattle.mq_base.specs.declared.table.Scheme.TheVariants.{Rnd, Det, Ope}
use Rattle.mq_base.specs.declared.value.Value.{Value}
use Rattle.mq_base.specs.declared.value.Value.TheVariants.{Int, Text}
use Rattle.mq_base.specs.declared.value.ValueType.TheVariants as type
use Rattle.mq_base.specs.Value.{value_cmp}
use Rattle.sealed_column.specs.Cells.{order_at, picked, sum_of}
use Rattle.sealed_column.specs.Rows.{groups_of, paired, pairs_from, rows_at}
use Rattle.sealed_column.specs.Seal.{cell_length, is_value_of, sealed_from, seal}
use Rattle.sealed_column.specs.inside.Opening.{undigits}

-- -1, 0, 5 and -1 again
abbrev numbers : List Value
numbers = Int (negsuc 0) ∷ Int (pos 0) ∷ Int (pos 5) ∷ Int (negsuc 0) ∷ []

-- rows may be listed in any order and more than once, and a row past the end picks nothing
picked_rows : picked numbers (2 ∷ 0 ∷ 2 ∷ 9 ∷ []) ≡ Int (pos 5) ∷ Int (negsuc 0) ∷ Int (pos 5) ∷ []
picked_rows = refl

summed_rows : sum_of (picked numbers (2 ∷ 0 ∷ 2 ∷ [])) ≡ pos 9
summed_rows = refl

no_rows : sum_of (picked numbers []) ≡ pos 0
no_rows = refl

-- the cells at two rows, of one column or of two
orders : (order_at value_cmp numbers 0 numbers 1 ≡ Less) × (order_at value_cmp numbers 0 numbers 3 ≡ Equal)
    × (order_at value_cmp numbers 2 (Int (pos 4) ∷ []) 0 ≡ Greater)
orders = (refl, refl, refl)

-- cells are as long as scheme and type say
lengths : (cell_length Rnd type.Int ≡ 28) × (cell_length Rnd type.Text ≡ 134) × (cell_length Det type.Int ≡ 16)
    × (cell_length Det type.Text ≡ 122) × (cell_length Ope type.Int ≡ 32) × (cell_length Ope type.Text ≡ 240)
lengths = (refl, refl, refl, refl, refl, refl)

-- a TEXT of 120 bytes is a value of its type, and one of 121 is none
limits : (is_value_of type.Text (Text (replicate 120 97)) ≡ true) × (is_value_of type.Text (Text (replicate 121 97)) ≡ false)
    × (is_value_of type.Int (Text []) ≡ false)
limits = (refl, refl, refl)

-- the first value is sealed at row 0 and the second at row 1, both at the place of the step
rows_count : (key : List ℕ) (x y : Value)
    → sealed_from Rnd key 7 0 (x ∷ y ∷ []) ≡ seal Rnd key 7 0 x ∷ seal Rnd key 7 1 y ∷ []
rows_count key x y = refl

-- the digits of "ab" and two that stand for none
bytes_of_digits : undigits (98 ∷ 99 ∷ 0 ∷ 0 ∷ []) ≡ codes "ab"
bytes_of_digits = refl

-- equal cells: the rows of one, the pairs with another column, and the groups, of which the one of -1 comes first
rows_of_one : rows_at value_cmp (Int (negsuc 0)) 0 numbers ≡ 0 ∷ 3 ∷ []
rows_of_one = refl

equal_pairs : pairs_from value_cmp 0 numbers (Int (pos 5) ∷ Int (negsuc 0) ∷ Int (pos 5) ∷ [])
    ≡ paired 0 (1 ∷ []) ++ paired 2 (0 ∷ 2 ∷ []) ++ paired 3 (1 ∷ [])
equal_pairs = refl

equal_groups : groups_of value_cmp numbers ≡ (0 ∷ 3 ∷ []) ∷ (1 ∷ []) ∷ (2 ∷ []) ∷ []
equal_groups = refl

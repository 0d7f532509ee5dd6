-- Facts about all schemes together, for the laws.
use Rattle.std.proofs.Common.{◌≡◌, ℕ, ◌^◌, ◌<◌, true, ℤ, pos, negsuc, List, length, refl, arith}
use Rattle.std.specs.Cmp.Lexicographic.{slice_cmp}
use Rattle.std.specs.Int.{w128}
use Rattle.std.specs.Int.RustNames.{FitsSigned}
use Rattle.std.specs.Ordering.{is_eq, nat_cmp}
use Rattle.base_laws.proofs.RangeLaws.{fits_64_bits-Decides}
use Rattle.base_laws.specs.Ranges.{fits_64_bits}
use Rattle.mq_base.specs.declared.table.Scheme.{Scheme}
use Rattle.mq_base.specs.declared.table.Scheme.TheVariants.{Rnd, Det, Ope}
use Rattle.mq_base.specs.declared.value.Value.{Value}
use Rattle.mq_base.specs.declared.value.Value.TheVariants.{Int, Text}
use Rattle.mq_base.specs.declared.value.ValueType.{ValueType}
use Rattle.mq_base.specs.declared.value.ValueType.TheVariants as type
use Rattle.mq_base.specs.Value.{IsCell, type_of, value_cmp}
use Rattle.sealed_column.proofs.SmallLaws.{short_test}
use Rattle.sealed_column.specs.Laws.{CanBeSealed}
use Rattle.sealed_column.specs.Seal.{HasBytes, Opens}
use Rattle.sealed_column.specs.SealLaws.{det_agrees, ope_agrees}

-- equal cells are those of equal values, but for the randomised scheme
pub equality_kept : (scheme : Scheme) (key c d : List ℕ) (v w : Value) → (scheme ≡ Rnd → ⊥) → Opens scheme key c v
    → Opens scheme key d w → type_of v ≡ type_of w → is_eq (slice_cmp nat_cmp c d) ≡ is_eq (value_cmp v w)
equality_kept Rnd key c d v w fixed first second typed = absurd (fixed refl)
equality_kept Det key c d v w fixed first second typed = det_agrees key c d v w first second typed
equality_kept Ope key c d v w fixed first second typed = ope_agrees key c d v w first second typed

in_64_bits : (x : ℤ) → fits_64_bits x ≡ true → FitsSigned w128 x
in_64_bits (pos n) fits =
    let small : n < 2 ^ 63 = ((fits_64_bits-Decides (pos n)).0 fits).sfits in record { sfits = omega arith }
in_64_bits (negsuc n) fits =
    let small : n < 2 ^ 63 = ((fits_64_bits-Decides (negsuc n)).0 fits).sfits in record { sfits = omega arith }

-- what a table's cell holds can be sealed
pub table_cell : (ty : ValueType) (v : Value) → IsCell ty v → HasBytes v → CanBeSealed ty v
table_cell type.Int (Int x) is bytes = record {
  of_type = refl;
  sealable = record { fits = record { short = tt; representable = in_64_bits x is }; bytes = bytes };
}
table_cell type.Int (Text t) is bytes = absurd is
table_cell type.Text (Int x) is bytes = absurd is
table_cell type.Text (Text t) is bytes = record {
  of_type = short_test (length t) is;
  sealable = record { fits = record { short = is; representable = tt }; bytes = bytes };
}

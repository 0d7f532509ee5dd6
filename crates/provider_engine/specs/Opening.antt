-- The seals of a run: each attribute is sealed under the scheme and the key of its cluster, and a cell is opened to the one value whose
-- seal it is. docs/MODEL.md, "Encoded run", tells it in prose.
use Rattle.std.specs.Prelude.{ℕ, zero, suc, ◌^◌, ◌-◌, Bool, List, [], ◌∷◌, ◌++◌, map, flat_map, find, Option, pos, negsuc, ◌+ℤ◌, slice_index_or}
use Rattle.std.specs.List.{range_with_len}
use Rattle.std.specs.Str.{bytes_eq}
use Rattle.cipher_stream.specs.Stream.{row_of, step_of}
use Rattle.column_table.specs.Cells.{Seals}
use Rattle.key_clusters.specs.declared.assigned.Clusters.{Clusters}
use Rattle.key_clusters.specs.Keys.{scheme_at}
use Rattle.mq_base.specs.declared.table.Scheme.{Scheme}
use Rattle.mq_base.specs.declared.value.Value.{Value}
use Rattle.mq_base.specs.declared.value.Value.TheVariants.{Int, Text}
use Rattle.sealed_column.specs.Seal.{seal}

-- the INT that counts so from the least one of 128 bits
abbrev pub int_from_least : ℕ → Value
int_from_least n = Int (pos n +ℤ negsuc (2 ^ 127 - 1))

-- the lists of at most so many bytes
unfoldable pub bytes_to : ℕ → List (List ℕ)
bytes_to zero = [] ∷ []
bytes_to (suc most) = [] ∷ flat_map (λ byte. map (λ rest. byte ∷ rest) (bytes_to most)) (range_with_len 0 256)

-- all values that are sealed: each INT within 128 bits, and each TEXT of at most 120 bytes
unfoldable pub sealed_values : List Value
sealed_values = map int_from_least (range_with_len 0 (2 ^ 128)) ++ map Text (bytes_to 120)

-- whether a cell is the seal of a value; a randomised one at the place and the row that it names
abbrev pub is_seal : Scheme → List ℕ → List ℕ → Value → Bool
is_seal scheme key cell value = bytes_eq cell (seal scheme key (step_of cell) (row_of cell) value)

-- the one value whose seal a cell is, where there is one
unfoldable pub opened : Scheme → List ℕ → List ℕ → Option Value
opened scheme key cell = find (is_seal scheme key cell) sealed_values

-- the key of an attribute, where each has the key at its place
abbrev pub listed_key : List (List ℕ) → ℕ → List ℕ
listed_key keys a = slice_index_or keys a []

-- seals under these clusters and keys
abbrev pub seals_of : Clusters → List (List ℕ) → Seals
seals_of clusters keys = record {
  seal = λ a place row value. seal (scheme_at clusters a) (listed_key keys a) place row value;
  opened = λ a cell. opened (scheme_at clusters a) (listed_key keys a) cell;
}

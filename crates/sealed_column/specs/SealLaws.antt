-- What the cells of a scheme keep of their values: the proofs of the laws that the states of a column carry.
use Rattle.std.proofs.Common.{◌≡◌, ℕ, zero, suc, ◌/◌, ◌%◌, ◌^◌, ◌<◌, ◌≤◌, List, [], ◌∷◌, length, get_or, replicate, refl, sym, ◌∙◌, ap, arith}
use Rattle.std.proofs.lemmas.Cmp.{nat_list_cmp_total, tied_itself}
use Rattle.std.proofs.lemmas.List.Elements.{All-append, All-nil, All-cons}
use Rattle.std.proofs.lemmas.Map.Lookups.{exact_bytes}
use Rattle.std.specs.Cmp.Lexicographic.{slice_cmp}
use Rattle.std.specs.Int.{byte_at, bytes_high_first}
use Rattle.std.specs.List.{All}
use Rattle.std.specs.Ordering.{is_eq, nat_cmp}
use Rattle.std.specs.declared.cmp.Ordering.{Ordering}
use Rattle.std.specs.declared.cmp.Ordering.TheVariants.{Less, Equal, Greater}
use Rattle.cipher_feistel.proofs.CellLaws as feistel
use Rattle.cipher_feistel.specs.Feistel as feistel_spec
use Rattle.cipher_feistel.specs.Laws.{IsBlock}
use Rattle.cipher_order.proofs.Order as order
use Rattle.cipher_order.specs.Order.{IsDigits}
use Rattle.cipher_stream.proofs.CellLaws as stream
use Rattle.cipher_stream.specs.Stream.{step_of, row_of}
use Rattle.mq_base.proofs.BlockLaws.{block_determines, digits_order, digits_small, lengths_by_type}
use Rattle.mq_base.specs.declared.table.Scheme.{Scheme}
use Rattle.mq_base.specs.declared.table.Scheme.TheVariants.{Rnd, Det, Ope}
use Rattle.mq_base.specs.declared.value.Value.{Value}
use Rattle.mq_base.specs.declared.value.Value.TheVariants.{Int, Text}
use Rattle.mq_base.specs.declared.value.ValueType.{ValueType}
use Rattle.mq_base.specs.declared.value.ValueType.TheVariants as type
use Rattle.mq_base.specs.Bytes.{IsShort, block_of, digits, digits_of, int_block, block_length, digits_length, shifted}
use Rattle.mq_base.specs.Value.{type_of, value_cmp}
use Rattle.mq_base.specs.ValueLaws.{value_ties, value_total}
use Rattle.sealed_column.specs.Seal.{seal, cell_length, IsSealable, Opens}

-- ---- digits are at most 256

rest_is_small : (n : ℕ) → n % 256 < 256
rest_is_small n = omega arith

byte_is_small : (k n : ℕ) → byte_at k n < 256
byte_is_small zero n = rest_is_small n
byte_is_small (suc k) n = rest_is_small (n / 256 ^ suc k)

bytes_are_small : (width n k : ℕ) → get_or (bytes_high_first width n) k 0 < 256
bytes_are_small zero n k = omega arith
bytes_are_small (suc width) n zero = byte_is_small width n
bytes_are_small (suc width) n (suc k) = bytes_are_small width n k

int_block_small : (x : _) (k : ℕ) → get_or (int_block x) k 0 < 256
unfolding int_block
int_block_small x k = bytes_are_small 16 (shifted x) k

no_digits : (n : ℕ) → All (λ digit. digit ≤ 256) (replicate n 0)
no_digits zero = All-nil (λ digit. digit ≤ 256)
no_digits (suc n) = All-cons (λ digit. digit ≤ 256) 0 (replicate n 0) (omega arith) (no_digits n)

bytes_at : (t : List ℕ) → All (λ byte. byte < 256) t → (k : ℕ) → get_or t k 0 < 256
bytes_at [] small k = omega arith
bytes_at (byte ∷ rest) small zero = small 0 0 (omega arith)
bytes_at (byte ∷ rest) small (suc k) = bytes_at rest (λ i d within. small (suc i) d (omega arith)) k

-- the digits of a value that is sealed
pub sealable_digits : (v : Value) → IsSealable v → IsDigits (digits_of v)
sealable_digits (Int x) is = digits_small (int_block x) (int_block_small x)
sealable_digits (Text t) is =
    All-append (λ digit. digit ≤ 256) (digits t) _ (digits_small t (bytes_at t is.bytes)) (no_digits _)

-- ---- lengths

-- a block has an even length of at most 122
pub blocks_fit : (v : Value) → IsShort v → IsBlock (block_of v)
blocks_fit v short = record { even = sized.0; short = sized.1 }
  where
    by_type : (ty : ValueType) (n : ℕ) → n ≡ block_length ty → (n % 2 ≡ 0) × (n ≤ 122)
    by_type type.Int n is = (omega arith, omega arith)
    by_type type.Text n is = (omega arith, omega arith)

    sized : (length (block_of v) % 2 ≡ 0) × (length (block_of v) ≤ 122)
    sized = by_type (type_of v) (length (block_of v)) (lengths_by_type v short).of_block

-- a cell has its scheme's and its value's type's length
pub seal_length : (scheme : Scheme) (key : List ℕ) (place row : ℕ) (v : Value) → IsShort v
    → length (seal scheme key place row v) ≡ cell_length scheme (type_of v)
seal_length Rnd key place row v short =
    omega (arith, stream.cell_length key place row (block_of v), (lengths_by_type v short).of_block)
seal_length Det key place row v short =
    feistel.cell_length key (block_of v) (blocks_fit v short) ∙ (lengths_by_type v short).of_block
seal_length Ope key place row v short =
    omega (arith, order.cell_length key (digits_of v), (lengths_by_type v short).of_digits)

-- ---- a cell opens to one value of a type

same_block_length : (v w : Value) → IsShort v → IsShort w → type_of v ≡ type_of w → length (block_of v) ≡ length (block_of w)
same_block_length v w short short_too typed =
    (lengths_by_type v short).of_block ∙ ap block_length typed ∙ sym (lengths_by_type w short_too).of_block

same_digits_length : (v w : Value) → IsShort v → IsShort w → type_of v ≡ type_of w → length (digits_of v) ≡ length (digits_of w)
same_digits_length v w short short_too typed =
    (lengths_by_type v short).of_digits ∙ ap digits_length typed ∙ sym (lengths_by_type w short_too).of_digits

-- one seal at one place and row is of one value
pub seal_determines : (scheme : Scheme) (key : List ℕ) (place row : ℕ) (v w : Value) → IsSealable v → IsSealable w
    → type_of v ≡ type_of w → seal scheme key place row v ≡ seal scheme key place row w → v ≡ w
seal_determines Rnd key place row v w is is_too typed same =
    block_determines v w is.fits is_too.fits (stream.cells_determine key place row (block_of v) (block_of w) same)
seal_determines Det key place row v w is is_too typed same =
    block_determines v w is.fits is_too.fits
    (feistel.cells_determine key (block_of w) (block_of v) (blocks_fit w is_too.fits.short)
    (same_block_length v w is.fits.short is_too.fits.short typed) same)
seal_determines Ope key place row v w is is_too typed same =
    value_ties v w
    (sym (digits_order v w is.fits is_too.fits typed)
    ∙ ap (λ (d : List ℕ). slice_cmp nat_cmp d (digits_of w))
    (order.sealed_distinct key (digits_of v) (digits_of w) (same_digits_length v w is.fits.short is_too.fits.short typed)
    (sealable_digits v is) (sealable_digits w is_too) same)
    ∙ tied_itself nat_list_cmp_total (digits_of w))

pub opens_once : (scheme : Scheme) (key cell : List ℕ) (v w : Value) → Opens scheme key cell v → Opens scheme key cell w
    → type_of v ≡ type_of w → v ≡ w
opens_once scheme key cell v w first second typed =
    seal_determines scheme key (step_of cell) (row_of cell) v w first.sealable second.sealable typed
    (sym first.is_seal ∙ second.is_seal)

-- ---- seals open

pub seal_opens : (scheme : Scheme) (key : List ℕ) (place row : ℕ) (v : Value) → place < 2 ^ 32 → row < 2 ^ 64 → IsSealable v
    → Opens scheme key (seal scheme key place row v) v
seal_opens Rnd key place row v place_fits row_fits is =
    let named = stream.names_its_place key place row (block_of v) place_fits row_fits in
    record {
      sealable = is;
      is_seal = sym (λ i. seal Rnd key (named.its_step i) (named.its_row i) v);
    }
seal_opens Det key place row v place_fits row_fits is = record { sealable = is; is_seal = refl }
seal_opens Ope key place row v place_fits row_fits is = record { sealable = is; is_seal = refl }

-- ---- equality and order

equal_together : (o p : Ordering) → (o ≡ Equal → p ≡ Equal) → (p ≡ Equal → o ≡ Equal) → is_eq o ≡ is_eq p
equal_together Less Less there back = refl
equal_together Less Greater there back = refl
equal_together Less Equal there back = let tied : Less ≡ Equal = back refl in cc
equal_together Equal Less there back = let tied : Less ≡ Equal = there refl in cc
equal_together Equal Equal there back = refl
equal_together Equal Greater there back = let tied : Greater ≡ Equal = there refl in cc
equal_together Greater Less there back = refl
equal_together Greater Greater there back = refl
equal_together Greater Equal there back = let tied : Greater ≡ Equal = back refl in cc

-- the law of equality of a kind of cell whose seal does not depend on the row
equal_cells : (key c d : List ℕ) (v w : Value) → Opens Det key c v → Opens Det key d w → v ≡ w → c ≡ d
equal_cells key c d v w first second same =
    first.is_seal ∙ ap (λ (u : Value). feistel_spec.sealed key (block_of u)) same ∙ sym second.is_seal

equal_values : (key c d : List ℕ) (v w : Value) → Opens Det key c v → Opens Det key d w → type_of v ≡ type_of w → c ≡ d → v ≡ w
equal_values key c d v w first second typed same =
    seal_determines Det key 0 0 v w first.sealable second.sealable typed (sym first.is_seal ∙ same ∙ second.is_seal)

-- deterministic cells are equal exactly where the values are
pub det_agrees : (key c d : List ℕ) (v w : Value) → Opens Det key c v → Opens Det key d w → type_of v ≡ type_of w
    → is_eq (slice_cmp nat_cmp c d) ≡ is_eq (value_cmp v w)
det_agrees key c d v w first second typed =
    equal_together (slice_cmp nat_cmp c d) (value_cmp v w)
    (λ tied. ap (λ (u : Value). value_cmp u w) (equal_values key c d v w first second typed (exact_bytes c d tied))
    ∙ tied_itself value_total w)
    (λ tied. ap (λ (b : List ℕ). slice_cmp nat_cmp b d) (equal_cells key c d v w first second (value_ties v w tied))
    ∙ tied_itself nat_list_cmp_total d)

-- order-preserving cells are ordered as the values are
pub ope_orders : (key c d : List ℕ) (v w : Value) → Opens Ope key c v → Opens Ope key d w → type_of v ≡ type_of w
    → slice_cmp nat_cmp c d ≡ value_cmp v w
ope_orders key c d v w first second typed =
    ap (λ (b : List ℕ). slice_cmp nat_cmp b d) first.is_seal
    ∙ ap (λ (b : List ℕ). slice_cmp nat_cmp (seal Ope key 0 0 v) b) second.is_seal
    ∙ order.sealed_ordered key (digits_of v) (digits_of w)
    (same_digits_length v w first.sealable.fits.short second.sealable.fits.short typed)
    (sealable_digits v first.sealable) (sealable_digits w second.sealable)
    ∙ digits_order v w first.sealable.fits second.sealable.fits typed

pub ope_agrees : (key c d : List ℕ) (v w : Value) → Opens Ope key c v → Opens Ope key d w → type_of v ≡ type_of w
    → is_eq (slice_cmp nat_cmp c d) ≡ is_eq (value_cmp v w)
ope_agrees key c d v w first second typed = ap is_eq (ope_orders key c d v w first second typed)

-- a plain cell is its value
pub clear_orders : (key : List ℕ) (c d v w : Value) → c ≡ v → d ≡ w → type_of v ≡ type_of w → value_cmp c d ≡ value_cmp v w
clear_orders key c d v w first second typed = cc

pub clear_agrees : (key : List ℕ) (c d v w : Value) → c ≡ v → d ≡ w → type_of v ≡ type_of w
    → is_eq (value_cmp c d) ≡ is_eq (value_cmp v w)
clear_agrees key c d v w first second typed = cc

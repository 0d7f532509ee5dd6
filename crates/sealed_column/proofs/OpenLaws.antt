-- Opening: what is read from a block or a digit string is the value that has it, and what a cell is opened to is the value that
-- it opens to. And what is kept of values and cells that were met before.
use Rattle.std.proofs.Common.{◌≡◌, ℕ, zero, suc, ◌+◌, ◌-◌, ◌*◌, ◌/◌, ◌%◌, ◌^◌, ◌<◌, ◌≤◌, ℤ, pos, negsuc, List, [], ◌∷◌, ◌++◌, length, map, replicate, take, Result, Ok, Err, refl, sym, ◌∙◌, ap, arith, add-one}
use Rattle.std.proofs.lemmas.Int.{to_z-of_z}
use Rattle.std.proofs.lemmas.List.{length-take}
use Rattle.std.specs.Int.{w128, cast_signed, cast_unsigned, from_be_bytes, to_be_bytes}
use Rattle.std.specs.Int.RustNames.{FitsSigned}
use Rattle.std.specs.Result.{IfOk}
use Rattle.cipher_feistel.specs.Feistel as feistel
use Rattle.cipher_order.specs.Order as order
use Rattle.cipher_order.specs.Order.{IsDigits}
use Rattle.cipher_stream.specs.Stream as stream
use Rattle.cipher_stream.proofs.CellLaws as stream_laws
use Rattle.mq_base.proofs.BlockLaws.{length-int_block, lengths_by_type}
use Rattle.mq_base.specs.declared.table.Scheme.TheVariants.{Rnd, Det, Ope}
use Rattle.mq_base.specs.declared.value.Value.{Value}
use Rattle.mq_base.specs.declared.value.Value.TheVariants.{Int, Text}
use Rattle.mq_base.specs.declared.value.ValueType.{ValueType}
use Rattle.mq_base.specs.declared.value.ValueType.TheVariants as type
use Rattle.mq_base.specs.Bytes.{block_of, block_length, digits, digits_length, digits_of, int_block, shifted}
use Rattle.mq_base.specs.Value.{type_of}
use Rattle.sealed_column.proofs.SmallLaws.{short_test}
use Rattle.sealed_column.specs.Seal.{IsSealable}
use Rattle.sealed_column.specs.SealLaws.{sealable_digits}
use Rattle.sealed_column.specs.inside.Opening.{IsOpened, IsRead, undigits}

-- what holds of each value of one kind holds of an answer
pub if_ok : {A E : Type 0} {P Q : A → Type 0} (answer : Result A E) → ((a : A) → P a → Q a) → IfOk answer P → IfOk answer Q
if_ok (Ok a) step is = step a is
if_ok (Err e) step is = tt

-- ---- INT

joined_16 : (q0 q1 q2 q3 q4 q5 q6 q7 q8 q9 q10 q11 q12 q13 q14 q15 x0 x1 x2 x3 x4 x5 x6 x7 x8 x9 x10 x11 x12 x13 x14 x15 : ℕ)
    → q0 ≡ q1 * 256 + x0
    → q1 ≡ q2 * 256 + x1
    → q2 ≡ q3 * 256 + x2
    → q3 ≡ q4 * 256 + x3
    → q4 ≡ q5 * 256 + x4
    → q5 ≡ q6 * 256 + x5
    → q6 ≡ q7 * 256 + x6
    → q7 ≡ q8 * 256 + x7
    → q8 ≡ q9 * 256 + x8
    → q9 ≡ q10 * 256 + x9
    → q10 ≡ q11 * 256 + x10
    → q11 ≡ q12 * 256 + x11
    → q12 ≡ q13 * 256 + x12
    → q13 ≡ q14 * 256 + x13
    → q14 ≡ q15 * 256 + x14
    → x15 ≡ q15
    → x15 * 256 ^ 15 + x14 * 256 ^ 14 + x13 * 256 ^ 13 + x12 * 256 ^ 12 + x11 * 256 ^ 11 + x10 * 256 ^ 10 + x9 * 256 ^ 9 + x8 * 256 ^ 8 + x7 * 256 ^ 7 + x6 * 256 ^ 6 + x5 * 256 ^ 5 + x4 * 256 ^ 4 + x3 * 256 ^ 3 + x2 * 256 ^ 2 + x1 * 256 ^ 1 + x0 ≡ q0
joined_16 q0 q1 q2 q3 q4 q5 q6 q7 q8 q9 q10 q11 q12 q13 q14 q15 x0 x1 x2 x3 x4 x5 x6 x7 x8 x9 x10 x11 x12 x13 x14 x15 h0 h1 h2 h3 h4 h5 h6 h7 h8 h9 h10 h11 h12 h13 h14 top = omega arith

-- sixteen bytes tell the number that they were made of
from_bytes_16 : (n : ℕ) → n < 2 ^ 128 → from_be_bytes w128 (to_be_bytes w128 n) ≡ n
from_bytes_16 n fits =
    let h0 : n ≡ n / 256 * 256 + n % 256 = omega arith in
    let h1 : n / 256 ≡ n / 65536 * 256 + n / 256 % 256 = omega arith in
    let h2 : n / 65536 ≡ n / 16777216 * 256 + n / 65536 % 256 = omega arith in
    let h3 : n / 16777216 ≡ n / 4294967296 * 256 + n / 16777216 % 256 = omega arith in
    let h4 : n / 4294967296 ≡ n / 1099511627776 * 256 + n / 4294967296 % 256 = omega arith in
    let h5 : n / 1099511627776 ≡ n / 281474976710656 * 256 + n / 1099511627776 % 256 = omega arith in
    let h6 : n / 281474976710656 ≡ n / 72057594037927936 * 256 + n / 281474976710656 % 256 = omega arith in
    let h7 : n / 72057594037927936 ≡ n / 18446744073709551616 * 256 + n / 72057594037927936 % 256 = omega arith in
    let h8 : n / 18446744073709551616 ≡ n / 4722366482869645213696 * 256 + n / 18446744073709551616 % 256 = omega arith in
    let h9 : n / 4722366482869645213696 ≡ n / 1208925819614629174706176 * 256 + n / 4722366482869645213696 % 256 = omega arith in
    let h10 : n / 1208925819614629174706176 ≡ n / 309485009821345068724781056 * 256 + n / 1208925819614629174706176 % 256 = omega arith in
    let h11 : n / 309485009821345068724781056 ≡ n / 79228162514264337593543950336 * 256 + n / 309485009821345068724781056 % 256 = omega arith in
    let h12 : n / 79228162514264337593543950336 ≡ n / 20282409603651670423947251286016 * 256 + n / 79228162514264337593543950336 % 256 = omega arith in
    let h13 : n / 20282409603651670423947251286016 ≡ n / 5192296858534827628530496329220096 * 256 + n / 20282409603651670423947251286016 % 256 = omega arith in
    let h14 : n / 5192296858534827628530496329220096 ≡ n / 1329227995784915872903807060280344576 * 256 + n / 5192296858534827628530496329220096 % 256 = omega arith in
    let top : n / 1329227995784915872903807060280344576 % 256 ≡ n / 1329227995784915872903807060280344576 = omega arith in
    joined_16 n (n / 256) (n / 65536) (n / 16777216) (n / 4294967296) (n / 1099511627776) (n / 281474976710656) (n / 72057594037927936) (n / 18446744073709551616) (n / 4722366482869645213696) (n / 1208925819614629174706176) (n / 309485009821345068724781056) (n / 79228162514264337593543950336) (n / 20282409603651670423947251286016) (n / 5192296858534827628530496329220096) (n / 1329227995784915872903807060280344576)
    (n % 256) (n / 256 % 256) (n / 65536 % 256) (n / 16777216 % 256) (n / 4294967296 % 256) (n / 1099511627776 % 256) (n / 281474976710656 % 256) (n / 72057594037927936 % 256) (n / 18446744073709551616 % 256) (n / 4722366482869645213696 % 256) (n / 1208925819614629174706176 % 256) (n / 309485009821345068724781056 % 256) (n / 79228162514264337593543950336 % 256) (n / 20282409603651670423947251286016 % 256) (n / 5192296858534827628530496329220096 % 256) (n / 1329227995784915872903807060280344576 % 256)
    h0 h1 h2 h3 h4 h5 h6 h7 h8 h9 h10 h11 h12 h13 h14 top

unmoved : (x : ℤ) → FitsSigned w128 x → (shifted x + 2 ^ 127) % 2 ^ 128 ≡ cast_unsigned w128 x
unmoved (pos n) fits = let small : n < 2 ^ 127 = fits.sfits in omega arith
unmoved (negsuc n) fits = let small : n < 2 ^ 127 = fits.sfits in omega arith

shifted_fits : (x : ℤ) → FitsSigned w128 x → shifted x < 2 ^ 128
shifted_fits (pos n) fits = let small : n < 2 ^ 127 = fits.sfits in omega arith
shifted_fits (negsuc n) fits = let small : n < 2 ^ 127 = fits.sfits in omega arith

number_of_block : (x : ℤ) → FitsSigned w128 x → from_be_bytes w128 (int_block x) ≡ shifted x
unfolding int_block
number_of_block x fits = from_bytes_16 (shifted x) (shifted_fits x fits)

-- what is read from the block of an INT is the INT
pub int_read : (x result : ℤ) (block bytes : List ℕ) (n : ℕ) → FitsSigned w128 x → int_block x ≡ block → bytes ≡ block
    → n ≡ from_be_bytes w128 bytes → result ≡ cast_signed w128 ((n + 2 ^ 127) % 2 ^ 128)
    → cast_signed w128 (cast_unsigned w128 result) ≡ x
int_read x result block bytes n fits spelt copied number is =
    let shift : n ≡ shifted x = number ∙ ap (from_be_bytes w128) (copied ∙ sym spelt) ∙ number_of_block x fits in
    let found : result ≡ x =
    is ∙ ap (λ (m : ℕ). cast_signed w128 ((m + 2 ^ 127) % 2 ^ 128)) shift ∙ ap (cast_signed w128) (unmoved x fits) ∙ to_z-of_z w128 x fits in
    ap (λ (z : ℤ). cast_signed w128 (cast_unsigned w128 z)) found ∙ to_z-of_z w128 x fits

-- ---- digits

undigits-filled : (bytes : List ℕ) (n : ℕ) → undigits (map (λ byte. byte + 1) bytes ++ replicate n 0) ≡ bytes
undigits-filled [] zero = refl
undigits-filled [] (suc n) = refl
undigits-filled (byte ∷ rest) n = rw (add-one byte) (ap (λ (bs : List ℕ). byte ∷ bs) (undigits-filled rest n))

undigits-digits : (bytes : List ℕ) → undigits (digits bytes) ≡ bytes
undigits-digits [] = refl
undigits-digits (byte ∷ rest) = rw (add-one byte) (ap (λ (bs : List ℕ). byte ∷ bs) (undigits-digits rest))

-- the INT that is read from the bytes of a digit string
pub int_from_digits : (ty : ValueType) (spelt bytes : List ℕ) (count : ℕ) (result : ℤ) → ty ≡ type.Int
    → length spelt ≡ digits_length ty → take count bytes ≡ undigits spelt → count ≤ length spelt
    → ((x : ℤ) → FitsSigned w128 x → int_block x ≡ take 16 bytes → result ≡ x)
    → IsRead digits_of ty spelt (Int (cast_signed w128 (cast_unsigned w128 result)))
int_from_digits ty spelt bytes count result typed long written within found =
    record { form = rw typed refl; read = by_value }
  where
    sixteen : length spelt ≡ 16
    sixteen = long ∙ ap digits_length typed

    by_value : (v : Value) → type_of v ≡ ty → IsSealable v → digits_of v ≡ spelt → Int (cast_signed w128 (cast_unsigned w128 result)) ≡ v
    by_value (Text t) of_type is same = cc
    by_value (Int x) of_type is same =
        let front : take count bytes ≡ int_block x = written ∙ ap undigits (sym same) ∙ undigits-digits (int_block x) in
        let all : count ≡ 16 = omega (arith, sixteen, length-int_block x, ap length front, length-take count bytes) in
        let read : result ≡ x = found x is.fits.representable (sym front ∙ ap (λ (n : ℕ). take n bytes) all) in
        ap Int (ap (λ (z : ℤ). cast_signed w128 (cast_unsigned w128 z)) read ∙ to_z-of_z w128 x is.fits.representable)

-- the TEXT that is made of the bytes of a digit string
pub text_from_digits : (ty : ValueType) (spelt bytes text : List ℕ) (count : ℕ) → ty ≡ type.Text
    → length spelt ≡ digits_length ty → take count bytes ≡ undigits spelt → count ≤ length spelt
    → text ≡ take count bytes → IsRead digits_of ty spelt (Text text)
text_from_digits ty spelt bytes text count typed long written within is =
    record { form = rw typed (short_test (length text) few); read = by_value }
  where
    few : length text ≤ 120
    few = omega (arith, long ∙ ap digits_length typed, ap length is, length-take count bytes)

    by_value : (v : Value) → type_of v ≡ ty → IsSealable v → digits_of v ≡ spelt → Text text ≡ v
    by_value (Int x) of_type sealable same = cc
    by_value (Text t) of_type sealable same =
        ap Text (is ∙ written ∙ ap undigits (sym same) ∙ undigits-filled t (120 - length (digits t)))

-- ---- cells

-- the value that was read from the block of a cell is the one that the cell opens to
pub det_opened : (key cell block : List ℕ) (ty : ValueType) → length cell ≡ block_length ty
    → ((other : List ℕ) → length other ≡ length cell → feistel.sealed key other ≡ cell → other ≡ block)
    → (value : Value) → IsRead block_of ty block value → IsOpened Det key ty cell value
det_opened key cell block ty long undone value is = record {
  form = is.form;
  opened = λ v typed opens.
      is.read v typed opens.sealable
      (undone (block_of v) ((lengths_by_type v opens.sealable.fits.short).of_block ∙ ap block_length typed ∙ sym long) (sym opens.is_seal));
}

pub rnd_opened : (key cell block : List ℕ) (ty : ValueType)
    → stream.sealed key (stream.step_of cell) (stream.row_of cell) block ≡ cell
    → (value : Value) → IsRead block_of ty block value → IsOpened Rnd key ty cell value
rnd_opened key cell block ty opened value is = record {
  form = is.form;
  opened = λ v typed opens.
      is.read v typed opens.sealable
      (stream_laws.cells_determine key (stream.step_of cell) (stream.row_of cell) (block_of v) block (sym opens.is_seal ∙ sym opened));
}

pub ope_opened : (key cell spelt : List ℕ) (ty : ValueType) → length cell ≡ 2 * digits_length ty
    → ((other : List ℕ) → 2 * length other ≡ length cell → IsDigits other → order.sealed key other ≡ cell → other ≡ spelt)
    → (value : Value) → IsRead digits_of ty spelt value → IsOpened Ope key ty cell value
ope_opened key cell spelt ty long undone value is = record {
  form = is.form;
  opened = λ v typed opens.
      is.read v typed opens.sealable
      (undone (digits_of v)
      (ap (λ (n : ℕ). 2 * n) ((lengths_by_type v opens.sealable.fits.short).of_digits ∙ ap digits_length typed) ∙ sym long)
      (sealable_digits v opens.sealable) (sym opens.is_seal));
}

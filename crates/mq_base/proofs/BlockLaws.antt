-- Laws of blocks and digit strings: a block determines its value, and digit strings are in the order of the values.
use Rattle.std.proofs.Common.{◌≡◌, ℕ, suc, ◌+◌, ◌-◌, ◌%◌, ◌^◌, ◌<◌, ◌≤◌, ℤ, pos, negsuc, ◌+ℤ◌, ◌<ℤ◌, List, [], ◌∷◌, ◌++◌, length, replicate, set, get_or, take, refl, sym, ◌∙◌, ap, arith}
use Rattle.std.proofs.lemmas.Int.{ints, to_z-of_z}
use Rattle.std.proofs.lemmas.List.{append_assoc, append_cancel_right, length-append, length-map, length-replicate, set_at, get_or_default, length-take-le, take_more, map-append}
use Rattle.std.proofs.lemmas.List.Elements.{All-map}
use Rattle.std.specs.Int.{w128, cast_signed, cast_unsigned}
use Rattle.std.specs.Int.RustNames.{FitsSigned}
use Rattle.std.specs.List.{All}
use Rattle.std.specs.Ordering.{nat_cmp, int_cmp, MatchOrdering}
use Rattle.std.specs.declared.cmp.Ordering.{Ordering}
use Rattle.std.specs.declared.cmp.Ordering.TheVariants.{Less, Equal, Greater}
use Rattle.std.specs.Cmp.{int_ranked, ranked, int_cmp_is}
use Rattle.std.specs.Cmp.Lexicographic.{slice_cmp}
use Rattle.base_laws.proofs.OrderLaws.{slice_cmp-bytes_high_first, slice_cmp-add_one, slice_cmp-filled, slice_cmp-same}
use Rattle.mq_base.specs.declared.value.Value.{Value}
use Rattle.mq_base.specs.declared.value.Value.TheVariants.{Int, Text}
use Rattle.mq_base.specs.Value.{type_of, value_cmp}
use Rattle.mq_base.specs.Bytes.{IsShort, Fits, shifted, filled, digits, int_block, block_of, digits_of, block_length, digits_length}
use Rattle.mq_base.specs.BytesLaws.{HasLengths}

-- ---- INT

moved_bits : (x : ℤ) → FitsSigned w128 x → (cast_unsigned w128 x + 2 ^ 127) % 2 ^ 128 ≡ shifted x
moved_bits (pos n) fits = let small : n < 2 ^ 127 = fits.sfits in omega arith
moved_bits (negsuc n) fits = let small : n < 2 ^ 127 = fits.sfits in omega arith

-- 2^127 added to the two's complement gives the shifted number
pub shifted_from_bits : (x : ℤ) (bits : ℕ) → FitsSigned w128 x → bits ≡ cast_unsigned w128 (cast_signed w128 (cast_unsigned w128 x))
    → (bits + 2 ^ 127) % 2 ^ 128 ≡ shifted x
shifted_from_bits x bits fits read = rw (read, to_z-of_z w128 x fits) (moved_bits x fits)

shifted_fits : (x : ℤ) → FitsSigned w128 x → shifted x < 2 ^ 128
shifted_fits (pos n) fits = let small : n < 2 ^ 127 = fits.sfits in omega arith
shifted_fits (negsuc n) fits = let small : n < 2 ^ 127 = fits.sfits in omega arith

-- the shifted number is x + 2^127
pub shifted_is : (x : ℤ) → FitsSigned w128 x → pos (shifted x) ≡ x +ℤ pos (2 ^ 127)
shifted_is (pos n) fits = omega (arith, ints)
shifted_is (negsuc n) fits = let small : n < 2 ^ 127 = fits.sfits in omega (arith, ints)

shifted_below : (x y : ℤ) → FitsSigned w128 x → FitsSigned w128 y → shifted x < shifted y → x <ℤ y
shifted_below x y fits fits_too less = omega (arith, ints, shifted_is x fits, shifted_is y fits_too)

-- two INT with the same shifted number are one
shifted_determines : (x y : ℤ) → FitsSigned w128 x → FitsSigned w128 y → shifted x ≡ shifted y → x ≡ y
shifted_determines x y fits fits_too same = omega (arith, ints, shifted_is x fits, shifted_is y fits_too)

-- the shift keeps the order
shifted_order : (x y : ℤ) → FitsSigned w128 x → FitsSigned w128 y → nat_cmp (shifted x) (shifted y) ≡ int_cmp x y
shifted_order x y fits fits_too =
    int_cmp_is x y (nat_cmp (shifted x) (shifted y)) (by_answer _ (ranked (shifted x) (shifted y) _ refl))
  where
    by_answer : (answer : Ordering) → MatchOrdering answer (shifted x < shifted y) (shifted x ≡ shifted y) (shifted y < shifted x)
        → MatchOrdering answer (x <ℤ y) (x ≡ y) (y <ℤ x)
    by_answer Less less = shifted_below x y fits fits_too less
    by_answer Equal same = shifted_determines x y fits fits_too same
    by_answer Greater more = shifted_below y x fits_too fits more

pub length-int_block : (x : ℤ) → length (int_block x) ≡ 16
unfolding int_block
length-int_block x = refl

int_block_order : (x y : ℤ) → FitsSigned w128 x → FitsSigned w128 y → slice_cmp nat_cmp (int_block x) (int_block y) ≡ int_cmp x y
unfolding int_block
int_block_order x y fits fits_too =
    slice_cmp-bytes_high_first 16 (shifted x) (shifted y)
    ∙ ap (λ m. nat_cmp m (shifted y % 256 ^ 16)) (whole x fits)
    ∙ ap (λ n. nat_cmp (shifted x) n) (whole y fits_too)
    ∙ shifted_order x y fits fits_too
  where
    whole : (z : ℤ) → FitsSigned w128 z → shifted z % 256 ^ 16 ≡ shifted z
    whole z fits = let below : shifted z < 2 ^ 128 = shifted_fits z fits in omega arith

-- ---- lists filled with zeros

pub length-filled : (width : ℕ) (xs : List ℕ) → length xs ≤ width → length (filled width xs) ≡ width
length-filled width xs fits = omega (arith, length-append xs (replicate (width - length xs) 0), length-replicate {A = ℕ} (width - length xs) 0)

-- one more number in place of the first zero
pub filled_more : (width : ℕ) (xs : List ℕ) (x n : ℕ) → n ≡ length xs → n < width → set (filled width xs) n x ≡ filled width (xs ++ x ∷ [])
filled_more width xs x n at room =
    let zeros : width - length xs ≡ suc (width - suc (length xs)) = omega arith in
    let longer : length (xs ++ x ∷ []) ≡ suc (length xs) = omega (arith, length-append xs (x ∷ [])) in
    rw (zeros, longer, append_assoc) (set_at xs 0 (replicate (width - suc (length xs)) 0) x n (sym at))

-- ---- digits

pub digits_small : (bytes : List ℕ) → ((k : ℕ) → get_or bytes k 0 < 256) → All (λ digit. digit ≤ 256) (digits bytes)
digits_small bytes small =
    All-map (λ digit. digit ≤ 256) (λ byte. byte + 1) bytes
    (λ k d below. let read : get_or bytes k d ≡ get_or bytes k 0 = get_or_default bytes k d 0 below in
    let byte : get_or bytes k 0 < 256 = small k in omega arith)

-- one more digit in place of the first zero
pub digits_more : (width : ℕ) (bytes : List ℕ) (i byte : ℕ) → i < length bytes → length bytes ≤ width → byte ≡ get_or bytes i 0
    → set (filled width (digits (take i bytes))) i (byte + 1) ≡ filled width (digits (take (i + 1) bytes))
digits_more width bytes i byte below room read =
    let so_far : length (take i bytes) ≡ i = length-take-le i bytes (omega arith) in
    let at : i ≡ length (digits (take i bytes)) = omega (arith, length-map (take i bytes) (λ byte. byte + 1)) in
    let next : digits (take (i + 1) bytes) ≡ digits (take i bytes) ++ (get_or bytes i 0 + 1) ∷ [] =
    ap digits (take_more bytes i 0 below) ∙ map-append (λ byte. byte + 1) (take i bytes) (get_or bytes i 0 ∷ []) in
    rw (next, read) (filled_more width (digits (take i bytes)) (get_or bytes i 0 + 1) i at (omega arith))

digits_above : (bytes : List ℕ) → All (λ digit. 0 < digit) (digits bytes)
digits_above bytes = All-map (λ digit. 0 < digit) (λ byte. byte + 1) bytes (λ k d below. omega arith)

-- ---- values

pub block_determines : (v w : Value) → Fits v → Fits w → block_of v ≡ block_of w → v ≡ w
block_determines (Int x) (Int y) fits fits_too same = ap Int (from_block x y fits.representable fits_too.representable same)
  where
    from_block : (x y : ℤ) → FitsSigned w128 x → FitsSigned w128 y → int_block x ≡ int_block y → x ≡ y
    from_block x y fits fits_too same =
        int_ranked x y Equal (sym (slice_cmp-same (int_block y)) ∙ ap (λ (b : List ℕ). slice_cmp nat_cmp b (int_block y)) (sym same) ∙ int_block_order x y fits fits_too)
block_determines (Int x) (Text t) fits fits_too same =
    let short : length t ≤ 120 = fits_too.short in
    absurd (omega (arith, length-int_block x, length-filled 122 (length t ∷ t) (omega arith), ap length same))
block_determines (Text s) (Int y) fits fits_too same =
    let short : length s ≤ 120 = fits.short in
    absurd (omega (arith, length-int_block y, length-filled 122 (length s ∷ s) (omega arith), ap length same))
block_determines (Text s) (Text t) fits fits_too same = ap Text (from_block s t same)
  where
    same_length : (s t rest more : List ℕ) → length s ∷ (s ++ rest) ≡ length t ∷ (t ++ more) → length s ≡ length t
    same_length s t rest more same = cc

    same_rest : (s t rest more : List ℕ) → length s ∷ (s ++ rest) ≡ length t ∷ (t ++ more) → s ++ rest ≡ t ++ more
    same_rest s t rest more same = cc

    from_block : (s t : List ℕ) → block_of (Text s) ≡ block_of (Text t) → s ≡ t
    from_block s t same =
        let long : length s ≡ length t = same_length s t _ _ same in
        let zeros : s ++ replicate (122 - suc (length t)) 0 ≡ t ++ replicate (122 - suc (length t)) 0 =
        rw long at (same_rest s t _ _ same) in
        append_cancel_right s t (replicate (122 - suc (length t)) 0) zeros

pub digits_order : (v w : Value) → Fits v → Fits w → type_of v ≡ type_of w
    → slice_cmp nat_cmp (digits_of v) (digits_of w) ≡ value_cmp v w
digits_order (Int x) (Int y) fits fits_too same = slice_cmp-add_one (int_block x) (int_block y) ∙ int_block_order x y fits.representable fits_too.representable
digits_order (Int x) (Text t) fits fits_too same = cc
digits_order (Text s) (Int y) fits fits_too same = cc
digits_order (Text s) (Text t) fits fits_too same =
    let short : length s ≤ 120 = fits.short in
    let short_too : length t ≤ 120 = fits_too.short in
    slice_cmp-filled (digits s) (digits t) _ _ (digits_above s) (digits_above t)
    (omega (arith, length-map s (λ byte. byte + 1), length-map t (λ byte. byte + 1)))
    ∙ slice_cmp-add_one s t

-- ---- lengths

length-digits_of : (v : Value) → IsShort v → length (digits_of v) ≡ digits_length (type_of v)
length-digits_of (Int x) short = length-map (int_block x) (λ byte. byte + 1) ∙ length-int_block x
length-digits_of (Text t) short =
    let few : length t ≤ 120 = short in
    length-filled 120 (digits t) (omega (arith, length-map t (λ byte. byte + 1)))

length-block_of : (v : Value) → IsShort v → length (block_of v) ≡ block_length (type_of v)
length-block_of (Int x) short = length-int_block x
length-block_of (Text t) short =
    let few : length t ≤ 120 = short in
    length-filled 122 (length t ∷ t) (omega arith)

pub lengths_by_type : (v : Value) → IsShort v → HasLengths v
lengths_by_type v short = record { of_block = length-block_of v short; of_digits = length-digits_of v short }

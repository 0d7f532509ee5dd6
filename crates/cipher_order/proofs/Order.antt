-- A cell is a front's cell and then the rest's; cells of strings of one length are ordered as the
-- strings are, so that each cell has at most one string.
use Rattle.std.proofs.Common.{◌≡◌, ◌≢◌, ℕ, suc, ◌+◌, ◌*◌, ◌/◌, ◌%◌, ◌^◌, ◌<◌, ◌≤◌, List, [], ◌∷◌, ◌++◌, length, take, drop, get_or, ap, sym, ◌∙◌, arith, refl, inl, inr, append_assoc, nat_cmp, Ordering}
use Rattle.std.specs.Cmp.{nat_cmp_is}
use Rattle.std.specs.Cmp.Lexicographic.{slice_cmp}
use Rattle.std.specs.Int.{w16, from_be_bytes}
use Rattle.std.specs.Ordering.{ordering_then}
use Rattle.std.specs.declared.cmp.Ordering.TheVariants.{Less, Equal, Greater}
use Rattle.std.proofs.Math.Seq.{split_at}
use Rattle.std.proofs.lemmas.Bool.{cases_order}
use Rattle.std.proofs.lemmas.Cmp.{nat_list_cmp_total, tied_itself}
use Rattle.std.proofs.lemmas.List.{append-nil, append_cancel_left, get_or-take, length-append, length-take-le, take_at, take_more}
use Rattle.std.proofs.lemmas.Map.Lookups.{exact_bytes}
use Rattle.std.proofs.lemmas.Nat.{from_be_bytes-to_be_bytes_2}
use Rattle.cipher_order.specs.Order.{IsDigits, digit_bytes, height, sealed, sealed_from}
use Rattle.cipher_order.proofs.Rising.{height_limit, height_rises}

-- ---- two bytes at a time

-- the first i + 2 elements are the first i and the two after them
pub take_two : (xs : List ℕ) (i : ℕ) → i + 2 ≤ length xs → take (i + 2) xs ≡ take i xs ++ get_or xs i 0 ∷ get_or xs (i + 1) 0 ∷ []
take_two xs i h =
    let one_more : i + 2 ≡ (i + 1) + 1 = omega arith in
    rw (one_more, take_more xs (i + 1) 0 (omega arith), take_more xs i 0 (omega arith), append_assoc) refl

-- two bytes tell the number that they were made of
pub same_from_bytes : (x y : ℕ) → x < 2 ^ 16 → y < 2 ^ 16 → digit_bytes x ≡ digit_bytes y → x ≡ y
same_from_bytes x y x_fits y_fits same =
    sym (from_be_bytes-to_be_bytes_2 x x_fits) ∙ ap (from_be_bytes w16) same ∙ from_be_bytes-to_be_bytes_2 y y_fits

-- ---- cells of joined strings

pub sealed_from-append : (key earlier xs ys : List ℕ) → sealed_from key earlier (xs ++ ys) ≡ sealed_from key earlier xs ++ sealed_from key (earlier ++ xs) ys
unfolding sealed_from
sealed_from-append key earlier [] ys = ap (λ e. sealed_from key e ys) (sym (append-nil earlier))
sealed_from-append key earlier (x ∷ xs) ys =
    let rest = rw (append_assoc earlier (x ∷ []) xs) at (sealed_from-append key (earlier ++ x ∷ []) xs ys) in
    ap (λ c. digit_bytes (height key earlier x) ++ c) rest

pub sealed-append : (key xs : List ℕ) (y : ℕ) (zs : List ℕ) → sealed key (xs ++ y ∷ zs) ≡ (sealed key xs ++ digit_bytes (height key xs y)) ++ sealed_from key (xs ++ y ∷ []) zs
unfolding sealed sealed_from
sealed-append key xs y zs = sealed_from-append key [] xs (y ∷ zs) ∙ sym (append_assoc (sealed_from key [] xs) (digit_bytes (height key xs y)) _)

pub sealed_none : (key : List ℕ) → sealed key [] ≡ []
unfolding sealed sealed_from
sealed_none key = refl

-- one digit more is one height more
pub sealed_push : (key xs : List ℕ) (y : ℕ) → sealed key (xs ++ y ∷ []) ≡ sealed key xs ++ digit_bytes (height key xs y)
unfolding sealed_from
sealed_push key xs y = sealed-append key xs y [] ∙ append-nil _

length-sealed_from : (key earlier xs : List ℕ) → length (sealed_from key earlier xs) ≡ 2 * length xs
unfolding sealed_from
length-sealed_from key earlier [] = refl
length-sealed_from key earlier (x ∷ xs) = omega (arith, length-sealed_from key (earlier ++ x ∷ []) xs)

pub cell_length : (key xs : List ℕ) → length (sealed key xs) ≡ 2 * length xs
unfolding sealed
cell_length key xs = length-sealed_from key [] xs

-- ---- order

less : (x y : ℕ) → x < y → nat_cmp x y ≡ Less
less x y h = sym (nat_cmp_is x y Less h)

equal : (x y : ℕ) → x ≡ y → nat_cmp x y ≡ Equal
equal x y h = sym (nat_cmp_is x y Equal h)

greater : (x y : ℕ) → y < x → nat_cmp x y ≡ Greater
greater x y h = sym (nat_cmp_is x y Greater h)

-- numbers of two bytes are ordered as their bytes are, the high bytes first
parts_ordered : (h l i m x y : ℕ) (rest : Ordering) → l < 256 → m < 256 → x ≡ 256 * h + l → y ≡ 256 * i + m → ordering_then (nat_cmp h i) (ordering_then (nat_cmp l m) rest) ≡ ordering_then (nat_cmp x y) rest
parts_ordered h l i m x y rest l_fits m_fits x_is y_is =
    elim (cases_order h i) [
      | inr (inl below) ↦ rw (less h i below, less x y (omega arith)) refl
      | inr (inr above) ↦ rw (greater h i above, greater x y (omega arith)) refl
      | inl same ↦ elim (cases_order l m) [
        | inl also ↦ rw (equal h i same, equal l m also, equal x y (omega arith)) refl
        | inr (inl below) ↦ rw (equal h i same, less l m below, less x y (omega arith)) refl
        | inr (inr above) ↦ rw (equal h i same, greater l m above, greater x y (omega arith)) refl
      ]
    ]

numbers_ordered : (x y : ℕ) (xs ys : List ℕ) → x < 2 ^ 16 → y < 2 ^ 16 → slice_cmp nat_cmp (digit_bytes x ++ xs) (digit_bytes y ++ ys) ≡ ordering_then (nat_cmp x y) (slice_cmp nat_cmp xs ys)
numbers_ordered x y xs ys x_fits y_fits =
    parts_ordered (x / 256 % 256) (x % 256) (y / 256 % 256) (y % 256) x y (slice_cmp nat_cmp xs ys) (omega arith) (omega arith) (omega arith) (omega arith)

-- the digits after the first are digits
IsDigits-tail : (x : ℕ) (xs : List ℕ) → IsDigits (x ∷ xs) → IsDigits xs
IsDigits-tail x xs h = λ k d within. h (suc k) d (omega arith)

sealed_from_ordered : (key earlier xs ys : List ℕ) → length xs ≡ length ys → IsDigits xs → IsDigits ys → slice_cmp nat_cmp (sealed_from key earlier xs) (sealed_from key earlier ys) ≡ slice_cmp nat_cmp xs ys
unfolding sealed_from
sealed_from_ordered key earlier [] [] same xs_ok ys_ok = refl
sealed_from_ordered key earlier [] (y ∷ ys) same xs_ok ys_ok = absurd (omega arith)
sealed_from_ordered key earlier (x ∷ xs) [] same xs_ok ys_ok = absurd (omega arith)
sealed_from_ordered key earlier (x ∷ xs) (y ∷ ys) same xs_ok ys_ok =
    let x_high = height_limit key earlier x (xs_ok 0 0 (omega arith)) in
    let y_high = height_limit key earlier y (ys_ok 0 0 (omega arith)) in
    let firsts = numbers_ordered (height key earlier x) (height key earlier y) (sealed_from key (earlier ++ x ∷ []) xs) (sealed_from key (earlier ++ y ∷ []) ys) x_high y_high in
    firsts ∙ elim (cases_order x y) [
      | inr (inl below) ↦ rw (less _ _ (height_rises key earlier x y below), less x y below) refl
      | inr (inr above) ↦ rw (greater _ _ (height_rises key earlier y x above), greater x y above) refl
      | inl equals ↦ rw (equal _ _ (ap (height key earlier) equals), equal x y equals, equals) (sealed_from_ordered key (earlier ++ y ∷ []) xs ys (omega arith) (IsDigits-tail x xs xs_ok) (IsDigits-tail y ys ys_ok))
    ]

-- cells are ordered as the strings are
pub sealed_ordered : (key xs ys : List ℕ) → length xs ≡ length ys → IsDigits xs → IsDigits ys → slice_cmp nat_cmp (sealed key xs) (sealed key ys) ≡ slice_cmp nat_cmp xs ys
unfolding sealed
sealed_ordered key xs ys same xs_ok ys_ok = sealed_from_ordered key [] xs ys same xs_ok ys_ok

-- a cell has at most one string
pub sealed_distinct : (key xs ys : List ℕ) → length xs ≡ length ys → IsDigits xs → IsDigits ys → sealed key xs ≡ sealed key ys → xs ≡ ys
sealed_distinct key xs ys same xs_ok ys_ok cells =
    exact_bytes xs ys (sym (sealed_ordered key xs ys same xs_ok ys_ok) ∙ ap (λ c. slice_cmp nat_cmp c (sealed key ys)) cells ∙ tied_itself nat_list_cmp_total (sealed key ys))

-- ---- refusal

-- the cell goes on from the digits ds by a height that no digit has there, so it has no string xs, y, zs
not_sealed_by : (key cell ds xs : List ℕ) (n y : ℕ) (zs : List ℕ) (h : ℕ) → length xs ≡ n → length ds ≡ n → IsDigits xs → IsDigits ds → y ≤ 256 → h < 2 ^ 16 → sealed key ds ≡ take (2 * n) cell → take (2 * n + 2) cell ≡ take (2 * n) cell ++ digit_bytes h → ((d : ℕ) → d ≤ 256 → height key ds d ≢ h) → sealed key (xs ++ y ∷ zs) ≡ cell → ⊥
not_sealed_by key cell ds xs n y zs h long ds_long xs_ok ds_ok y_ok h_fits front next none same =
    let whole = sym same ∙ sealed-append key xs y zs in
    let two = sealed key xs ++ digit_bytes (height key xs y) in
    let front_length : length (sealed key xs) ≡ 2 * n = omega (arith, cell_length key xs) in
    let two_length : length two ≡ 2 * n + 2 = omega (arith, length-append (sealed key xs) (digit_bytes (height key xs y))) in
    let by_two : take (2 * n + 2) cell ≡ two = ap (take (2 * n + 2)) whole ∙ take_at two _ _ two_length in
    let by_front : take (2 * n) cell ≡ sealed key xs = ap (take (2 * n)) (whole ∙ append_assoc (sealed key xs) _ _) ∙ take_at (sealed key xs) _ _ front_length in
    let digits : xs ≡ ds = sealed_distinct key xs ds (omega arith) xs_ok ds_ok (sym by_front ∙ sym front) in
    let bytes : digit_bytes (height key xs y) ≡ digit_bytes h = append_cancel_left (sealed key xs) _ _ (sym by_two ∙ next ∙ ap (λ c. c ++ digit_bytes h) by_front) in
    let reached : height key xs y ≡ h = same_from_bytes _ h (height_limit key xs y y_ok) h_fits bytes in
    none y y_ok (ap (λ e. height key e y) (sym digits) ∙ reached)

-- the same of any string that is longer than ds
pub not_sealed : (key cell ds other : List ℕ) (n h : ℕ) → length ds ≡ n → n < length other → IsDigits other → IsDigits ds → h < 2 ^ 16 → sealed key ds ≡ take (2 * n) cell → take (2 * n + 2) cell ≡ take (2 * n) cell ++ digit_bytes h → ((d : ℕ) → d ≤ 256 → height key ds d ≢ h) → sealed key other ≡ cell → ⊥
not_sealed key cell ds other n h long longer other_ok ds_ok h_fits front next none same =
    let front_long : length (take n other) ≡ n = length-take-le n other (omega arith) in
    let front_ok : IsDigits (take n other) = λ k d within. rw (get_or-take n other k d (omega arith)) (other_ok k d (omega arith)) in
    not_sealed_by key cell ds (take n other) n (get_or other n 0) (drop (suc n) other) h front_long long front_ok ds_ok (other_ok n 0 longer) h_fits front next none (ap (sealed key) (sym (split_at other n 0 longer)) ∙ same)

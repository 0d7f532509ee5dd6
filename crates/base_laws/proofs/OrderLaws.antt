-- Laws of the lexicographic order of lists of numbers: what keeps it, and that it is the order of the numbers
-- whose big-endian bytes are compared.
use Rattle.std.proofs.Common.{◌≡◌, ℕ, zero, suc, ◌+◌, ◌*◌, ◌/◌, ◌%◌, ◌^◌, ◌<◌, List, [], ◌∷◌, ◌++◌, length, replicate, map, refl, sym, ◌∙◌, ap, arith, ◌⊎◌, inl, inr}
use Rattle.std.proofs.Math.Arith.{mod-mul}
use Rattle.std.proofs.Math.Nat.{pow-suc, mul-le-mul_right}
use Rattle.std.proofs.lemmas.Bool.Decides.{nat_tests}
use Rattle.std.specs.Int.{byte_at, bytes_high_first}
use Rattle.std.proofs.lemmas.List.Elements.{All-head, All-tail}
use Rattle.std.specs.List.{All}
use Rattle.std.specs.Ordering.{nat_cmp, ordering_then}
use Rattle.std.specs.declared.cmp.Ordering.TheVariants.{Less, Equal, Greater}
use Rattle.std.specs.Cmp.{nat_cmp_is}
use Rattle.std.specs.Cmp.Lexicographic.{slice_cmp}

-- a number added to both sides keeps their order
pub nat_cmp-add : (k m n : ℕ) → nat_cmp (k + m) (k + n) ≡ nat_cmp m n
nat_cmp-add k m n = grind (arith, nat_tests)

pub nat_cmp-same : (n : ℕ) → nat_cmp n n ≡ Equal
nat_cmp-same n = grind (arith, nat_tests)

-- numbers of two digits to a base: the higher digits decide, and else the lower ones
pub nat_cmp-digits : (base a b low other : ℕ) → low < base → other < base
    → ordering_then (nat_cmp a b) (nat_cmp low other) ≡ nat_cmp (a * base + low) (b * base + other)
nat_cmp-digits base a b low other fits fits_too = by_place (three a b)
  where
    three : (a b : ℕ) → (a < b) ⊎ ((a ≡ b) ⊎ (b < a))
    three a b = grind arith

    below : (a b low other : ℕ) → low < base → a < b → a * base + low < b * base + other
    below a b low other fits less = omega (arith, mul-le-mul_right base less)

    by_place : (a < b) ⊎ ((a ≡ b) ⊎ (b < a))
        → ordering_then (nat_cmp a b) (nat_cmp low other) ≡ nat_cmp (a * base + low) (b * base + other)
    by_place (inl less) =
        ap (λ o. ordering_then o (nat_cmp low other)) (sym (nat_cmp_is a b Less less))
        ∙ nat_cmp_is (a * base + low) (b * base + other) Less (below a b low other fits less)
    by_place (inr (inl same)) =
        ap (λ o. ordering_then o (nat_cmp low other)) (sym (nat_cmp_is a b Equal same))
        ∙ sym (nat_cmp-add (a * base) low other)
        ∙ ap (λ c. nat_cmp (a * base + low) (c * base + other)) same
    by_place (inr (inr more)) =
        ap (λ o. ordering_then o (nat_cmp low other)) (sym (nat_cmp_is a b Greater more))
        ∙ nat_cmp_is (a * base + low) (b * base + other) Greater (below b a other low fits_too more)

power_above_zero : (k : ℕ) → 0 < 256 ^ k
power_above_zero zero = omega arith
power_above_zero (suc k) = let more : 0 < 256 ^ k = power_above_zero k in rw (pow-suc 256 k) (omega arith)

-- a number cut to k + 1 bytes is its byte k, and then the number cut to k bytes
byte_split : (k n : ℕ) → byte_at k n * 256 ^ k + n % 256 ^ k ≡ n % 256 ^ suc k
byte_split zero n = omega arith
byte_split (suc k) n = rw (pow-suc 256 (suc k)) (digits (256 ^ suc k) (power_above_zero (suc k)))
  where
    digits : (worth : ℕ) → 0 < worth → n / worth % 256 * worth + n % worth ≡ n % (worth * 256)
    digits worth some =
        let turned : worth * 256 ≡ 256 * worth = omega arith in
        let split : n % (256 * worth) ≡ (n / worth % 256) * worth + n % worth = mod-mul n (omega arith) some in
        rw turned (sym split)

cut_below : (n base : ℕ) → 0 < base → n % base < base
cut_below n base some = omega arith

one_worth : (n : ℕ) → n % 1 ≡ 0
one_worth n = omega arith

-- big-endian bytes of one width are ordered as the numbers that they write
pub slice_cmp-bytes_high_first : (k m n : ℕ)
    → slice_cmp nat_cmp (bytes_high_first k m) (bytes_high_first k n) ≡ nat_cmp (m % 256 ^ k) (n % 256 ^ k)
slice_cmp-bytes_high_first zero m n = rw (one_worth m, one_worth n) refl
slice_cmp-bytes_high_first (suc k) m n =
    rw (slice_cmp-bytes_high_first k m n, ← byte_split k m, ← byte_split k n)
    (nat_cmp-digits (256 ^ k) (byte_at k m) (byte_at k n) (m % 256 ^ k) (n % 256 ^ k)
    (cut_below m (256 ^ k) (power_above_zero k)) (cut_below n (256 ^ k) (power_above_zero k)))

-- 1 added to each member keeps the order of lists
pub slice_cmp-add_one : (xs ys : List ℕ) → slice_cmp nat_cmp (map (λ x. x + 1) xs) (map (λ y. y + 1) ys) ≡ slice_cmp nat_cmp xs ys
slice_cmp-add_one [] [] = refl
slice_cmp-add_one [] (y ∷ ys) = refl
slice_cmp-add_one (x ∷ xs) [] = refl
slice_cmp-add_one (x ∷ xs) (y ∷ ys) = λ i. ordering_then (one_more i) (slice_cmp-add_one xs ys i)
  where
    one_more : nat_cmp (x + 1) (y + 1) ≡ nat_cmp x y
    one_more = grind (arith, nat_tests)

-- a list is equal to itself
pub slice_cmp-same : (xs : List ℕ) → slice_cmp nat_cmp xs xs ≡ Equal
slice_cmp-same [] = refl
slice_cmp-same (x ∷ xs) = λ i. ordering_then (nat_cmp-same x i) (slice_cmp-same xs i)

-- zeros put after lists of larger numbers, up to one length, keep the order of the lists
pub slice_cmp-filled : (xs ys : List ℕ) (m n : ℕ) → All (λ x. 0 < x) xs → All (λ y. 0 < y) ys → length xs + m ≡ length ys + n
    → slice_cmp nat_cmp (xs ++ replicate m 0) (ys ++ replicate n 0) ≡ slice_cmp nat_cmp xs ys
slice_cmp-filled [] [] m n above above_too long =
    let same : m ≡ n = omega arith in
    rw same (slice_cmp-same (replicate n 0))
slice_cmp-filled [] (y ∷ ys) zero n above above_too long = absurd (omega arith)
slice_cmp-filled [] (y ∷ ys) (suc m) n above above_too long =
    ap (λ o. ordering_then o (slice_cmp nat_cmp (replicate m 0) (ys ++ replicate n 0)))
    (sym (nat_cmp_is 0 y Less (All-head (λ k. 0 < k) y ys above_too)))
slice_cmp-filled (x ∷ xs) [] m zero above above_too long = absurd (omega arith)
slice_cmp-filled (x ∷ xs) [] m (suc n) above above_too long =
    ap (λ o. ordering_then o (slice_cmp nat_cmp (xs ++ replicate m 0) (replicate n 0)))
    (sym (nat_cmp_is x 0 Greater (All-head (λ k. 0 < k) x xs above)))
slice_cmp-filled (x ∷ xs) (y ∷ ys) m n above above_too long =
    ap (λ o. ordering_then (nat_cmp x y) o)
    (slice_cmp-filled xs ys m n (All-tail (λ k. 0 < k) x xs above) (All-tail (λ k. 0 < k) y ys above_too) (omega arith))

-- Laws of numbers: products that are cut at a bound, and the test that compares two.
use Rattle.std.proofs.Common.{◌≡◌, ℕ, zero, suc, ◌*◌, ◌<◌, ◌≤◌, true, false, min, refl, arith, ◌⊎◌, inl, inr}
use Rattle.std.specs.Ordering.{is_gt, nat_cmp}
use Rattle.std.proofs.Math.Nat.{mul-zero}
use Rattle.std.proofs.lemmas.Bool.Decides.{nat_tests}
use Rattle.std.proofs.lemmas.Nat.{mul-le}

-- a factor may be cut before the product is
pub cut_times : (m x y : ℕ) → min (min x m * y) m ≡ min (x * y) m
cut_times m x y = by_size (within_or_past x m)
  where
    within_or_past : (x m : ℕ) → (x ≤ m) ⊎ (m ≤ x)
    within_or_past x m = grind arith

    past : (x y : ℕ) → m ≤ x → min (m * y) m ≡ min (x * y) m
    past x zero more = rw (mul-zero m, mul-zero x) refl
    past x (suc y) more =
        let lower : m ≤ m * suc y = grind (arith, mul-le m 1 m (suc y)) in
        let higher : m * suc y ≤ x * suc y = mul-le m (suc y) x (suc y) more (omega arith) in
        omega (arith, lower, higher)

    by_size : (x ≤ m) ⊎ (m ≤ x) → min (min x m * y) m ≡ min (x * y) m
    by_size (inl within) = let same : min x m ≡ x = omega (arith, within) in rw same refl
    by_size (inr more) = let top : min x m ≡ m = omega (arith, more) in rw top (past x y more)

-- what the test says of two numbers, and when it says so
pub after_is : (m n : ℕ) → is_gt (nat_cmp m n) ≡ true → n < m
after_is m n test = grind (arith, nat_tests)

pub upto_is : (m n : ℕ) → is_gt (nat_cmp m n) ≡ false → m ≤ n
upto_is m n test = grind (arith, nat_tests)

pub after_test : (m n : ℕ) → n < m → is_gt (nat_cmp m n) ≡ true
after_test m n below = grind (arith, nat_tests)

pub upto_test : (m n : ℕ) → m ≤ n → is_gt (nat_cmp m n) ≡ false
upto_test m n upto = grind (arith, nat_tests)

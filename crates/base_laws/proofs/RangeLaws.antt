-- The range of 64 bits is the one that std tells of the numbers of a signed type.
use Rattle.std.proofs.Common.{◌≡◌, ℕ, ◌^◌, ◌<◌, ℤ, pos, negsuc, true, arith}
use Rattle.std.specs.Prelude.{Decides}
use Rattle.std.specs.Int.{w64}
use Rattle.std.specs.Int.RustNames.{FitsSigned}
use Rattle.std.proofs.lemmas.Bool.Decides.{nat_tests}
use Rattle.base_laws.specs.Ranges.{fits_64_bits}

pos_below : (n : ℕ) → fits_64_bits (pos n) ≡ true → n < 2 ^ 63
pos_below n fits = grind (arith, nat_tests)

negsuc_below : (n : ℕ) → fits_64_bits (negsuc n) ≡ true → n < 2 ^ 63
negsuc_below n fits = grind (arith, nat_tests)

-- the test of the range decides what std says of a signed type of 64 bits
pub fits_64_bits-Decides : (z : ℤ) → Decides (fits_64_bits z) (FitsSigned w64 z)
fits_64_bits-Decides (pos n) = (λ fits. record { sfits = pos_below n fits }, λ is. grind (arith, nat_tests, is.sfits))
fits_64_bits-Decides (negsuc n) = (λ fits. record { sfits = negsuc_below n fits }, λ is. grind (arith, nat_tests, is.sfits))

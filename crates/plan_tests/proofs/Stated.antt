-- Numbers of which each is at least 1 are so at each member of a set.
use Rattle.std.proofs.Common.{◌≡◌, ℕ, ◌^◌, ◌<◌, ◌≤◌, Bool, true, false, List, length, get_or, refl, arith}
use Rattle.std.specs.Prelude.{nat_le}
use Rattle.std.specs.List.{list_all}
use Rattle.std.proofs.lemmas.Bool.Decides.{nat_tests}
use Rattle.std.proofs.lemmas.List.Folds.{list_all_at}
use Rattle.base_laws.specs.Sets.{has}
use Rattle.base_laws.proofs.MemberLaws.{has-lt}

each_stated : (xs : List ℕ) (i : ℕ) → i < length xs → list_all (λ n. nat_le 1 n) xs ≡ true → 1 ≤ get_or xs i 0
each_stated xs i below all = by_test (nat_le 1 (get_or xs i 0)) refl
  where
    by_test : (test : Bool) → nat_le 1 (get_or xs i 0) ≡ test → 1 ≤ get_or xs i 0
    by_test true is = grind (arith, nat_tests)
    by_test false is = absurd (let none : list_all (λ n. nat_le 1 n) xs ≡ false = list_all_at (λ n. nat_le 1 n) xs i 0 below is in cc)

pub stated : (used : ℕ) (distinct : List ℕ) → used < 2 ^ 64 → length distinct ≡ 64 → list_all (λ n. nat_le 1 n) distinct ≡ true
    → (a : ℕ) → has used a ≡ true → 1 ≤ get_or distinct a 0
stated used distinct fits size all a member =
    each_stated distinct a (let below : a < 64 = has-lt used 64 a fits member in omega arith) all

-- Small facts that several files here use: one more member of a list, ties, and the test of a TEXT's length.
use Rattle.std.proofs.Common.{◌≡◌, ℕ, ◌+◌, ◌<◌, ◌≤◌, true, List, [], ◌∷◌, ◌++◌, length, get_or, take, IsTrue, nat_le, refl, sym, ◌∙◌, ap, arith}
use Rattle.std.proofs.lemmas.Bool.Decides.{nat_tests}
use Rattle.std.proofs.lemmas.List.{take_more}
use Rattle.std.specs.Ordering.{is_eq}
use Rattle.std.specs.declared.cmp.Ordering.{Ordering}
use Rattle.std.specs.declared.cmp.Ordering.TheVariants.{Less, Equal, Greater}

-- the members so far and one more
pub longer : {X : Type 0} (xs : List X) (i : ℕ) (x : X) → i < length xs → x ≡ get_or xs i x → take (i + 1) xs ≡ take i xs ++ x ∷ []
longer {X} xs i x below read = take_more xs i x below ∙ ap (λ (y : X). take i xs ++ y ∷ []) (sym read)

-- an order that tests as equal is
pub tied : (order : Ordering) → is_eq order ≡ true → order ≡ Equal
tied Less is = cc
tied Equal is = refl
tied Greater is = cc

-- a length passes the test of a TEXT's just where it is at most 120
pub short_test : (n : ℕ) → n ≤ 120 → IsTrue (nat_le n 120)
short_test n few = grind (arith, nat_tests)

pub short_from_test : (n : ℕ) → IsTrue (nat_le n 120) → n ≤ 120
short_from_test n few = grind (arith, nat_tests)

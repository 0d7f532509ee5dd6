-- What a walk over the members of a set keeps, from the least member on: the sum or the product of what belongs to them.
use Rattle.std.proofs.Common.{◌≡◌, ℕ, zero, suc, ◌^◌, ◌+◌, ◌*◌, ◌<◌, ◌≤◌, ◌&&◌, Bool, true, false, List, [], ◌∷◌, filter, length, refl, arith, ◌⊎◌, inl, inr}
use Rattle.std.specs.List.{range_with_len, sum_by}
use Rattle.std.proofs.lemmas.List.Sums.{sum_by-cons}
use Rattle.base_laws.specs.Sets.{has, members, without, IsLeastMember}
use Rattle.base_laws.proofs.ListLaws.{filter-length}
use Rattle.base_laws.proofs.SetLaws.{has-empty, has-single_other, has-single_same, has-without}

-- without a, any other member stays, and a is none
other_stays : (s a i : ℕ) → a < i → has (without s (2 ^ a)) i ≡ has s i
other_stays s a i above =
    let other : has (2 ^ a) i ≡ false = has-single_other a i (λ same. absurd (omega (arith, above, same))) in
    rw (has-without, other) (and_true (has s i))
  where
    and_true : (b : Bool) → (b && true) ≡ b
    and_true true = refl
    and_true false = refl

before_stays : (s a i : ℕ) → i < a → has (without s (2 ^ a)) i ≡ has s i
before_stays s a i below =
    let other : has (2 ^ a) i ≡ false = has-single_other a i (λ same. absurd (omega (arith, below, same))) in
    rw (has-without, other) (and_true (has s i))
  where
    and_true : (b : Bool) → (b && true) ≡ b
    and_true true = refl
    and_true false = refl

itself_goes : (s a : ℕ) → has (without s (2 ^ a)) a ≡ false
itself_goes s a = rw (has-without, has-single_same) (and_false (has s a))
  where
    and_false : (b : Bool) → (b && false) ≡ false
    and_false true = refl
    and_false false = refl

-- past a the members are the same
same_past : (s a start n : ℕ) → a < start → filter (has (without s (2 ^ a))) (range_with_len start n) ≡ filter (has s) (range_with_len start n)
same_past s a start zero past = refl
same_past s a start (suc n) past =
    rw (other_stays s a start past, same_past s a (start + 1) n (omega (arith, past))) refl

-- the least member stands before the other ones
least_first : (s a start n : ℕ) → start ≤ a → a < start + n → IsLeastMember s a
    → filter (has s) (range_with_len start n) ≡ a ∷ filter (has (without s (2 ^ a))) (range_with_len start n)
least_first s a start zero low high least = absurd (omega (arith, low, high))
least_first s a start (suc n) low high least =
    by_place (here_or_later start a low) (λ below. least_first s a (start + 1) n (omega (arith, below)) (omega (arith, high)) least)
  where
    here_or_later : (start a : ℕ) → start ≤ a → (start ≡ a) ⊎ (start < a)
    here_or_later start a low = grind arith

    by_place : (start ≡ a) ⊎ (start < a)
        → (start < a → filter (has s) (range_with_len (start + 1) n) ≡ a ∷ filter (has (without s (2 ^ a))) (range_with_len (start + 1) n))
        → filter (has s) (range_with_len start (suc n)) ≡ a ∷ filter (has (without s (2 ^ a))) (range_with_len start (suc n))
    by_place (inl same) later =
        rw (same, least.member, itself_goes s a, same_past s a (a + 1) n (omega arith)) refl
    by_place (inr below) later =
        rw (before_stays s a start below, least.least start below)
        (later below)

pub members-least : (s a : ℕ) → a < 64 → IsLeastMember s a → members s ≡ a ∷ members (without s (2 ^ a))
unfolding members
members-least s a small least = least_first s a 0 64 (omega arith) (omega (arith, small)) least

none_in : (xs : List ℕ) → filter (has 0) xs ≡ []
none_in [] = refl
none_in (x ∷ xs) = rw (has-empty x) (none_in xs)

pub members-empty : members 0 ≡ []
unfolding members
members-empty = none_in (range_with_len 0 64)

pub members-few : (s : ℕ) → length (members s) ≤ 64
unfolding members
members-few s = filter-length (has s) (range_with_len 0 64)

-- a sum over the members
pub sum-least : (f : ℕ → ℕ) (s a t : ℕ) → a < 64 → IsLeastMember s a → t ≡ without s (2 ^ a)
    → sum_by f (members s) ≡ f a + sum_by f (members t)
sum-least f s a t small least is = rw (members-least s a small least, is) (sum_by-cons f a (members (without s (2 ^ a))))

pub sum-none : (f : ℕ → ℕ) (s : ℕ) → s ≡ 0 → sum_by f (members s) ≡ 0
sum-none f s none = rw (none, members-empty) refl

-- a sum is at most as many times what each gives at most
pub sum_bound : (f : ℕ → ℕ) (most : ℕ) → ((a : ℕ) → f a ≤ most) → (xs : List ℕ) → sum_by f xs ≤ length xs * most
sum_bound f most bound [] = omega arith
sum_bound f most bound (x ∷ xs) =
    rw (sum_by-cons f x xs)
    (grind (arith, bound x, sum_bound f most bound xs))

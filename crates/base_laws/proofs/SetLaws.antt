-- Laws of sets as numbers: membership in what is made of sets, and inclusion.
use Rattle.std.proofs.Common.{◌≡◌, ◌≢◌, ℕ, zero, suc, ◌^◌, ◌+◌, ◌%◌, ◌<◌, ◌==◌, List, [], ◌∷◌, Bool, true, false, ◌||◌, ◌&&◌, not, min, max, if◌then◌else◌, bit_and, bit_or, bit_xor, filter, cond, ap, subst, refl, sym, ◌∙◌, arith, ◌⊎◌, inl, inr}
use Rattle.std.specs.Prelude.{IsTrue}
use Rattle.std.specs.Int.{bit_at, trailing_zeros, w64}
use Rattle.std.specs.List.{list_any, list_all, range_with_len, AllByRecursion}
use Rattle.std.proofs.lemmas.Nat.Bits.{bit_at_or, bit_at_and, bit_at_xor, bit_at-lt, bit_at-pow_same, bit_at-pow_other, bit_at-zero, bit_at-trailing_zeros, same_from_bits}
use Rattle.std.proofs.lemmas.Bool.{eqb-false, eqb-true}
use Rattle.std.proofs.lemmas.Bool.Decides.{nat_tests}
use Rattle.base_laws.specs.Folds.{union_to}
use Rattle.base_laws.specs.Sets.{has, members, with_member, with_members, without, IsWithin, is_within, IsLeastMember}

bit_is : (b : ℕ) → b < 2 → (b ≡ 0) ⊎ (b ≡ 1)
bit_is b small = grind arith

or_test : (a b : ℕ) → a < 2 → b < 2 → (max a b == 1) ≡ ((a == 1) || (b == 1))
or_test a b small_a small_b = grind (arith, nat_tests, bit_is a small_a, bit_is b small_b)

and_test : (a b : ℕ) → a < 2 → b < 2 → (min a b == 1) ≡ ((a == 1) && (b == 1))
and_test a b small_a small_b = grind (arith, nat_tests, bit_is a small_a, bit_is b small_b)

-- a member of a union is one of either
pub has-bit_or : (s t i : ℕ) → has (bit_or s t) i ≡ (has s i || has t i)
has-bit_or s t i = rw bit_at_or (or_test (bit_at s i) (bit_at t i) (bit_at-lt s i) (bit_at-lt t i))

-- a member of what is common is one of both
pub has-bit_and : (s t i : ℕ) → has (bit_and s t) i ≡ (has s i && has t i)
has-bit_and s t i = rw bit_at_and (and_test (bit_at s i) (bit_at t i) (bit_at-lt s i) (bit_at-lt t i))

-- the set of one number has that member alone
pub has-single_same : (i : ℕ) → has (2 ^ i) i ≡ true
has-single_same i = rw bit_at-pow_same refl

pub has-single_other : (k i : ℕ) → i ≢ k → has (2 ^ k) i ≡ false
has-single_other k i other = rw (bit_at-pow_other k i other) refl

-- the empty set has no member
pub has-empty : (i : ℕ) → has 0 i ≡ false
has-empty i = rw bit_at-zero refl

xor_test : (a b : ℕ) → a < 2 → b < 2 → ((a + min a b) % 2 == 1) ≡ ((a == 1) && not (b == 1))
xor_test a b small_a small_b = by_bits (bit_is a small_a) (bit_is b small_b)
  where
    by_bits : (a ≡ 0) ⊎ (a ≡ 1) → (b ≡ 0) ⊎ (b ≡ 1) → ((a + min a b) % 2 == 1) ≡ ((a == 1) && not (b == 1))
    by_bits (inl p) (inl q) = rw (p, q) refl
    by_bits (inl p) (inr q) = rw (p, q) refl
    by_bits (inr p) (inl q) = rw (p, q) refl
    by_bits (inr p) (inr q) = rw (p, q) refl

-- a member of the first set that is none of the second
pub has-without : (s t i : ℕ) → has (without s t) i ≡ (has s i && not (has t i))
has-without s t i =
    rw (bit_at_xor, bit_at_and) (xor_test (bit_at s i) (bit_at t i) (bit_at-lt s i) (bit_at-lt t i))

bit_from_has : (a b : ℕ) → a < 2 → b < 2 → (a == 1) ≡ (b == 1) → a ≡ b
bit_from_has a b small_a small_b same = by_bits (bit_is a small_a) (bit_is b small_b)
  where
    by_bits : (a ≡ 0) ⊎ (a ≡ 1) → (b ≡ 0) ⊎ (b ≡ 1) → a ≡ b
    by_bits (inl p) (inl q) = cc
    by_bits (inl p) (inr q) = let h : (0 == 1) ≡ (1 == 1) = rw (p, q) at same in cc
    by_bits (inr p) (inl q) = let h : (1 == 1) ≡ (0 == 1) = rw (p, q) at same in cc
    by_bits (inr p) (inr q) = cc

-- two sets with the same members are one
pub same_members : (s t : ℕ) → ((i : ℕ) → has s i ≡ has t i) → s ≡ t
same_members s t same =
    same_from_bits s t (λ i. bit_from_has (bit_at s i) (bit_at t i) (bit_at-lt s i) (bit_at-lt t i) (same i))

-- inclusion as an equation
pub within_from_union : (s t : ℕ) → bit_or s t ≡ t → IsWithin s t
within_from_union s t whole = record { member = λ i inside. member_of i inside }
  where
    member_of : (i : ℕ) → has s i ≡ true → has t i ≡ true
    member_of i inside =
        let both : has (bit_or s t) i ≡ (has s i || has t i) = has-bit_or s t i in
        let left : has t i ≡ (has s i || has t i) = rw whole at both in
        rw inside at left

pub union_from_within : (s t : ℕ) → IsWithin s t → bit_or s t ≡ t
union_from_within s t within = same_members (bit_or s t) t (λ i. each i (has s i) refl)
  where
    each : (i : ℕ) (b : Bool) → has s i ≡ b → has (bit_or s t) i ≡ has t i
    each i true inside = rw (has-bit_or, inside) (sym (within.member i inside))
    each i false outside = rw (has-bit_or, outside) refl

union_test : (s t : ℕ) → is_within s t ≡ true → bit_or s t ≡ t
union_test s t holds = grind (arith, nat_tests)

test_from_union : (s t : ℕ) → bit_or s t ≡ t → is_within s t ≡ true
test_from_union s t whole = grind (arith, nat_tests)

-- the test of inclusion says whether each member of the first set is one of the second
pub within_from_test : (s t : ℕ) → IsTrue (is_within s t) → IsWithin s t
within_from_test s t holds = within_from_union s t (union_test s t holds)

pub test_from_within : (s t : ℕ) → IsWithin s t → IsTrue (is_within s t)
test_from_within s t within = test_from_union s t (union_from_within s t within)

-- the place of a number's lowest 1 is the least member
pub least_from_lowest : (s : ℕ) → 0 < s → s < 2 ^ 64 → IsLeastMember s (trailing_zeros w64 s)
least_from_lowest s some fits =
    let lowest = bit_at-trailing_zeros w64 s some fits in
    record {
      member = rw lowest.1 refl;
      least = λ k below. is_out k (lowest.2 k below);
    }
  where
    is_out : (k : ℕ) → bit_at s k ≡ 0 → has s k ≡ false
    is_out k zero_there = rw zero_there refl

-- a set has no member exactly where it is 0
pub empty_from_none : (s : ℕ) → ((i : ℕ) → has s i ≡ false) → s ≡ 0
empty_from_none s none = same_members s 0 (λ i. none i ∙ sym (has-empty i))

-- a member of a union over numbers is one of the set of some number
pub has-union_to : (set : ℕ → ℕ) (n i k : ℕ) → k < n → has (set k) i ≡ true → has (union_to set n) i ≡ true
has-union_to set zero i k below inside = absurd (omega arith)
has-union_to set (suc n) i k below inside =
    by_place (last_or_before k n below) (λ before. has-union_to set n i k before inside)
  where
    last_or_before : (k n : ℕ) → k < suc n → (k ≡ n) ⊎ (k < n)
    last_or_before k n below = grind arith

    either_true : (a b : Bool) → a ≡ true → (a || b) ≡ true
    either_true a b holds = rw holds refl

    or_true : (a b : Bool) → b ≡ true → (a || b) ≡ true
    or_true true b holds = refl
    or_true false b holds = holds

    by_place : (k ≡ n) ⊎ (k < n) → (k < n → has (union_to set n) i ≡ true) → has (bit_or (union_to set n) (set n)) i ≡ true
    by_place (inl same) earlier = rw has-bit_or (or_true _ _ (rw same at inside))
    by_place (inr before) earlier = rw has-bit_or (either_true _ _ (earlier before))

-- the set of one number has the numbers that are that one
pub has-single : (k i : ℕ) → has (2 ^ k) i ≡ (k == i)
has-single k i = by_test (k == i) refl
  where
    by_test : (b : Bool) → (k == i) ≡ b → has (2 ^ k) i ≡ b
    by_test true same = let one : k ≡ i = eqb-true k i same in rw one (has-single_same i)
    by_test false other = has-single_other k i (λ same. eqb-false k i other (sym same))

or_assoc : (a b c : Bool) → ((a || b) || c) ≡ (a || (b || c))
or_assoc true b c = refl
or_assoc false b c = refl

-- a member of a set with members added is one of the set or one of those
pub has-with_members : (set : ℕ) (members : List ℕ) (i : ℕ)
    → has (with_members set members) i ≡ (has set i || list_any (λ k. k == i) members)
has-with_members set [] i = or_none (has set i)
  where
    or_none : (a : Bool) → a ≡ (a || false)
    or_none true = refl
    or_none false = refl
has-with_members set (k ∷ rest) i =
    has-with_members (with_member set k) rest i
    ∙ rw (has-bit_or set (2 ^ k) i, has-single k i) (or_assoc (has set i) (k == i) (list_any (λ k. k == i) rest))

-- a test is the same over the members where it is so at each
list_all_members_of : (set : ℕ) (p q : ℕ → Bool) → ((a : ℕ) → has set a ≡ true → p a ≡ q a) → (xs : List ℕ)
    → list_all p (filter (has set) xs) ≡ list_all q (filter (has set) xs)
list_all_members_of set p q agree [] = refl
list_all_members_of set p q agree (a ∷ xs) = by_test (has set a) refl (list_all_members_of set p q agree xs)
  where
    by_test : (b : Bool) → has set a ≡ b → list_all p (filter (has set) xs) ≡ list_all q (filter (has set) xs)
        → list_all p (cond b (a ∷ filter (has set) xs) (filter (has set) xs))
        ≡ list_all q (cond b (a ∷ filter (has set) xs) (filter (has set) xs))
    by_test true inside rest = rw (agree a inside) (ap (λ c. q a && c) rest)
    by_test false outside rest = rest

pub list_all-members : (set : ℕ) (p q : ℕ → Bool) → ((a : ℕ) → has set a ≡ true → p a ≡ q a)
    → list_all p (members set) ≡ list_all q (members set)
unfolding members
list_all-members set p q agree = list_all_members_of set p q agree (range_with_len 0 64)

-- a member stays one where members are added, and each that is added is one
pub with_members-keeps : (set i : ℕ) (members : List ℕ) → has set i ≡ true → has (with_members set members) i ≡ true
with_members-keeps set i members inside = rw (has-with_members, inside) refl

pub with_members-each : (set : ℕ) (members : List ℕ) → AllByRecursion (λ i. has (with_members set members) i ≡ true) members
with_members-each set [] = tt
with_members-each set (k ∷ rest) = (
  with_members-keeps (with_member set k) k rest (rw (has-bit_or, has-single_same) (or_true (has set k))),
  with_members-each (with_member set k) rest,
)
  where
    or_true : (b : Bool) → (b || true) ≡ true
    or_true true = refl
    or_true false = refl

cross_test : (a b : ℕ) → a < 2 → b < 2 → ((a + b) % 2 == 1) ≡ (if b == 1 then not (a == 1) else (a == 1))
cross_test a b small_a small_b = by_bits (bit_is a small_a) (bit_is b small_b)
  where
    by_bits : (a ≡ 0) ⊎ (a ≡ 1) → (b ≡ 0) ⊎ (b ≡ 1) → ((a + b) % 2 == 1) ≡ (if b == 1 then not (a == 1) else (a == 1))
    by_bits (inl p) (inl q) = rw (p, q) refl
    by_bits (inl p) (inr q) = rw (p, q) refl
    by_bits (inr p) (inl q) = rw (p, q) refl
    by_bits (inr p) (inr q) = rw (p, q) refl

-- a member of one of two sets and not of both
pub has-xor : (s t i : ℕ) → has (bit_xor s t) i ≡ (if has t i then not (has s i) else has s i)
has-xor s t i = ap (λ k. k == 1) (bit_at_xor s t i) ∙ cross_test (bit_at s i) (bit_at t i) (bit_at-lt s i) (bit_at-lt t i)

-- a set and that across a number, which has the number where it had not
pub has-cross : (s a i : ℕ) → has (bit_xor s (2 ^ a)) i ≡ (if a == i then not (has s i) else has s i)
has-cross s a i = has-xor s (2 ^ a) i ∙ ap (λ b. if b then not (has s i) else has s i) (has-single a i)

-- a set with one member put in or taken out
pub put-in : (s a : ℕ) → has s a ≡ false → with_member s a ≡ bit_xor s (2 ^ a)
put-in s a out = same_members (with_member s a) (bit_xor s (2 ^ a)) (λ i. by_test i (a == i) refl)
  where
    or_none : (b : Bool) → (b || false) ≡ b
    or_none true = refl
    or_none false = refl

    by_test : (i : ℕ) (b : Bool) → (a == i) ≡ b → has (with_member s a) i ≡ has (bit_xor s (2 ^ a)) i
    by_test i true is =
        let there : has s i ≡ false = subst (λ k. has s k ≡ false) (eqb-true a i is) out in
        has-bit_or s (2 ^ a) i ∙ ap (λ b. has s i || b) (has-single a i ∙ is) ∙ ap (λ b. b || true) there
        ∙ sym (has-cross s a i ∙ ap (λ b. if b then not (has s i) else has s i) is ∙ ap not there)
    by_test i false is =
        has-bit_or s (2 ^ a) i ∙ ap (λ b. has s i || b) (has-single a i ∙ is) ∙ or_none (has s i)
        ∙ sym (has-cross s a i ∙ ap (λ b. if b then not (has s i) else has s i) is)

pub taken-out : (s a : ℕ) → has s a ≡ true → without s (2 ^ a) ≡ bit_xor s (2 ^ a)
taken-out s a inside = same_members (without s (2 ^ a)) (bit_xor s (2 ^ a)) (λ i. by_test i (a == i) refl)
  where
    and_all : (b : Bool) → (b && true) ≡ b
    and_all true = refl
    and_all false = refl

    by_test : (i : ℕ) (b : Bool) → (a == i) ≡ b → has (without s (2 ^ a)) i ≡ has (bit_xor s (2 ^ a)) i
    by_test i true is =
        let there : has s i ≡ true = subst (λ k. has s k ≡ true) (eqb-true a i is) inside in
        has-without s (2 ^ a) i ∙ ap (λ b. has s i && not b) (has-single a i ∙ is) ∙ ap (λ b. b && false) there
        ∙ sym (has-cross s a i ∙ ap (λ b. if b then not (has s i) else has s i) is ∙ ap not there)
    by_test i false is =
        has-without s (2 ^ a) i ∙ ap (λ b. has s i && not b) (has-single a i ∙ is) ∙ and_all (has s i)
        ∙ sym (has-cross s a i ∙ ap (λ b. if b then not (has s i) else has s i) is)

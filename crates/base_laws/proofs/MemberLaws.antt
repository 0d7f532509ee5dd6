-- Laws of a walk over the members of a set: what is taken out makes it smaller, and a test of every member is that of those
-- that are left, once the others have passed.
use Rattle.std.proofs.Common.{◌≡◌, ℕ, zero, suc, ◌^◌, ◌+◌, ◌<◌, ◌≤◌, ◌==◌, List, [], ◌∷◌, Bool, true, false, ◌||◌, ◌&&◌, not, cond, filter, bit_and, bit_or, refl, sym, ◌∙◌, ap, arith, ◌⊎◌, inl, inr}
use Rattle.std.specs.List.{list_all, range_with_len}
use Rattle.std.proofs.lemmas.Bool.{eqb-true}
use Rattle.std.proofs.lemmas.Nat.{or_disjoint, pow_pos}
use Rattle.std.proofs.lemmas.Nat.Bits.{bit_at_above}
use Rattle.base_laws.specs.Sets.{has, members, without, IsWithin}
use Rattle.base_laws.proofs.SetLaws.{empty_from_none, has-bit_and, has-bit_or, has-empty, has-single, has-without, same_members}

-- a set without other members has no more members
pub without-within : (s t : ℕ) → IsWithin (without s t) s
without-within s t = record { member = λ i inside. left_of (has s i) (has t i) (sym (has-without s t i) ∙ inside) }
  where
    left_of : (a b : Bool) → (a && not b) ≡ true → a ≡ true
    left_of true b both = refl
    left_of false b both = both

-- what is taken out is a member no more
taken_out : (s t i : ℕ) → has s i ≡ true → has (without s t) i ≡ false → has t i ≡ true
taken_out s t i inside outside = right_of (has t i) (rw (has-without, inside) at outside)
  where
    right_of : (b : Bool) → not b ≡ false → b ≡ true
    right_of true same = refl
    right_of false same = sym same

-- a set is smaller without one of its members
pub without-lt : (s a : ℕ) → has s a ≡ true → without s (2 ^ a) < s
without-lt s a inside = omega (arith, or_disjoint (without s (2 ^ a)) (2 ^ a) apart, whole, pow_pos a)
  where
    none : (b c : Bool) → ((b && not c) && c) ≡ false
    none true true = refl
    none true false = refl
    none false c = refl

    apart : bit_and (without s (2 ^ a)) (2 ^ a) ≡ 0
    apart = empty_from_none _ (λ i. rw (has-bit_and, has-without) (none (has s i) (has (2 ^ a) i)))

    or_false : (b : Bool) → ((b && true) || false) ≡ b
    or_false true = refl
    or_false false = refl

    or_true : (b : Bool) → (b || true) ≡ true
    or_true true = refl
    or_true false = refl

    member_at : (i : ℕ) → has (2 ^ a) i ≡ true → has s i ≡ true
    member_at i there = rw (sym (eqb-true a i (sym (has-single a i) ∙ there))) inside

    put_back : (i : ℕ) (c : Bool) → has (2 ^ a) i ≡ c → ((has s i && not c) || c) ≡ has s i
    put_back i true there = or_true (has s i && false) ∙ sym (member_at i there)
    put_back i false there = or_false (has s i)

    whole : bit_or (without s (2 ^ a)) (2 ^ a) ≡ s
    whole = same_members _ _ (λ i. rw (has-bit_or, has-without) (put_back i (has (2 ^ a) i) refl))

-- where each member that is taken out passes a test, the members that are left decide whether all pass
all_left : (P : ℕ → Bool) (s t : ℕ) → IsWithin t s → ((i : ℕ) → has s i ≡ true → has t i ≡ false → P i ≡ true)
    → (xs : List ℕ) → list_all P (filter (has t) xs) ≡ list_all P (filter (has s) xs)
all_left P s t within passes [] = refl
all_left P s t within passes (x ∷ xs) = by_tests (has s x) (has t x) refl refl (all_left P s t within passes xs)
  where
    by_tests : (a b : Bool) → has s x ≡ a → has t x ≡ b → list_all P (filter (has t) xs) ≡ list_all P (filter (has s) xs)
        → list_all P (filter (has t) (x ∷ xs)) ≡ list_all P (filter (has s) (x ∷ xs))
    by_tests true true in_s in_t rest = rw (in_s, in_t) (ap (λ b. P x && b) rest)
    by_tests true false in_s in_t rest = rw (in_s, in_t, passes x in_s in_t) rest
    by_tests false true in_s in_t rest = let h : has s x ≡ true = within.member x in_t in cc
    by_tests false false in_s in_t rest = rw (in_s, in_t) rest

pub all_members-left : (P : ℕ → Bool) (s t : ℕ) → IsWithin t s → ((i : ℕ) → has s i ≡ true → has t i ≡ false → P i ≡ true)
    → list_all P (members t) ≡ list_all P (members s)
unfolding members
all_members-left P s t within passes = all_left P s t within passes (range_with_len 0 64)

-- the members that are not among these decide, where these pass
pub all_members-without : (P : ℕ → Bool) (s t : ℕ) → ((i : ℕ) → has t i ≡ true → P i ≡ true)
    → list_all P (members (without s t)) ≡ list_all P (members s)
all_members-without P s t pass =
    all_members-left P s (without s t) (without-within s t) (λ i inside outside. pass i (taken_out s t i inside outside))

-- where a member passes, the other ones decide
pub all_members-more : (P : ℕ → Bool) (s a : ℕ) → P a ≡ true
    → list_all P (members (without s (2 ^ a))) ≡ list_all P (members s)
all_members-more P s a pass =
    all_members-without P s (2 ^ a) (λ i there. rw (sym (eqb-true a i (sym (has-single a i) ∙ there))) pass)

-- where a member fails, not all pass
fails_in : (P : ℕ → Bool) (s a : ℕ) → has s a ≡ true → P a ≡ false → (start n : ℕ) → start ≤ a → a < start + n
    → list_all P (filter (has s) (range_with_len start n)) ≡ false
fails_in P s a inside fail start zero low high = absurd (omega arith)
fails_in P s a inside fail start (suc n) low high =
    by_place (here_or_later start a low) (λ later. fails_in P s a inside fail (start + 1) n later (omega arith))
  where
    here_or_later : (start a : ℕ) → start ≤ a → (start ≡ a) ⊎ (start + 1 ≤ a)
    here_or_later start a low = grind arith

    all_false : (h p : Bool) (rest : List ℕ) → P start ≡ p → list_all P rest ≡ false → list_all P (cond h (start ∷ rest) rest) ≡ false
    all_false true true rest is later = rw is later
    all_false true false rest is later = rw is refl
    all_false false p rest is later = later

    by_place : (start ≡ a) ⊎ (start + 1 ≤ a) → (start + 1 ≤ a → list_all P (filter (has s) (range_with_len (start + 1) n)) ≡ false)
        → list_all P (filter (has s) (range_with_len start (suc n))) ≡ false
    by_place (inl same) later = rw (same, inside, fail) refl
    by_place (inr after) later = all_false (has s start) (P start) (filter (has s) (range_with_len (start + 1) n)) refl (later after)

pub all_members-fail : (P : ℕ → Bool) (s a : ℕ) → has s a ≡ true → a < 64 → P a ≡ false → list_all P (members s) ≡ false
unfolding members
all_members-fail P s a inside small fail = fails_in P s a inside fail 0 64 (omega arith) (omega arith)

-- the empty set has no member that fails
none_in : (P : ℕ → Bool) (xs : List ℕ) → list_all P (filter (has 0) xs) ≡ true
none_in P [] = refl
none_in P (x ∷ xs) = rw (has-empty x) (none_in P xs)

pub all_members-empty : (P : ℕ → Bool) → list_all P (members 0) ≡ true
unfolding members
all_members-empty P = none_in P (range_with_len 0 64)

-- a member of a number below 2 ^ k is below k
pub has-lt : (s k i : ℕ) → s < 2 ^ k → has s i ≡ true → i < k
has-lt s k i fits inside = by_place (below_or_above i k)
  where
    below_or_above : (i k : ℕ) → (i < k) ⊎ (k ≤ i)
    below_or_above i k = grind arith

    by_place : (i < k) ⊎ (k ≤ i) → i < k
    by_place (inl below) = below
    by_place (inr above) = let h : (0 == 1) ≡ true = rw (bit_at_above s k i fits above) at inside in cc

-- what is not below k is no member of a number below 2 ^ k
pub has-past : (s k i : ℕ) → s < 2 ^ k → k ≤ i → has s i ≡ false
has-past s k i fits past = rw (bit_at_above s k i fits past) refl

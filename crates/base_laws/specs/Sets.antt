-- Sets of small numbers, each written as one number: i is a member where bit i is 1.
-- Union is `bit_or`, what is common to two sets is `bit_and`, and the set of i alone is 2 ^ i.
use Rattle.std.specs.Prelude.{◌≡◌, ℕ, ◌^◌, ◌<◌, ◌==◌, Bool, true, false, List, [], ◌∷◌, filter, bit_and, bit_or, bit_xor}
use Rattle.std.specs.Int.{bit_at}
use Rattle.std.specs.List.{range_with_len}

-- whether i is a member of the set
abbrev pub has : ℕ → ℕ → Bool
has set i = bit_at set i == 1

-- the set with i as a member
abbrev pub with_member : ℕ → ℕ → ℕ
with_member set i = bit_or set (2 ^ i)

-- the members of the first set that are none of the second
abbrev pub without : ℕ → ℕ → ℕ
without set other = bit_xor set (bit_and set other)

-- every member of the first set is one of the second
pub record IsWithin (set other : ℕ) : Type 0 where
  pub member : (i : ℕ) → has set i ≡ true → has other i ≡ true

-- whether every member of the first set is one of the second
abbrev pub is_within : ℕ → ℕ → Bool
is_within set other = bit_or set other == other

-- i is the least member of the set
pub record IsLeastMember (set i : ℕ) : Type 0 where
  pub member : has set i ≡ true
  pub least : (k : ℕ) → k < i → has set k ≡ false

-- the set with each of these as a member
abbrev pub with_members : ℕ → List ℕ → ℕ
with_members set [] = set
with_members set (i ∷ rest) = with_members (with_member set i) rest

-- the members below 64, in ascending order
unfoldable pub members : ℕ → List ℕ
members set = filter (has set) (range_with_len 0 64)

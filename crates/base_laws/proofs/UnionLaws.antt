-- Laws of unions of sets, and of the members of the set of one number or of two.
use Rattle.std.proofs.Common.{◌≡◌, ℕ, zero, suc, ◌^◌, ◌<◌, Bool, true, false, ◌||◌, bit_or, refl, sym, ◌∙◌, ap, arith}
use Rattle.std.proofs.Math.Bool.{or_assoc}
use Rattle.std.proofs.lemmas.Bool.{eqb-true, or_left, or_right}
use Rattle.base_laws.specs.Folds.{union_to}
use Rattle.base_laws.specs.Sets.{has, IsWithin}
use Rattle.base_laws.proofs.SetLaws.{has-bit_or, has-single, has-single_same, same_members, has-empty}

-- the order of unions is free
pub union-assoc : (x y z : ℕ) → bit_or (bit_or x y) z ≡ bit_or x (bit_or y z)
union-assoc x y z = same_members (bit_or (bit_or x y) z) (bit_or x (bit_or y z)) (λ i.
    has-bit_or (bit_or x y) z i
    ∙ rw (has-bit_or x y i, has-bit_or x (bit_or y z) i, has-bit_or y z i) (or_assoc (has x i) (has y i) (has z i)))

-- the union of the same sets
pub union-same : (f g : ℕ → ℕ) (n : ℕ) → ((k : ℕ) → k < n → f k ≡ g k) → union_to f n ≡ union_to g n
union-same f g zero same = refl
union-same f g (suc n) same =
    ap (λ s. bit_or s (f n)) (union-same f g n (λ k below. same k (omega (arith, below)))) ∙ ap (bit_or (union_to g n)) (same n (omega arith))

-- a union is within a set that both are within
pub union-within : (s t v : ℕ) → IsWithin s v → IsWithin t v → IsWithin (bit_or s t) v
union-within s t v first second = record { member = λ i inside. by_test i (has s i) refl (sym (has-bit_or s t i) ∙ inside) }
  where
    by_test : (i : ℕ) (b : Bool) → has s i ≡ b → (has s i || has t i) ≡ true → has v i ≡ true
    by_test i true here inside = first.member i here
    by_test i false out inside = second.member i (rw out at inside)

-- the set of a member is within the set
pub single-within : (a v : ℕ) → has v a ≡ true → IsWithin (2 ^ a) v
single-within a v inside = record { member = λ i here. rw (← eqb-true a i (sym (has-single a i) ∙ here)) inside }

-- the set of two numbers has each
pub pair-left : (a b : ℕ) → has (bit_or (2 ^ a) (2 ^ b)) a ≡ true
pair-left a b = has-bit_or (2 ^ a) (2 ^ b) a ∙ or_left (has (2 ^ a) a) (has (2 ^ b) a) (has-single_same a)

pub pair-right : (a b : ℕ) → has (bit_or (2 ^ a) (2 ^ b)) b ≡ true
pair-right a b = has-bit_or (2 ^ a) (2 ^ b) b ∙ or_right (has (2 ^ a) b) (has (2 ^ b) b) (has-single_same b)

-- the empty set has no member
pub no_member : {A : Type 0} (a : ℕ) → has 0 a ≡ true → A
no_member a inside = let h : has 0 a ≡ false = has-empty a in cc

-- the only member of the set of one number
pub only_member : (i a : ℕ) → has (2 ^ i) a ≡ true → a ≡ i
only_member i a inside = sym (eqb-true i a (sym (has-single i a) ∙ inside))

-- a member of a union over numbers is one of the set of some number
pub member_of_union : (set : ℕ → ℕ) (n a : ℕ) → has (union_to set n) a ≡ true → (k : ℕ) × ((k < n) × (has (set k) a ≡ true))
member_of_union set zero a inside = no_member a inside
member_of_union set (suc n) a inside = by_side (member_of_union set n a) (has (union_to set n) a) (has (set n) a) refl refl
    (sym (has-bit_or (union_to set n) (set n) a) ∙ inside)
  where
    sooner : (k : ℕ) × ((k < n) × (has (set k) a ≡ true)) → (k : ℕ) × ((k < suc n) × (has (set k) a ≡ true))
    sooner (k, (below, here)) = (k, (omega arith, here))

    last : n < suc n
    last = omega arith

    by_side : (has (union_to set n) a ≡ true → (k : ℕ) × ((k < n) × (has (set k) a ≡ true))) → (b c : Bool) → has (union_to set n) a ≡ b
        → has (set n) a ≡ c → (b || c) ≡ true → (k : ℕ) × ((k < suc n) × (has (set k) a ≡ true))
    by_side before true c in_left in_right either = sooner (before in_left)
    by_side before false true in_left in_right either = (n, (last, in_right))
    by_side before false false in_left in_right either = cc

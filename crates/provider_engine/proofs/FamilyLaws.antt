-- The attributes that stand in some set of a family stay so, whatever else is made equivalent.
use Rattle.std.proofs.Common.{◌≡◌, ℕ, Bool, true, false, cond, not, ◌||◌, List, [], ◌∷◌, filter, refl, sym, ◌∙◌, ap, bit_or}
use Rattle.std.specs.List.{list_any}
use Rattle.std.specs.Ordering.{is_gt}
use Rattle.base_laws.proofs.SetLaws.{has-bit_or}
use Rattle.base_laws.specs.Sets.{has}
use Rattle.mq_base.specs.declared.attr_set.AttrSet.{AttrSet}
use Rattle.mq_base.specs.declared.ids.AttrId.{AttrId}
use Rattle.plan_algebra.specs.Families.{by_least, meets, merged, pair, placed, united, with_all}

or_assoc : (x y z : Bool) → ((x || y) || z) ≡ (x || (y || z))
or_assoc true y z = refl
or_assoc false y z = refl

or_swap : (x y z : Bool) → (x || (y || z)) ≡ (y || (x || z))
or_swap true true z = refl
or_swap true false z = refl
or_swap false y z = refl

any_placed : (p : AttrSet → Bool) (s : AttrSet) (family : List AttrSet) → list_any p (placed s family) ≡ (p s || list_any p family)
any_placed p s [] = refl
any_placed p s (t ∷ rest) = by_test (is_gt (by_least s t)) (any_placed p s rest)
  where
    by_test : (b : Bool) → list_any p (placed s rest) ≡ (p s || list_any p rest)
        → list_any p (cond b (t ∷ placed s rest) (s ∷ t ∷ rest)) ≡ (p s || (p t || list_any p rest))
    by_test true more = ap (λ x. p t || x) more ∙ or_swap (p t) (p s) (list_any p rest)
    by_test false more = refl

has-with_all : (s : AttrSet) (sets : List AttrSet) (a : ℕ)
    → has (with_all s sets).0 a ≡ (has s.0 a || list_any (λ (t : AttrSet). has t.0 a) sets)
has-with_all s [] a = or_none (has s.0 a)
  where
    or_none : (b : Bool) → b ≡ (b || false)
    or_none true = refl
    or_none false = refl
has-with_all s (t ∷ rest) a =
    has-with_all (record { 0 = bit_or s.0 t.0 }) rest a
    ∙ ap (λ b. b || list_any (λ (u : AttrSet). has u.0 a) rest) (has-bit_or s.0 t.0 a)
    ∙ or_assoc (has s.0 a) (has t.0 a) (list_any (λ (u : AttrSet). has u.0 a) rest)

any_parted : (p q : AttrSet → Bool) (family : List AttrSet)
    → (list_any p (filter q family) || list_any p (filter (λ s. not (q s)) family)) ≡ list_any p family
any_parted p q [] = refl
any_parted p q (s ∷ rest) = by_test (q s) (any_parted p q rest)
  where
    by_test : (b : Bool) → (list_any p (filter q rest) || list_any p (filter (λ t. not (q t)) rest)) ≡ list_any p rest
        → (list_any p (cond b (s ∷ filter q rest) (filter q rest))
        || list_any p (cond (not b) (s ∷ filter (λ t. not (q t)) rest) (filter (λ t. not (q t)) rest)))
        ≡ (p s || list_any p rest)
    by_test true more = or_assoc (p s) _ _ ∙ ap (λ x. p s || x) more
    by_test false more = or_swap (list_any p (filter q rest)) (p s) _ ∙ ap (λ x. p s || x) more

-- an attribute stands in a set after two were made equivalent where it is one of the two, or stood in one before
pub any_merged : (c d : AttrId) (family : List AttrSet) (a : ℕ)
    → list_any (λ (s : AttrSet). has s.0 a) (merged c d family) ≡ (has (pair c d).0 a || list_any (λ (s : AttrSet). has s.0 a) family)
any_merged c d family a =
    any_placed (λ s. has s.0 a) (with_all (pair c d) (filter (meets (pair c d)) family)) (filter (λ s. not (meets (pair c d) s)) family)
    ∙ ap (λ b. b || list_any (λ (s : AttrSet). has s.0 a) (filter (λ s. not (meets (pair c d) s)) family))
    (has-with_all (pair c d) (filter (meets (pair c d)) family) a)
    ∙ or_assoc (has (pair c d).0 a) _ _
    ∙ ap (λ b. has (pair c d).0 a || b) (any_parted (λ s. has s.0 a) (meets (pair c d)) family)

-- and in one of two families where it stands in one of either
pub any_united : (p : AttrSet → Bool) (family others : List AttrSet)
    → list_any p (united family others) ≡ (list_any p others || list_any p family)
any_united p family [] = refl
any_united p family (s ∷ rest) =
    any_united p (placed s family) rest ∙ ap (λ b. list_any p rest || b) (any_placed p s family)
    ∙ or_swap (list_any p rest) (p s) (list_any p family) ∙ sym (or_assoc (p s) (list_any p rest) (list_any p family))

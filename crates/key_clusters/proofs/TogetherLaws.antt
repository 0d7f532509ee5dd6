-- Attributes that stand in one set of a family stay in one set, whatever else is merged, and then it is the set of both.
use Rattle.std.proofs.Common.{◌≡◌, ℕ, ◌^◌, Bool, true, false, cond, not, ◌||◌, ◌&&◌, List, [], ◌∷◌, All, refl, sym, ◌∙◌, ap, bit_or}
use Rattle.std.specs.Prelude.{filter}
use Rattle.std.specs.List.{list_any}
use Rattle.std.specs.Ordering.{is_gt}
use Rattle.std.proofs.Math.Bool.{or_assoc}
use Rattle.std.proofs.lemmas.Bool.{or_left, or_right}
use Rattle.std.proofs.lemmas.List.Elements.{All-head, All-tail}
use Rattle.base_laws.specs.Sets.{has}
use Rattle.base_laws.proofs.ApartLaws.{apart_has, apart_turned}
use Rattle.base_laws.proofs.BoolLaws.{both, together}
use Rattle.base_laws.proofs.SetLaws.{has-bit_or, has-single_same}
use Rattle.mq_base.specs.declared.attr_set.AttrSet.{AttrSet}
use Rattle.mq_base.specs.declared.ids.AttrId.{AttrId}
use Rattle.plan_algebra.specs.Families.{IsBefore, IsFamily, by_least, meets, merged, pair, placed, united, with_all}
use Rattle.key_clusters.specs.Clusters.{set_of}
use Rattle.key_clusters.specs.Laws.{are_together}

or_swap : (x y z : Bool) → (x || (y || z)) ≡ (y || (x || z))
or_swap true true z = refl
or_swap true false z = refl
or_swap false y z = refl

-- a set at its place
placed_here : (p : AttrSet → Bool) (s : AttrSet) (family : List AttrSet) → p s ≡ true → list_any p (placed s family) ≡ true
placed_here p s [] here = or_left (p s) false here
placed_here p s (t ∷ rest) here = by_test (is_gt (by_least s t)) (placed_here p s rest here)
  where
    by_test : (b : Bool) → list_any p (placed s rest) ≡ true → list_any p (cond b (t ∷ placed s rest) (s ∷ t ∷ rest)) ≡ true
    by_test true more = or_right (p t) (list_any p (placed s rest)) more
    by_test false more = or_left (p s) (list_any p (t ∷ rest)) here

placed_kept : (p : AttrSet → Bool) (s : AttrSet) (family : List AttrSet) → list_any p family ≡ true → list_any p (placed s family) ≡ true
placed_kept p s [] kept = cc
placed_kept p s (t ∷ rest) kept = by_test (is_gt (by_least s t)) (by_first (p t) refl (placed_kept p s rest))
  where
    by_first : (c : Bool) → p t ≡ c → (list_any p rest ≡ true → list_any p (placed s rest) ≡ true) → list_any p (t ∷ placed s rest) ≡ true
    by_first true first more = or_left (p t) (list_any p (placed s rest)) first
    by_first false other more = or_right (p t) (list_any p (placed s rest)) (more (rw other at kept))

    by_test : (b : Bool) → list_any p (t ∷ placed s rest) ≡ true → list_any p (cond b (t ∷ placed s rest) (s ∷ t ∷ rest)) ≡ true
    by_test true more = more
    by_test false more = or_right (p s) (list_any p (t ∷ rest)) kept

-- the sets of two families
pub united-left : (p : AttrSet → Bool) (family other : List AttrSet) → list_any p family ≡ true → list_any p (united family other) ≡ true
united-left p family [] kept = kept
united-left p family (s ∷ rest) kept = united-left p (placed s family) rest (placed_kept p s family kept)

pub united-right : (p : AttrSet → Bool) (family other : List AttrSet) → list_any p other ≡ true → list_any p (united family other) ≡ true
united-right p family [] kept = cc
united-right p family (s ∷ rest) kept = by_first (p s) refl (united-right p (placed s family) rest)
  where
    by_first : (c : Bool) → p s ≡ c → (list_any p rest ≡ true → list_any p (united (placed s family) rest) ≡ true)
        → list_any p (united (placed s family) rest) ≡ true
    by_first true first more = united-left p (placed s family) rest (placed_here p s family first)
    by_first false other more = more (rw other at kept)

-- sets made one
with_all_kept : (s : AttrSet) (sets : List AttrSet) (i : ℕ) → has s.0 i ≡ true → has (with_all s sets).0 i ≡ true
with_all_kept s [] i inside = inside
with_all_kept s (t ∷ rest) i inside =
    with_all_kept (record { 0 = bit_or s.0 t.0 }) rest i (has-bit_or s.0 t.0 i ∙ or_left (has s.0 i) (has t.0 i) inside)

with_all_joined : (s : AttrSet) (sets : List AttrSet) (a b : ℕ) → are_together a b sets ≡ true
    → (has (with_all s sets).0 a && has (with_all s sets).0 b) ≡ true
with_all_joined s [] a b kept = cc
with_all_joined s (t ∷ rest) a b kept =
    by_first (has t.0 a && has t.0 b) refl (with_all_joined (record { 0 = bit_or s.0 t.0 }) rest a b)
  where
    member : (i : ℕ) → has t.0 i ≡ true → has (with_all (record { 0 = bit_or s.0 t.0 }) rest).0 i ≡ true
    member i inside = with_all_kept (record { 0 = bit_or s.0 t.0 }) rest i (has-bit_or s.0 t.0 i ∙ or_right (has s.0 i) (has t.0 i) inside)

    by_first : (c : Bool) → (has t.0 a && has t.0 b) ≡ c
        → (are_together a b rest ≡ true
        → (has (with_all (record { 0 = bit_or s.0 t.0 }) rest).0 a && has (with_all (record { 0 = bit_or s.0 t.0 }) rest).0 b) ≡ true)
        → (has (with_all (record { 0 = bit_or s.0 t.0 }) rest).0 a && has (with_all (record { 0 = bit_or s.0 t.0 }) rest).0 b) ≡ true
    by_first true first more =
        let sides = both (has t.0 a) (has t.0 b) first in
        together (has (with_all (record { 0 = bit_or s.0 t.0 }) rest).0 a) (has (with_all (record { 0 = bit_or s.0 t.0 }) rest).0 b)
        (member a sides.0) (member b sides.1)
    by_first false other more = more (rw other at kept)

-- a family in two parts
parted : (p q : AttrSet → Bool) (family : List AttrSet)
    → list_any p family ≡ (list_any p (filter q family) || list_any p (filter (λ s. not (q s)) family))
parted p q [] = refl
parted p q (s ∷ rest) = by_test (q s) (parted p q rest)
  where
    by_test : (b : Bool) → list_any p rest ≡ (list_any p (filter q rest) || list_any p (filter (λ t. not (q t)) rest))
        → list_any p (s ∷ rest)
        ≡ (list_any p (cond b (s ∷ filter q rest) (filter q rest))
        || list_any p (cond (not b) (s ∷ filter (λ t. not (q t)) rest) (filter (λ t. not (q t)) rest)))
    by_test true more =
        ap (λ y. p s || y) more ∙ sym (or_assoc (p s) (list_any p (filter q rest)) (list_any p (filter (λ t. not (q t)) rest)))
    by_test false more =
        ap (λ y. p s || y) more ∙ or_swap (p s) (list_any p (filter q rest)) (list_any p (filter (λ t. not (q t)) rest))

second_of : (x y : Bool) → (x || y) ≡ true → x ≡ false → y ≡ true
second_of x y either out = rw out at either

-- two attributes made equivalent, and those that were so before
pub merged-kept : (c d : AttrId) (family : List AttrSet) (a b : ℕ) → are_together a b family ≡ true → are_together a b (merged c d family) ≡ true
merged-kept c d family a b kept = by_part (are_together a b (filter (meets (pair c d)) family)) refl
  where
    by_part : (x : Bool) → are_together a b (filter (meets (pair c d)) family) ≡ x → are_together a b (merged c d family) ≡ true
    by_part true met =
        placed_here (λ s. has s.0 a && has s.0 b) (with_all (pair c d) (filter (meets (pair c d)) family)) (filter (λ s. not (meets (pair c d) s)) family)
        (with_all_joined (pair c d) (filter (meets (pair c d)) family) a b met)
    by_part false unmet =
        placed_kept (λ s. has s.0 a && has s.0 b) (with_all (pair c d) (filter (meets (pair c d)) family)) (filter (λ s. not (meets (pair c d) s)) family)
        (second_of (are_together a b (filter (meets (pair c d)) family)) (are_together a b (filter (λ s. not (meets (pair c d) s)) family))
        (sym (parted (λ s. has s.0 a && has s.0 b) (meets (pair c d)) family) ∙ kept) unmet)

pub merged-pair : (c d : AttrId) (family : List AttrSet) → are_together c.0 d.0 (merged c d family) ≡ true
merged-pair c d family =
    placed_here (λ s. has s.0 c.0 && has s.0 d.0) whole (filter (λ s. not (meets (pair c d) s)) family)
    (together (has whole.0 c.0) (has whole.0 d.0)
    (with_all_kept (pair c d) (filter (meets (pair c d)) family) c.0
    (has-bit_or (2 ^ c.0) (2 ^ d.0) c.0 ∙ or_left (has (2 ^ c.0) c.0) (has (2 ^ d.0) c.0) (has-single_same c.0)))
    (with_all_kept (pair c d) (filter (meets (pair c d)) family) d.0
    (has-bit_or (2 ^ c.0) (2 ^ d.0) d.0 ∙ or_right (has (2 ^ c.0) d.0) (has (2 ^ d.0) d.0) (has-single_same d.0))))
  where
    whole : AttrSet
    whole = with_all (pair c d) (filter (meets (pair c d)) family)

-- members of a set are none of a set before it
before_both : (s : AttrSet) (rest : List AttrSet) (a b : ℕ) → All (IsBefore s) rest → are_together a b rest ≡ true
    → (has s.0 a ≡ false) × (has s.0 b ≡ false)
before_both s [] a b before kept = cc
before_both s (t ∷ rest) a b before kept =
    by_first (has t.0 a && has t.0 b) refl (before_both s rest a b (All-tail (IsBefore s) t rest before))
  where
    by_first : (c : Bool) → (has t.0 a && has t.0 b) ≡ c → (are_together a b rest ≡ true → (has s.0 a ≡ false) × (has s.0 b ≡ false))
        → (has s.0 a ≡ false) × (has s.0 b ≡ false)
    by_first true first more =
        let sides = both (has t.0 a) (has t.0 b) first in
        let apart = (All-head (IsBefore s) t rest before).apart in
        (apart_has t.0 s.0 a (apart_turned s.0 t.0 apart) sides.0, apart_has t.0 s.0 b (apart_turned s.0 t.0 apart) sides.1)
    by_first false other more = more (rw other at kept)

-- in a family the set of two attributes that stand in one set is that of both
pub same-set : (family : List AttrSet) (a b : ℕ) → IsFamily family → are_together a b family ≡ true → set_of family a ≡ set_of family b
same-set [] a b fam kept = cc
same-set (s ∷ rest) a b fam kept = by_first (has s.0 a && has s.0 b) refl (same-set rest a b fam.2)
  where
    by_first : (c : Bool) → (has s.0 a && has s.0 b) ≡ c → (are_together a b rest ≡ true → set_of rest a ≡ set_of rest b)
        → set_of (s ∷ rest) a ≡ set_of (s ∷ rest) b
    by_first true first more =
        let sides = both (has s.0 a) (has s.0 b) first in
        rw (sides.0, sides.1) refl
    by_first false other more =
        let later : are_together a b rest ≡ true = rw other at kept in
        let out = before_both s rest a b fam.1 later in
        rw (out.0, out.1) (more later)

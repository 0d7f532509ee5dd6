-- Laws of a set without a part of it, when either is cut, joined, or gets or loses a member.
use Rattle.std.proofs.Common.{◌≡◌, ℕ, ◌^◌, Bool, true, false, ◌||◌, ◌&&◌, not, bit_and, bit_or, refl, sym, ◌∙◌, ap}
use Rattle.std.proofs.lemmas.Bool.{eqb-true}
use Rattle.base_laws.specs.Sets.{has, with_member, without, IsWithin}
use Rattle.base_laws.proofs.SetLaws.{has-bit_and, has-bit_or, has-empty, has-single, has-without, same_members}

-- both cut to one set
pub without-cut : (v e k : ℕ) → without (bit_and v k) (bit_and e k) ≡ bit_and (without v e) k
without-cut v e k = same_members _ _ (λ i.
    rw (has-without (bit_and v k) (bit_and e k) i, has-bit_and v k i, has-bit_and e k i, has-bit_and (without v e) k i, has-without v e i)
    (law (has v i) (has e i) (has k i)))
  where
    law : (v e k : Bool) → ((v && k) && not (e && k)) ≡ ((v && not e) && k)
    law true true true = refl
    law true true false = refl
    law true false true = refl
    law true false false = refl
    law false e k = refl

-- a part of a set, cut to what is kept of the set
pub cut-kept : (v e k : ℕ) → IsWithin e v → bit_and e (bit_and v k) ≡ bit_and e k
cut-kept v e k within = same_members _ _ (λ i.
    rw (has-bit_and e (bit_and v k) i, has-bit_and v k i, has-bit_and e k i) (law (has e i) (has v i) (has k i) (within.member i)))
  where
    law : (e v k : Bool) → (e ≡ true → v ≡ true) → (e && (v && k)) ≡ (e && k)
    law true v k inside = rw (inside refl) refl
    law false v k inside = refl

-- a cut keeps inclusion
pub within-cut : (v e k : ℕ) → IsWithin e v → IsWithin (bit_and e k) (bit_and v k)
within-cut v e k within = record {
  member = λ i inside.
      has-bit_and v k i ∙ law (has e i) (has v i) (has k i) (within.member i) (sym (has-bit_and e k i) ∙ inside);
}
  where
    law : (e v k : Bool) → (e ≡ true → v ≡ true) → (e && k) ≡ true → (v && k) ≡ true
    law true v k inside both = rw (inside refl) both
    law false v k inside both = cc

-- parts of two sets that share nothing
pub without-both : (v w e f : ℕ) → bit_and v w ≡ 0 → IsWithin e v → IsWithin f w
    → without (bit_or v w) (bit_or e f) ≡ bit_or (without v e) (without w f)
without-both v w e f apart left right = same_members _ _ (λ i.
    rw (has-without (bit_or v w) (bit_or e f) i, has-bit_or v w i, has-bit_or e f i, has-bit_or (without v e) (without w f) i, has-without v e i, has-without w f i)
    (law (has v i) (has w i) (has e i) (has f i) (sym (has-bit_and v w i) ∙ ap (λ s. has s i) apart ∙ has-empty i) (left.member i) (right.member i)))
  where
    law : (v w e f : Bool) → (v && w) ≡ false → (e ≡ true → v ≡ true) → (f ≡ true → w ≡ true)
        → ((v || w) && not (e || f)) ≡ ((v && not e) || (w && not f))
    law true true e f apart left right = cc
    law true false true f apart left right = refl
    law true false false true apart left right = let h : false ≡ true = right refl in cc
    law true false false false apart left right = refl
    law false true true f apart left right = let h : false ≡ true = left refl in cc
    law false true false f apart left right = refl
    law false false e f apart left right = refl

-- unions keep inclusion
pub within-both : (v w e f : ℕ) → IsWithin e v → IsWithin f w → IsWithin (bit_or e f) (bit_or v w)
within-both v w e f left right = record {
  member = λ i inside.
      has-bit_or v w i ∙ law (has v i) (has w i) (has e i) (has f i) (left.member i) (right.member i) (sym (has-bit_or e f i) ∙ inside);
}
  where
    law : (v w e f : Bool) → (e ≡ true → v ≡ true) → (f ≡ true → w ≡ true) → (e || f) ≡ true → (v || w) ≡ true
    law true w e f left right either = refl
    law false w true f left right either = let h : false ≡ true = left refl in cc
    law false w false true left right either = right refl
    law false w false false left right either = cc

-- the part has one member more
pub without-more : (v e a : ℕ) → without v (bit_or e (2 ^ a)) ≡ without (without v e) (2 ^ a)
without-more v e a = same_members _ _ (λ i.
    rw (has-without v (bit_or e (2 ^ a)) i, has-bit_or e (2 ^ a) i, has-without (without v e) (2 ^ a) i, has-without v e i)
    (law (has v i) (has e i) (has (2 ^ a) i)))
  where
    law : (v e c : Bool) → (v && not (e || c)) ≡ ((v && not e) && not c)
    law true true c = refl
    law true false c = refl
    law false e c = refl

-- a set has each member of the set of one of its members
single_in : (s a : ℕ) → has s a ≡ true → (i : ℕ) → has (2 ^ a) i ≡ true → has s i ≡ true
single_in s a inside i there = rw (sym (eqb-true a i (sym (has-single a i) ∙ there))) inside

-- which is one of the set that was none of the part
pub within-more : (v e a : ℕ) → IsWithin e v → has (without v e) a ≡ true → IsWithin (bit_or e (2 ^ a)) v
within-more v e a within plain = record {
  member = λ i inside.
      law (has v i) (has e i) (has (2 ^ a) i) (within.member i) (single_in v a (visible (has v a) (has e a) (sym (has-without v e a) ∙ plain)) i)
      (sym (has-bit_or e (2 ^ a) i) ∙ inside);
}
  where
    visible : (v e : Bool) → (v && not e) ≡ true → v ≡ true
    visible true e both = refl
    visible false e both = both

    law : (v e c : Bool) → (e ≡ true → v ≡ true) → (c ≡ true → v ≡ true) → (e || c) ≡ true → v ≡ true
    law v true c encrypted new either = encrypted refl
    law v false c encrypted new either = new either

-- the part has one member fewer
pub without-less : (v e a : ℕ) → IsWithin e v → has e a ≡ true → without v (without e (2 ^ a)) ≡ with_member (without v e) a
without-less v e a within sealed = same_members _ _ (λ i.
    rw (has-without v (without e (2 ^ a)) i, has-without e (2 ^ a) i, has-bit_or (without v e) (2 ^ a) i, has-without v e i)
    (law (has v i) (has e i) (has (2 ^ a) i) (λ there. within.member i (single_in e a sealed i there)) (within.member i)))
  where
    law : (v e c : Bool) → (c ≡ true → v ≡ true) → (e ≡ true → v ≡ true) → (v && not (e && not c)) ≡ ((v && not e) || c)
    law true true true visible within = refl
    law true true false visible within = refl
    law true false true visible within = refl
    law true false false visible within = refl
    law false e true visible within = visible refl
    law false e false visible within = refl

pub within-less : (v e a : ℕ) → IsWithin e v → IsWithin (without e (2 ^ a)) v
within-less v e a within = record {
  member = λ i inside.
      law (has v i) (has e i) (has (2 ^ a) i) (within.member i) (sym (has-without e (2 ^ a) i) ∙ inside);
}
  where
    law : (v e c : Bool) → (e ≡ true → v ≡ true) → (e && not c) ≡ true → v ≡ true
    law v true c within both = within refl
    law v false c within both = cc

-- a set without what it has in common with another one
pub without-common : (v e : ℕ) → without v (bit_and v e) ≡ without v e
without-common v e = same_members _ _ (λ i.
    rw (has-without v (bit_and v e) i, has-bit_and v e i, has-without v e i) (law (has v i) (has e i)))
  where
    law : (v e : Bool) → (v && not (v && e)) ≡ (v && not e)
    law true e = refl
    law false e = refl

pub within-common : (v e : ℕ) → IsWithin (bit_and v e) v
within-common v e = record { member = λ i inside. law (has v i) (has e i) (sym (has-bit_and v e i) ∙ inside) }
  where
    law : (v e : Bool) → (v && e) ≡ true → v ≡ true
    law true e both = refl
    law false e both = both

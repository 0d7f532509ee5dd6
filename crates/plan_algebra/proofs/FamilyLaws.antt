-- Laws of families, one set on and at the end.
use Rattle.std.proofs.Common.{◌≡◌, ℕ, ◌+◌, ◌<◌, ◌≤◌, Bool, true, false, cond, not, List, [], ◌∷◌, ◌++◌, length, get_or, take, drop, refl, sym, ◌∙◌, ap, append_assoc, bit_or, arith}
use Rattle.std.specs.Prelude.{filter}
use Rattle.std.specs.Int.{trailing_zeros, w64}
use Rattle.std.specs.List.{insert}
use Rattle.std.specs.Ordering.{is_gt}
use Rattle.std.proofs.lemmas.List.{drop_more, drop_all, take_more, take_all, append-nil}
use Rattle.std.proofs.lemmas.List.Elements.{filter_more}
use Rattle.base_laws.proofs.NumberLaws.{after_test, upto_test}
use Rattle.mq_base.specs.declared.attr_set.AttrSet.{AttrSet}
use Rattle.plan_algebra.specs.Families.{by_least, meets, placed, united, with_all}

-- past a set that is gathered if it meets the two attributes
meeting_head : (test : AttrSet → Bool) (s t : AttrSet) (rest : List AttrSet) (b : Bool) → test t ≡ b
    → with_all s (filter test (t ∷ rest)) ≡ with_all (record { 0 = cond b (bit_or s.0 t.0) s.0 }) (filter test rest)
meeting_head test s t rest true meets = rw meets refl
meeting_head test s t rest false apart = rw apart refl

pub meeting-more : (test : AttrSet → Bool) (s : AttrSet) (family : List AttrSet) (i : ℕ) (d : AttrSet) → i < length family
    → with_all s (filter test (drop i family))
    ≡ with_all (record { 0 = cond (test (get_or family i d)) (bit_or s.0 (get_or family i d).0) s.0 }) (filter test (drop (i + 1) family))
meeting-more test s family i d below =
    rw (drop_more family i d below) (meeting_head test s (get_or family i d) (drop (i + 1) family) (test (get_or family i d)) refl)

pub meeting-step : (test : AttrSet → Bool) (whole s made : AttrSet) (family : List AttrSet) (i : ℕ) (d : AttrSet) (b : Bool) → i < length family
    → b ≡ test (get_or family i d) → made.0 ≡ cond b (bit_or s.0 (get_or family i d).0) s.0
    → whole ≡ with_all s (filter test (drop i family)) → whole ≡ with_all made (filter test (drop (i + 1) family))
meeting-step test whole s made family i d b below tested is before =
    before ∙ meeting-more test s family i d below
    ∙ ap (λ (n : ℕ). with_all (record { 0 = n }) (filter test (drop (i + 1) family)))
    (ap (λ (t : Bool). cond t (bit_or s.0 (get_or family i d).0) s.0) (sym tested) ∙ sym is)

pub meeting-end : (test : AttrSet → Bool) (s : AttrSet) (family : List AttrSet) (i : ℕ) → length family ≤ i
    → with_all s (filter test (drop i family)) ≡ s
meeting-end test s family i past = rw (drop_all i family past) refl

-- past a set that is kept if the test takes it
pub keeping-step : (test : AttrSet → Bool) (before after family : List AttrSet) (i : ℕ) (d : AttrSet) (b : Bool) → i < length family
    → b ≡ test (get_or family i d) → after ≡ before ++ cond b (get_or family i d ∷ []) []
    → before ≡ filter test (take i family) → after ≡ filter test (take (i + 1) family)
keeping-step test before after family i d b below tested is so_far =
    is ∙ ap (λ (t : Bool). before ++ cond t (get_or family i d ∷ []) []) tested
    ∙ ap (λ (kept : List AttrSet). kept ++ cond (test (get_or family i d)) (get_or family i d ∷ []) []) so_far
    ∙ sym (filter_more test family i d below)

-- past a set that is placed
pub united-more : (family other : List AttrSet) (i : ℕ) (d : AttrSet) → i < length other
    → united family (drop i other) ≡ united (placed (get_or other i d) family) (drop (i + 1) other)
united-more family other i d below = rw (drop_more other i d below) refl

pub united-step : (whole family made other : List AttrSet) (i : ℕ) (d : AttrSet) → i < length other → made ≡ placed (get_or other i d) family
    → whole ≡ united family (drop i other) → whole ≡ united made (drop (i + 1) other)
united-step whole family made other i d below is before =
    before ∙ united-more family other i d below ∙ ap (λ (f : List AttrSet). united f (drop (i + 1) other)) (sym is)

pub united-end : (family other : List AttrSet) (i : ℕ) → length other ≤ i → united family (drop i other) ≡ family
united-end family other i past = rw (drop_all i other past) refl

-- past a set that is before another
pub placed-more : (s : AttrSet) (family : List AttrSet) (i : ℕ) (d : AttrSet) → i < length family
    → trailing_zeros w64 (get_or family i d).0 < trailing_zeros w64 s.0
    → take i family ++ placed s (drop i family) ≡ take (i + 1) family ++ placed s (drop (i + 1) family)
placed-more s family i d below before =
    rw (drop_more family i d below, take_more family i d below, append_assoc)
    (ap (λ rest. take i family ++ rest)
    (by_test (is_gt (by_least s (get_or family i d))) (after_test (trailing_zeros w64 s.0) (trailing_zeros w64 (get_or family i d).0) before)))
  where
    by_test : (b : Bool) → b ≡ true
        → cond b (get_or family i d ∷ placed s (drop (i + 1) family)) (s ∷ get_or family i d ∷ drop (i + 1) family)
        ≡ get_or family i d ∷ [] ++ placed s (drop (i + 1) family)
    by_test true after = refl
    by_test false after = cc

pub placed-here : (s : AttrSet) (family : List AttrSet) (i : ℕ) (d : AttrSet) → i < length family
    → trailing_zeros w64 s.0 ≤ trailing_zeros w64 (get_or family i d).0
    → take i family ++ placed s (drop i family) ≡ insert family i s
placed-here s family i d below upto =
    rw (drop_more family i d below, upto_test (trailing_zeros w64 s.0) (trailing_zeros w64 (get_or family i d).0) upto) refl

pub placed-end : (s : AttrSet) (family : List AttrSet) (i : ℕ) → length family ≤ i
    → take i family ++ placed s (drop i family) ≡ insert family (length family) s
placed-end s family i past =
    rw (drop_all i family past, take_all i family past, take_all (length family) family (omega arith), drop_all (length family) family (omega arith)) refl

pub ruleset families = (meeting-more, meeting-end, united-more, united-end, placed-more, placed-here, placed-end, filter_more, append-nil)

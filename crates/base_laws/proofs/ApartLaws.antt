-- Laws of sets that have no member in common.
use Rattle.std.proofs.Common.{◌≡◌, ℕ, Bool, true, false, ◌||◌, ◌&&◌, bit_and, bit_or, refl, sym, ◌∙◌, ap}
use Rattle.base_laws.specs.Sets.{has, IsWithin}
use Rattle.base_laws.proofs.SetLaws.{empty_from_none, has-bit_and, has-bit_or, has-empty}

-- sets without a member in common
pub apart_has : (s t i : ℕ) → bit_and s t ≡ 0 → has s i ≡ true → has t i ≡ false
apart_has s t i none inside = not_both (has t i) (sym (has-bit_and s t i) ∙ ap (λ n. has n i) none ∙ has-empty i) inside
  where
    not_both : (y : Bool) → (has s i && y) ≡ false → has s i ≡ true → y ≡ false
    not_both true both here = let h : true ≡ false = rw here at both in cc
    not_both false both here = refl

pub apart_from : (s t : ℕ) → ((i : ℕ) → has s i ≡ true → has t i ≡ false) → bit_and s t ≡ 0
apart_from s t none = empty_from_none (bit_and s t) (λ i. has-bit_and s t i ∙ by_test i (has s i) refl)
  where
    by_test : (i : ℕ) (b : Bool) → has s i ≡ b → (b && has t i) ≡ false
    by_test i true inside = none i inside
    by_test i false outside = refl

pub apart_turned : (s t : ℕ) → bit_and s t ≡ 0 → bit_and t s ≡ 0
apart_turned s t none = apart_from t s (λ i inside. by_test i (has s i) refl inside)
  where
    by_test : (i : ℕ) (b : Bool) → has s i ≡ b → has t i ≡ true → has s i ≡ false
    by_test i true here inside = let h = apart_has s t i none here in cc
    by_test i false outside inside = outside

pub apart_within : (s t v w : ℕ) → bit_and v w ≡ 0 → IsWithin s v → IsWithin t w → bit_and s t ≡ 0
apart_within s t v w none in_v in_w = apart_from s t (λ i inside. by_test i (has t i) refl (apart_has v w i none (in_v.member i inside)))
  where
    by_test : (i : ℕ) (b : Bool) → has t i ≡ b → has w i ≡ false → has t i ≡ false
    by_test i true here outside = let h = in_w.member i here in cc
    by_test i false here outside = here

-- nor has their union one in common with a set that neither has
pub or_apart : (s t u : ℕ) → bit_and s u ≡ 0 → bit_and t u ≡ 0 → bit_and (bit_or s t) u ≡ 0
or_apart s t u first second = apart_from (bit_or s t) u (λ i inside. by_test i (has s i) refl (sym (has-bit_or s t i) ∙ inside))
  where
    by_test : (i : ℕ) (b : Bool) → has s i ≡ b → (has s i || has t i) ≡ true → has u i ≡ false
    by_test i true here inside = apart_has s u i first here
    by_test i false out inside = apart_has t u i second (rw out at inside)

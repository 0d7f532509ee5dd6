-- No condition is broken exactly where all three hold.
use Rattle.std.proofs.Common.{◌≡◌, ℕ, ◌==◌, Bool, true, false, ◌&&◌, ◌||◌, not, List, [], ◌∷◌, Option, Some, None, bit_or, refl, sym, ◌∙◌, ap}
use Rattle.std.specs.Prelude.{◌↔◌, if◌then◌else◌}
use Rattle.std.specs.Int.{trailing_zeros, w64}
use Rattle.std.specs.List.{list_all}
use Rattle.std.specs.Option.{option_or}
use Rattle.std.proofs.lemmas.Bool.{eqb-true}
use Rattle.base_laws.specs.Sets.{has, without, is_within, IsWithin}
use Rattle.base_laws.proofs.SetLaws.{empty_from_none, has-empty, has-without, test_from_within, within_from_test}
use Rattle.mq_base.specs.declared.attr_set.AttrSet.{AttrSet}
use Rattle.relation_profile.specs.Profile.{Profile}
use Rattle.view_authority.specs.declared.breach.Breach.{Breach}
use Rattle.view_authority.specs.Authority.{is_alike, may, sees_alike, sees_plain, sees_sealed}
use Rattle.view_authority.specs.Breaches.{breach, family_breach, least_breach, plain_breach, sealed_breach, set_breach}

-- nothing of a set is outside another exactly where it is within
nothing_outside : (s t : ℕ) → IsWithin s t → without s t ≡ 0
nothing_outside s t within = empty_from_none (without s t) (λ i. has-without s t i ∙ law (has s i) (has t i) (within.member i))
  where
    law : (a b : Bool) → (a ≡ true → b ≡ true) → (a && not b) ≡ false
    law true b inside = rw (inside refl) refl
    law false b inside = refl

within_where_nothing : (s t : ℕ) → without s t ≡ 0 → IsWithin s t
within_where_nothing s t none = record {
  member = λ i inside.
      law (has t i) (sym (rw inside at (has-without s t i)) ∙ ap (λ u. has u i) none ∙ has-empty i);
}
  where
    law : (b : Bool) → not b ≡ false → b ≡ true
    law true is = refl
    law false is = sym is

-- as an equation of tests
outside-within : (s t : ℕ) → (without s t == 0) ≡ is_within s t
outside-within s t = by_test (is_within s t) refl (without s t == 0) refl
  where
    by_test : (b : Bool) → is_within s t ≡ b → (a : Bool) → (without s t == 0) ≡ a → a ≡ b
    by_test true holds true none = refl
    by_test true holds false none =
        let h : (0 == 0) ≡ false = rw (nothing_outside s t (within_from_test s t holds)) at none in cc
    by_test false holds true none =
        let h : is_within s t ≡ true = test_from_within s t (within_where_nothing s t (eqb-true (without s t) 0 none)) in cc
    by_test false holds false none = refl

-- whether no breach was found
abbrev clear : Option Breach → Bool
clear None = true
clear (Some b) = false

least_clear : (rule set : ℕ) → clear (least_breach rule set) ≡ (set == 0)
least_clear rule set = by_test (set == 0)
  where
    by_test : (b : Bool) → clear (if b then None else Some (record { rule = rule; attr = record { 0 = trailing_zeros w64 set } })) ≡ b
    by_test true = refl
    by_test false = refl

rule_clear : (rule s t : ℕ) → clear (least_breach rule (without s t)) ≡ is_within s t
rule_clear rule s t = least_clear rule (without s t) ∙ outside-within s t

set_clear : (plain sealed : ℕ) (set : AttrSet) → clear (set_breach plain sealed set) ≡ is_alike plain sealed set
set_clear plain sealed set = by_tests (is_within set.0 plain) (is_within set.0 sealed) (rule_clear 3 set.0 plain)
  where
    by_tests : (a b : Bool) → clear (least_breach 3 (without set.0 plain)) ≡ a
        → clear (if a || b then None else least_breach 3 (without set.0 plain)) ≡ (a || b)
    by_tests true b is = refl
    by_tests false true is = refl
    by_tests false false is = is

either_clear : (first rest : Option Breach) → clear (option_or first rest) ≡ (clear first && clear rest)
either_clear None rest = refl
either_clear (Some b) rest = refl

family_clear : (plain sealed : ℕ) (family : List AttrSet) → clear (family_breach plain sealed family) ≡ list_all (is_alike plain sealed) family
family_clear plain sealed [] = refl
family_clear plain sealed (set ∷ rest) =
    either_clear (set_breach plain sealed set) (family_breach plain sealed rest)
    ∙ rw (set_clear plain sealed set, family_clear plain sealed rest) refl

and_assoc : (a b c : Bool) → (a && (b && c)) ≡ ((a && b) && c)
and_assoc true b c = refl
and_assoc false b c = refl

breach_clear : (plain sealed : ℕ) (p : Profile) → clear (breach plain sealed p) ≡ may plain sealed p
breach_clear plain sealed p =
    either_clear (plain_breach plain p) (option_or (sealed_breach plain sealed p) (family_breach plain sealed p.equivalent))
    ∙ ap (λ c. clear (plain_breach plain p) && c) (either_clear (sealed_breach plain sealed p) (family_breach plain sealed p.equivalent))
    ∙ rw (
      rule_clear 1 (bit_or p.visible_plain p.implicit_plain) plain,
      rule_clear 2 (bit_or p.visible_encrypted p.implicit_encrypted) (bit_or plain sealed),
      family_clear plain sealed p.equivalent,
    )
    (and_assoc (sees_plain plain p) (sees_sealed plain sealed p) (sees_alike plain sealed p))

from_clear : (found : Option Breach) (b : Bool) → clear found ≡ b → (found ≡ None) ↔ (b ≡ true)
from_clear None b is = (λ none. sym is, λ holds. refl)
from_clear (Some x) b is = (λ none. cc, λ holds. absurd (let h : false ≡ true = is ∙ holds in cc))

pub exactly : (plain sealed : ℕ) (p : Profile) → (breach plain sealed p ≡ None) ↔ (may plain sealed p ≡ true)
exactly plain sealed p = from_clear (breach plain sealed p) (may plain sealed p) (breach_clear plain sealed p)

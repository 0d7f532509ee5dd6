-- The first broken condition of small profiles, computed; the values are worked out by hand from docs/MODEL.md, "Authorised".
use lib.Count.{count_trailing_zeros}
use Rattle.std.proofs.Common.{◌≡◌, ℕ, true, Option, Some, None, List, [], ◌∷◌, map, refl}
use Rattle.mq_base.specs.declared.attr_set.AttrSet.{AttrSet}
use Rattle.relation_profile.specs.Profile.{Profile}
use Rattle.view_authority.specs.declared.breach.Breach.{Breach}
use Rattle.view_authority.specs.Authority.{may}
use Rattle.view_authority.specs.Breaches.{breach}

abbrev set : ℕ → AttrSet
set members = record { 0 = members }

abbrev profile : ℕ → ℕ → ℕ → ℕ → List ℕ → Profile
profile vp ve ip ie eq = record {
  visible_plain = vp;
  visible_encrypted = ve;
  implicit_plain = ip;
  implicit_encrypted = ie;
  equivalent = map set eq;
}

abbrev broken : ℕ → ℕ → Option Breach
broken rule a = Some (record { rule = rule; attr = record { 0 = a } })

-- of a subject that may see 0 and 1 plain, 2 and 3 sealed: what is plain may also be sealed
all_hold : breach 3 12 (profile 1 6 2 8 (3 ∷ 12 ∷ [])) ≡ None
all_hold = refl

all_may : may 3 12 (profile 1 6 2 8 (3 ∷ 12 ∷ [])) ≡ true
all_may = refl

-- one profile for each condition, which breaks it alone
first_alone : breach 3 12 (profile 5 8 2 4 (3 ∷ [])) ≡ broken 1 2
unfolding count_trailing_zeros
first_alone = refl

second_alone : breach 3 12 (profile 1 52 2 8 (3 ∷ [])) ≡ broken 2 4
unfolding count_trailing_zeros
second_alone = refl

-- 1 is the least member of the set, and may be seen plain
third_alone : breach 3 12 (profile 1 4 2 8 (1 ∷ 6 ∷ [])) ≡ broken 3 2
unfolding count_trailing_zeros
third_alone = refl

-- what is only implicit counts too
implicit_plaintext : breach 3 12 (profile 1 4 8 0 []) ≡ broken 1 3
unfolding count_trailing_zeros
implicit_plaintext = refl

implicit_encrypted : breach 3 12 (profile 1 4 0 32 []) ≡ broken 2 5
unfolding count_trailing_zeros
implicit_encrypted = refl

-- the first condition is told before the second, that before the third, and the first set before the second
in_order : breach 3 12 (profile 20 32 0 0 (6 ∷ [])) ≡ broken 1 2
unfolding count_trailing_zeros
in_order = refl

second_before_third : breach 3 12 (profile 1 32 0 0 (6 ∷ [])) ≡ broken 2 5
unfolding count_trailing_zeros
second_before_third = refl

first_set : breach 3 12 (profile 1 4 0 0 (9 ∷ 6 ∷ [])) ≡ broken 3 3
unfolding count_trailing_zeros
first_set = refl

-- a join of a and c (0 and 2) on sealed cells, for a subject that may see a, b and d plain and only c sealed
sealed_join : breach 11 4 (profile 10 5 0 0 (5 ∷ [])) ≡ broken 3 2
unfolding count_trailing_zeros
sealed_join = refl

-- for a subject that may see all four sealed, where a was sealed when it was selected by, and where it was plain
selected_sealed : may 0 15 (profile 0 15 0 1 (5 ∷ [])) ≡ true
selected_sealed = refl

selected_plain : breach 0 15 (profile 0 15 1 0 (5 ∷ [])) ≡ broken 1 0
unfolding count_trailing_zeros
selected_plain = refl

-- S, B, D, T, C, P are 0 to 5: the join on sealed S and C with T, D and P plain, for one that may see B, D, T and P plain, S and
-- C sealed, and for one that may see only D and T plain
joined_premiums : may 46 17 (profile 44 17 4 0 (17 ∷ [])) ≡ true
joined_premiums = refl

premiums_in_plaintext : breach 12 49 (profile 44 17 4 0 (17 ∷ [])) ≡ broken 1 5
unfolding count_trailing_zeros
premiums_in_plaintext = refl

-- the answer, for one that may see all but B plain
answered : may 61 0 (profile 40 0 44 0 (17 ∷ [])) ≡ true
answered = refl

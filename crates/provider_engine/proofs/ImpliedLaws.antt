-- What a profile shows and tells: the visible attributes and the implied ones, which stay implied by every step.
use Rattle.std.proofs.Common.{◌≡◌, ◌⊎◌, inl, inr, ℕ, ◌^◌, Bool, true, false, cond, not, ◌&&◌, ◌||◌, List, refl, ◌∙◌, bit_and}
use Rattle.std.specs.List.{list_any}
use Rattle.base_laws.proofs.BoolLaws.{together}
use Rattle.base_laws.proofs.SetLaws.{has-bit_and, has-bit_or, has-single_same, has-without}
use Rattle.base_laws.specs.Sets.{has, with_member, without}
use Rattle.mq_base.specs.declared.attr_set.AttrSet.{AttrSet}
use Rattle.mq_base.specs.declared.ids.AttrId.{AttrId}
use Rattle.mq_base.specs.declared.plan.PlanOp.{PlanOp}
use Rattle.mq_base.specs.declared.plan.PlanOp.TheVariants as op
use Rattle.plan_algebra.specs.Families.{pair}
use Rattle.provider_engine.proofs.FamilyLaws.{any_merged, any_united}
use Rattle.relation_profile.specs.Profile.{Profile}
use Rattle.relation_profile.specs.Steps.{after_dec, after_enc, after_one, after_two, both, equated, imply, leaf_profile, project}
use Rattle.provider_engine.proofs.OrLaws.{either, or_first, or_second}

-- whether an attribute is visible, plain or sealed
abbrev pub visible : Profile → ℕ → Bool
visible p a = has p.visible_plain a || has p.visible_encrypted a

-- whether an attribute stands in some set of a family
abbrev pub stands_in : List AttrSet → ℕ → Bool
stands_in family a = list_any (λ (set : AttrSet). has set.0 a) family

-- whether an attribute is implicit or equivalent
abbrev pub implied : Profile → ℕ → Bool
implied p a = has p.implicit_plain a || (has p.implicit_encrypted a || stands_in p.equivalent a)

-- each part leads to a part
pub implied_leads : (p q : Profile) (a : ℕ) → (has p.implicit_plain a ≡ true → has q.implicit_plain a ≡ true)
    → (has p.implicit_encrypted a ≡ true → has q.implicit_encrypted a ≡ true)
    → (stands_in p.equivalent a ≡ true → stands_in q.equivalent a ≡ true) → implied p a ≡ true → implied q a ≡ true
implied_leads p q a plain sealed alike is = by_part (either _ _ is)
  where
    by_part : (has p.implicit_plain a ≡ true) ⊎ ((has p.implicit_encrypted a || stands_in p.equivalent a) ≡ true) → implied q a ≡ true
    by_part (inl first) = or_first _ _ (plain first)
    by_part (inr rest) = or_second (has q.implicit_plain a) _ (by_rest (either _ _ rest))
      where
        by_rest : (has p.implicit_encrypted a ≡ true) ⊎ (stands_in p.equivalent a ≡ true)
            → (has q.implicit_encrypted a || stands_in q.equivalent a) ≡ true
        by_rest (inl second) = or_first _ _ (sealed second)
        by_rest (inr third) = or_second (has q.implicit_encrypted a) _ (alike third)

imply_keeps : (set : ℕ) (p : Profile) (a : ℕ) → implied p a ≡ true → implied (imply set p) a ≡ true
imply_keeps set p a =
    implied_leads p (imply set p) a
    (λ is. has-bit_or p.implicit_plain (bit_and p.visible_plain set) a ∙ or_first _ _ is)
    (λ is. has-bit_or p.implicit_encrypted (bit_and p.visible_encrypted set) a ∙ or_first _ _ is) (λ is. is)

-- a visible attribute by which rows are chosen or grouped is implied
pub imply_tells : (set : ℕ) (p : Profile) (a : ℕ) → has set a ≡ true → visible p a ≡ true → implied (imply set p) a ≡ true
imply_tells set p a inside shows = by_side (either _ _ shows)
  where
    by_side : (has p.visible_plain a ≡ true) ⊎ (has p.visible_encrypted a ≡ true) → implied (imply set p) a ≡ true
    by_side (inl plain) =
        or_first _ _ (has-bit_or p.implicit_plain (bit_and p.visible_plain set) a
        ∙ or_second (has p.implicit_plain a) _ (has-bit_and p.visible_plain set a ∙ together _ _ plain inside))
    by_side (inr sealed) =
        or_second (has (imply set p).implicit_plain a) _
        (or_first _ _ (has-bit_or p.implicit_encrypted (bit_and p.visible_encrypted set) a
        ∙ or_second (has p.implicit_encrypted a) _ (has-bit_and p.visible_encrypted set a ∙ together _ _ sealed inside)))

equated_keeps : (c d : AttrId) (p : Profile) (a : ℕ) → implied p a ≡ true → implied (equated c d p) a ≡ true
equated_keeps c d p a =
    implied_leads p (equated c d p) a (λ is. is) (λ is. is)
    (λ is. any_merged c d p.equivalent a ∙ or_second (has (pair c d).0 a) _ is)

-- two attributes that are made equivalent are implied
pub equated_tells : (c d : AttrId) (p : Profile) (a : ℕ) → has (pair c d).0 a ≡ true → implied (equated c d p) a ≡ true
equated_tells c d p a inside =
    or_second (has p.implicit_plain a) _ (or_second (has p.implicit_encrypted a) _
    (any_merged c d p.equivalent a ∙ or_first _ _ inside))

pub pair_first : (c d : AttrId) → has (pair c d).0 c.0 ≡ true
pair_first c d = has-bit_or (2 ^ c.0) (2 ^ d.0) c.0 ∙ or_first _ _ (has-single_same c.0)

pub pair_second : (c d : AttrId) → has (pair c d).0 d.0 ≡ true
pair_second c d = has-bit_or (2 ^ c.0) (2 ^ d.0) d.0 ∙ or_second (has (2 ^ c.0) d.0) _ (has-single_same d.0)

-- what is implied by an operand is implied after each step
pub one_keeps : (o : PlanOp) (p : Profile) (a : ℕ) → implied p a ≡ true → implied (after_one o p) a ≡ true
one_keeps (op.SelConst c cmp x) p a is = imply_keeps (2 ^ c.0) p a is
one_keeps (op.SelAttr c cmp d) p a is = equated_keeps c d p a is
one_keeps (op.Group by aggs count) p a is = imply_keeps by.0 p a is
one_keeps _ p a is = is

both_left : (p q : Profile) (a : ℕ) → implied p a ≡ true → implied (both p q) a ≡ true
both_left p q a =
    implied_leads p (both p q) a (λ is. has-bit_or p.implicit_plain q.implicit_plain a ∙ or_first _ _ is)
    (λ is. has-bit_or p.implicit_encrypted q.implicit_encrypted a ∙ or_first _ _ is)
    (λ is. any_united (λ set. has set.0 a) p.equivalent q.equivalent ∙ or_second (stands_in q.equivalent a) _ is)

both_right : (p q : Profile) (a : ℕ) → implied q a ≡ true → implied (both p q) a ≡ true
both_right p q a =
    implied_leads q (both p q) a (λ is. has-bit_or p.implicit_plain q.implicit_plain a ∙ or_second (has p.implicit_plain a) _ is)
    (λ is. has-bit_or p.implicit_encrypted q.implicit_encrypted a ∙ or_second (has p.implicit_encrypted a) _ is)
    (λ is. any_united (λ set. has set.0 a) p.equivalent q.equivalent ∙ or_first _ _ is)

pub left_keeps : (o : PlanOp) (p q : Profile) (a : ℕ) → implied p a ≡ true → implied (after_two o p q) a ≡ true
left_keeps (op.Join c cmp d) p q a is = equated_keeps c d (both p q) a (both_left p q a is)
left_keeps _ p q a is = both_left p q a is

pub right_keeps : (o : PlanOp) (p q : Profile) (a : ℕ) → implied q a ≡ true → implied (after_two o p q) a ≡ true
right_keeps (op.Join c cmp d) p q a is = equated_keeps c d (both p q) a (both_right p q a is)
right_keeps _ p q a is = both_right p q a is

-- a seal changes what is visible plain and what sealed, and nothing of what is visible or implied
pub enc_implied : (b : ℕ) (p : Profile) (a : ℕ) → implied p a ≡ true → implied (after_enc b p) a ≡ true
enc_implied b p a is = by_test (has p.visible_plain b)
  where
    by_test : (t : Bool) → implied (cond t (record p { visible_plain = without p.visible_plain (2 ^ b); visible_encrypted = with_member p.visible_encrypted b }) p) a ≡ true
    by_test true = is
    by_test false = is

pub dec_implied : (b : ℕ) (p : Profile) (a : ℕ) → implied p a ≡ true → implied (after_dec b p) a ≡ true
dec_implied b p a is = by_test (has p.visible_encrypted b)
  where
    by_test : (t : Bool) → implied (cond t (record p { visible_plain = with_member p.visible_plain b; visible_encrypted = without p.visible_encrypted (2 ^ b) }) p) a ≡ true
    by_test true = is
    by_test false = is

moved : (v e s : Bool) → (v || e) ≡ true → ((v && not s) || (e || s)) ≡ true
moved v e true is = or_second (v && not true) _ (or_second e true refl)
moved true e false is = refl
moved false true false is = refl
moved false false false is = cc

pub enc_shows : (b : ℕ) (p : Profile) (a : ℕ) → visible p a ≡ true → visible (after_enc b p) a ≡ true
enc_shows b p a is = by_test (has p.visible_plain b)
  where
    by_test : (t : Bool) → visible (cond t (record p { visible_plain = without p.visible_plain (2 ^ b); visible_encrypted = with_member p.visible_encrypted b }) p) a ≡ true
    by_test true =
        rw (has-without p.visible_plain (2 ^ b) a, has-bit_or p.visible_encrypted (2 ^ b) a)
        (moved (has p.visible_plain a) (has p.visible_encrypted a) (has (2 ^ b) a) is)
    by_test false = is

moved_back : (v e s : Bool) → (v || e) ≡ true → ((v || s) || (e && not s)) ≡ true
moved_back true e s is = refl
moved_back false e true is = refl
moved_back false true false is = refl
moved_back false false false is = cc

pub dec_shows : (b : ℕ) (p : Profile) (a : ℕ) → visible p a ≡ true → visible (after_dec b p) a ≡ true
dec_shows b p a is = by_test (has p.visible_encrypted b)
  where
    by_test : (t : Bool) → visible (cond t (record p { visible_plain = with_member p.visible_plain b; visible_encrypted = without p.visible_encrypted (2 ^ b) }) p) a ≡ true
    by_test true =
        rw (has-bit_or p.visible_plain (2 ^ b) a, has-without p.visible_encrypted (2 ^ b) a)
        (moved_back (has p.visible_plain a) (has p.visible_encrypted a) (has (2 ^ b) a) is)
    by_test false = is

pub project_shows : (kept : ℕ) (p : Profile) (a : ℕ) → has kept a ≡ true → visible p a ≡ true → visible (project kept p) a ≡ true
project_shows kept p a inside is =
    rw (has-bit_and p.visible_plain kept a, has-bit_and p.visible_encrypted kept a)
    (law (has p.visible_plain a) (has p.visible_encrypted a) (has kept a) inside is)
  where
    law : (v e k : Bool) → k ≡ true → (v || e) ≡ true → ((v && k) || (e && k)) ≡ true
    law true e true inside is = refl
    law false true true inside is = refl
    law false false true inside is = cc
    law v e false inside is = cc

pub both_shows_left : (p q : Profile) (a : ℕ) → visible p a ≡ true → visible (both p q) a ≡ true
both_shows_left p q a is =
    rw (has-bit_or p.visible_plain q.visible_plain a, has-bit_or p.visible_encrypted q.visible_encrypted a)
    (law (has p.visible_plain a) (has p.visible_encrypted a) (has q.visible_plain a) (has q.visible_encrypted a) is)
  where
    law : (v e w f : Bool) → (v || e) ≡ true → ((v || w) || (e || f)) ≡ true
    law true e w f is = refl
    law false true w f is = or_second w true refl
    law false false w f is = cc

pub both_shows_right : (p q : Profile) (a : ℕ) → visible q a ≡ true → visible (both p q) a ≡ true
both_shows_right p q a is =
    rw (has-bit_or p.visible_plain q.visible_plain a, has-bit_or p.visible_encrypted q.visible_encrypted a)
    (law (has p.visible_plain a) (has p.visible_encrypted a) (has q.visible_plain a) (has q.visible_encrypted a) is)
  where
    law : (v e w f : Bool) → (w || f) ≡ true → ((v || w) || (e || f)) ≡ true
    law true e w f is = refl
    law false e true f is = refl
    law false e false true is = or_second e true refl
    law false e false false is = cc

-- a leaf shows its used attributes
pub leaf_shows : (rest used a : ℕ) → has used a ≡ true → visible (leaf_profile rest used) a ≡ true
leaf_shows rest used a inside =
    rw (has-without used rest a, has-bit_and used rest a) (law (has used a) (has rest a) inside)
  where
    law : (u r : Bool) → u ≡ true → ((u && not r) || (u && r)) ≡ true
    law true true is = refl
    law true false is = refl
    law false r is = cc

-- The profile after each step, one equation a step. docs/MODEL.md, "Relation profile", has the same table in prose.
use Rattle.std.specs.Prelude.{ℕ, ◌^◌, [], if◌then◌else◌, bit_and, bit_or}
use Rattle.base_laws.specs.Sets.{has, with_member, without}
use Rattle.mq_base.specs.declared.ids.AttrId.{AttrId}
use Rattle.mq_base.specs.declared.plan.PlanOp.{PlanOp}
use Rattle.mq_base.specs.declared.plan.PlanOp.TheVariants as op
use Rattle.plan_algebra.specs.Facts.{group_set}
use Rattle.plan_algebra.specs.Families.{merged, united}
use Rattle.relation_profile.specs.Profile.{Profile}

-- a leaf on the used set: the attributes that are sealed at rest are visible encrypted, the other ones visible plaintext
abbrev pub leaf_profile : ℕ → ℕ → Profile
leaf_profile rest used = record {
  visible_plain = without used rest;
  visible_encrypted = bit_and used rest;
  implicit_plain = 0;
  implicit_encrypted = 0;
  equivalent = [];
}

-- both visible sets are cut to a set; what is implicit stays
abbrev pub project : ℕ → Profile → Profile
project kept p = record p { visible_plain = bit_and p.visible_plain kept; visible_encrypted = bit_and p.visible_encrypted kept }

-- the plaintext part of a set becomes implicit plaintext, its encrypted part implicit encrypted
abbrev pub imply : ℕ → Profile → Profile
imply set p = record p {
  implicit_plain = bit_or p.implicit_plain (bit_and p.visible_plain set);
  implicit_encrypted = bit_or p.implicit_encrypted (bit_and p.visible_encrypted set);
}

-- two attributes become equivalent
abbrev pub equated : AttrId → AttrId → Profile → Profile
equated a b p = record p { equivalent = merged a b p.equivalent }

-- all parts of two profiles
abbrev pub both : Profile → Profile → Profile
both p q = record {
  visible_plain = bit_or p.visible_plain q.visible_plain;
  visible_encrypted = bit_or p.visible_encrypted q.visible_encrypted;
  implicit_plain = bit_or p.implicit_plain q.implicit_plain;
  implicit_encrypted = bit_or p.implicit_encrypted q.implicit_encrypted;
  equivalent = united p.equivalent q.equivalent;
}

-- after an operation on one operand: the selection on the count changes nothing
abbrev pub after_one : PlanOp → Profile → Profile
after_one (op.Project kept) p = project kept.0 p
after_one (op.SelConst a cmp x) p = imply (2 ^ a.0) p
after_one (op.SelAttr a cmp b) p = equated a b p
after_one (op.Group by aggs count) p = project (group_set by aggs) (imply by.0 p)
after_one _ p = p

-- after an operation on two operands
abbrev pub after_two : PlanOp → Profile → Profile → Profile
after_two (op.Join a cmp b) p q = equated a b (both p q)
after_two _ p q = both p q

-- after the encryption of an attribute, which moves it from visible plaintext to visible encrypted
abbrev pub after_enc : ℕ → Profile → Profile
after_enc a p =
    if has p.visible_plain a
    then record p { visible_plain = without p.visible_plain (2 ^ a); visible_encrypted = with_member p.visible_encrypted a }
    else p

-- after the decryption of an attribute, which moves it from visible encrypted to visible plaintext
abbrev pub after_dec : ℕ → Profile → Profile
after_dec a p =
    if has p.visible_encrypted a
    then record p { visible_plain = with_member p.visible_plain a; visible_encrypted = without p.visible_encrypted (2 ^ a) }
    else p

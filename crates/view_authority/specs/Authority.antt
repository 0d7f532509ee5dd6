-- Whether a subject may hold a table of a profile: the three conditions. docs/MODEL.md, "Authorised", tells them in prose.
use Rattle.std.specs.Prelude.{ℕ, Bool, ◌&&◌, ◌||◌, bit_or}
use Rattle.std.specs.List.{list_all}
use Rattle.base_laws.specs.Sets.{is_within}
use Rattle.mq_base.specs.declared.attr_set.AttrSet.{AttrSet}
use Rattle.relation_profile.specs.Profile.{Profile}

-- what is in plaintext, visible or implicit, the subject may see plain
abbrev pub sees_plain : ℕ → Profile → Bool
sees_plain plain p = is_within (bit_or p.visible_plain p.implicit_plain) plain

-- what is encrypted, visible or implicit, it may see plain or sealed
abbrev pub sees_sealed : ℕ → ℕ → Profile → Bool
sees_sealed plain sealed p = is_within (bit_or p.visible_encrypted p.implicit_encrypted) (bit_or plain sealed)

-- whether it may see all of a set plain, or all of it sealed
abbrev pub is_alike : ℕ → ℕ → AttrSet → Bool
is_alike plain sealed set = is_within set.0 plain || is_within set.0 sealed

-- what is equivalent it may see alike
abbrev pub sees_alike : ℕ → ℕ → Profile → Bool
sees_alike plain sealed p = list_all (is_alike plain sealed) p.equivalent

-- whether a subject that may see these sets plain and sealed may hold a table of this profile
abbrev pub may : ℕ → ℕ → Profile → Bool
may plain sealed p = sees_plain plain p && sees_sealed plain sealed p && sees_alike plain sealed p

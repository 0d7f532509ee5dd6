-- The first of the three conditions that a profile breaks, and by which attribute. docs/MODEL.md, "Authorised", tells it in prose.
use Rattle.std.specs.Prelude.{ℕ, ◌==◌, List, map, Option, Some, None, if◌then◌else◌, bit_or}
use Rattle.std.specs.Option.{option_or}
use Rattle.std.specs.Int.{trailing_zeros, w64}
use Rattle.base_laws.specs.Firsts.{first_of}
use Rattle.base_laws.specs.Sets.{without}
use Rattle.mq_base.specs.declared.attr_set.AttrSet.{AttrSet}
use Rattle.relation_profile.specs.Profile.{Profile}
use Rattle.view_authority.specs.declared.breach.Breach.{Breach}
use Rattle.view_authority.specs.Authority.{is_alike}

-- a condition is broken where a set has a member, and by its least one
abbrev pub least_breach : ℕ → ℕ → Option Breach
least_breach rule set = if set == 0 then None else Some (record { rule = rule; attr = record { 0 = trailing_zeros w64 set } })

-- an attribute in plaintext, visible or implicit, that the subject may not see plain
abbrev pub plain_breach : ℕ → Profile → Option Breach
plain_breach plain p = least_breach 1 (without (bit_or p.visible_plain p.implicit_plain) plain)

-- an encrypted attribute, visible or implicit, that it may see neither plain nor sealed
abbrev pub sealed_breach : ℕ → ℕ → Profile → Option Breach
sealed_breach plain sealed p = least_breach 2 (without (bit_or p.visible_encrypted p.implicit_encrypted) (bit_or plain sealed))

-- an attribute of a set that it may not see alike, among those that it may not see plain
abbrev pub set_breach : ℕ → ℕ → AttrSet → Option Breach
set_breach plain sealed set = if is_alike plain sealed set then None else least_breach 3 (without set.0 plain)

-- that of the first such set, in the order of least members
abbrev pub family_breach : ℕ → ℕ → List AttrSet → Option Breach
family_breach plain sealed family = first_of (map (set_breach plain sealed) family)

-- the first condition that is broken
abbrev pub breach : ℕ → ℕ → Profile → Option Breach
breach plain sealed p =
    option_or (plain_breach plain p) (option_or (sealed_breach plain sealed p) (family_breach plain sealed p.equivalent))

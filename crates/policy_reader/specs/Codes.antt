-- The numbers of the refusals. docs/FORMATS.md, "Policy file", lists them.
use Rattle.std.specs.Prelude.{ℕ, Option, Some, None}
use Rattle.mq_base.specs.declared.refusal.Refusal.{Refusal}
use Rattle.mq_base.specs.Refusal.{refusal}
use Rattle.policy_reader.specs.declared.refusal.PolicyCode.{PolicyCode}
use Rattle.policy_reader.specs.declared.refusal.PolicyCode.TheVariants.{Syntax, Shape, BadName, RepeatedName, UnknownOwner, UnknownSubject, UnknownTable, UnknownAttribute, Overlap, RuleForOwner, RepeatedRule, TooMany}
use Rattle.policy_reader.specs.declared.refusal.PolicyNo.{PolicyNo}
use Rattle.policy_reader.specs.declared.refusal.PolicyNo.TheVariants.{Refused, NoMemory}

-- the number of a refusal
abbrev pub number_of : PolicyCode → ℕ
number_of Syntax = 1
number_of Shape = 2
number_of BadName = 3
number_of RepeatedName = 4
number_of UnknownOwner = 5
number_of UnknownSubject = 6
number_of UnknownTable = 7
number_of UnknownAttribute = 8
number_of Overlap = 9
number_of RuleForOwner = 10
number_of RepeatedRule = 11
number_of TooMany = 12

-- the refusal that an error is; want of memory is none
abbrev pub told : PolicyNo → Option Refusal
told (Refused code at item) = Some (refusal (number_of code) at item)
told NoMemory = None

-- The numbers of the refusals. docs/FORMATS.md, "Query", lists them.
use Rattle.std.specs.Prelude.{ℕ, Option, Some, None}
use Rattle.mq_base.specs.Refusal.{refusal}
use Rattle.mq_base.specs.declared.refusal.Refusal.{Refusal}
use Rattle.query_bind.specs.declared.refusal.BindCode.{BindCode}
use Rattle.query_bind.specs.declared.refusal.BindNo.{BindNo}
use Rattle.query_bind.specs.declared.refusal.BindNo.TheVariants.{Refused, NoMemory}
use Rattle.query_bind.specs.declared.refusal.BindCode.TheVariants.{UnknownTable, RepeatedTable, UnknownAttribute, NotInTable, TypeMismatch, TextTooLong, NotGrouped, AggregateOfGrouped, RepeatedAggregate, AggregateWithoutGroup, TooManyNodes, SameAttribute}

-- the number of a refusal
abbrev pub number_of : BindCode → ℕ
number_of UnknownTable = 11
number_of RepeatedTable = 12
number_of UnknownAttribute = 13
number_of NotInTable = 14
number_of TypeMismatch = 15
number_of TextTooLong = 16
number_of NotGrouped = 17
number_of AggregateOfGrouped = 18
number_of RepeatedAggregate = 19
number_of AggregateWithoutGroup = 20
number_of TooManyNodes = 21
number_of SameAttribute = 22

-- the refusal of an error, and none for want of memory
abbrev pub refusal_of : BindNo → Option Refusal
refusal_of (Refused code at) = Some (refusal (number_of code) at 0)
refusal_of NoMemory = None

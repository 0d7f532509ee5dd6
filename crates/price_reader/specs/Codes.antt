-- The numbers of the refusals. docs/FORMATS.md, "Price file", lists them.
use Rattle.std.specs.Prelude.{ℕ, Option, Some, None}
use Rattle.mq_base.specs.declared.refusal.Refusal.{Refusal}
use Rattle.mq_base.specs.Refusal.{refusal}
use Rattle.price_reader.specs.declared.refusal.PriceCode.{PriceCode}
use Rattle.price_reader.specs.declared.refusal.PriceCode.TheVariants.{Syntax, Shape, UnknownName, OutOfRange, Missing, BadLink}
use Rattle.price_reader.specs.declared.refusal.PriceNo.{PriceNo}
use Rattle.price_reader.specs.declared.refusal.PriceNo.TheVariants.{Refused, NoMemory}

-- the number of a refusal
abbrev pub number_of : PriceCode → ℕ
number_of Syntax = 1
number_of Shape = 2
number_of UnknownName = 3
number_of OutOfRange = 4
number_of Missing = 5
number_of BadLink = 6

-- the refusal that an error is; want of memory is none
abbrev pub told : PriceNo → Option Refusal
told (Refused code at item) = Some (refusal (number_of code) at item)
told NoMemory = None

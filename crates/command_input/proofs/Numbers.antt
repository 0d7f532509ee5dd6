-- No refusal of a reader has the number 0, which is that of a file that is too long.
use Rattle.std.proofs.Common.{◌≤◌, arith}
use Rattle.policy_reader.specs.declared.refusal.PolicyCode.{PolicyCode}
use Rattle.policy_reader.specs.declared.refusal.PolicyCode.TheVariants as policy_codes
use Rattle.policy_reader.specs.declared.refusal.PolicyNo.TheVariants as policy_no
use Rattle.policy_reader.specs.Codes as policy
use Rattle.price_reader.specs.declared.refusal.PriceCode.{PriceCode}
use Rattle.price_reader.specs.declared.refusal.PriceCode.TheVariants as price_codes
use Rattle.price_reader.specs.declared.refusal.PriceNo.TheVariants as price_no
use Rattle.price_reader.specs.Codes as price
use Rattle.query_bind.specs.declared.refusal.BindCode.{BindCode}
use Rattle.query_bind.specs.declared.refusal.BindCode.TheVariants as bind_codes
use Rattle.query_bind.specs.declared.refusal.BindNo.TheVariants as bind_no
use Rattle.query_bind.specs.Codes as bind
use Rattle.sql_reader.specs.declared.refusal.SqlNo.TheVariants as sql_no
use Rattle.sql_reader.specs.Codes as sql
use Rattle.table_reader.specs.declared.refusal.TableNo.TheVariants as table_no
use Rattle.table_reader.specs.Codes as table
use Rattle.command_input.proofs.Judging.{AreNumbered}

policy_code : (code : PolicyCode) → 1 ≤ policy.number_of code
policy_code policy_codes.Syntax = omega arith
policy_code policy_codes.Shape = omega arith
policy_code policy_codes.BadName = omega arith
policy_code policy_codes.RepeatedName = omega arith
policy_code policy_codes.UnknownOwner = omega arith
policy_code policy_codes.UnknownSubject = omega arith
policy_code policy_codes.UnknownTable = omega arith
policy_code policy_codes.UnknownAttribute = omega arith
policy_code policy_codes.Overlap = omega arith
policy_code policy_codes.RuleForOwner = omega arith
policy_code policy_codes.RepeatedRule = omega arith
policy_code policy_codes.TooMany = omega arith

pub policy_numbered : AreNumbered policy.told
policy_numbered (policy_no.Refused code at item) = policy_code code
policy_numbered policy_no.NoMemory = tt

price_code : (code : PriceCode) → 1 ≤ price.number_of code
price_code price_codes.Syntax = omega arith
price_code price_codes.Shape = omega arith
price_code price_codes.UnknownName = omega arith
price_code price_codes.OutOfRange = omega arith
price_code price_codes.Missing = omega arith
price_code price_codes.BadLink = omega arith

pub price_numbered : AreNumbered price.told
price_numbered (price_no.Refused code at item) = price_code code
price_numbered price_no.NoMemory = tt

pub query_numbered : AreNumbered sql.query_refusal
query_numbered sql_no.NoMemory = tt
query_numbered (sql_no.BadChar at) = omega arith
query_numbered (sql_no.OpenText at) = omega arith
query_numbered (sql_no.Unexpected at) = omega arith
query_numbered (sql_no.NumberRange at) = omega arith

bind_code : (code : BindCode) → 1 ≤ bind.number_of code
bind_code bind_codes.UnknownTable = omega arith
bind_code bind_codes.RepeatedTable = omega arith
bind_code bind_codes.UnknownAttribute = omega arith
bind_code bind_codes.NotInTable = omega arith
bind_code bind_codes.TypeMismatch = omega arith
bind_code bind_codes.TextTooLong = omega arith
bind_code bind_codes.NotGrouped = omega arith
bind_code bind_codes.AggregateOfGrouped = omega arith
bind_code bind_codes.RepeatedAggregate = omega arith
bind_code bind_codes.AggregateWithoutGroup = omega arith
bind_code bind_codes.TooManyNodes = omega arith
bind_code bind_codes.SameAttribute = omega arith

pub bind_numbered : AreNumbered bind.refusal_of
bind_numbered (bind_no.Refused code at) = bind_code code
bind_numbered bind_no.NoMemory = tt

pub table_numbered : AreNumbered table.refusal_of
table_numbered table_no.NoMemory = tt
table_numbered table_no.BadHeader = omega arith
table_numbered (table_no.BadRow row) = omega arith
table_numbered (table_no.BadInt row col) = omega arith
table_numbered (table_no.TextTooLong row col) = omega arith
table_numbered table_no.TooManyRows = omega arith

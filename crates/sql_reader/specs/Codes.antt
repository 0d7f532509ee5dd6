-- The refusal that an error is. docs/FORMATS.md, "Query", lists the numbers, and `Codes` of the lexer names them.
use Rattle.std.specs.Prelude.{Option, Some, None}
use Rattle.mq_base.specs.declared.refusal.Refusal.{Refusal}
use Rattle.mq_base.specs.Refusal.{refusal}
use Rattle.sql_lexer.specs.Codes.{bad_char, open_text, unexpected, number_range}
use Rattle.sql_reader.specs.declared.refusal.SqlNo.{SqlNo}
use Rattle.sql_reader.specs.declared.refusal.SqlNo.TheVariants.{BadChar, OpenText, Unexpected, NumberRange, NoMemory}

-- want of memory is none
abbrev pub query_refusal : SqlNo → Option Refusal
query_refusal (BadChar at) = Some (refusal bad_char at 0)
query_refusal (OpenText at) = Some (refusal open_text at 0)
query_refusal (Unexpected at) = Some (refusal unexpected at 0)
query_refusal (NumberRange at) = Some (refusal number_range at 0)
query_refusal NoMemory = None

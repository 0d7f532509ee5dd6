-- What the words of a command and its files come to: the files are taken in their order, each is refused before the
-- next is looked at. docs/FORMATS.md, "Input", tells it in prose.
use Rattle.std.specs.Prelude.{ℕ, List, [], ◌∷◌, ◌++◌, length, nat_lt, codes, Option, Some, None, Result, Ok, Err, if◌then◌else◌}
use Rattle.std.specs.Str.{is_utf8}
use Rattle.std.specs.Str.Lossy.{utf8_valid_len}
use Rattle.mq_base.specs.declared.ids.TableId.{TableId}
use Rattle.mq_base.specs.declared.query.Query.{Query}
use Rattle.mq_base.specs.declared.refusal.Refusal.{Refusal}
use Rattle.mq_base.specs.declared.schema.Schema.{Schema}
use Rattle.mq_base.specs.declared.table.PlainTable.{PlainTable}
use Rattle.mq_base.specs.Refusal.{refusal}
use Rattle.policy_base.specs.declared.policy.Policy.{Policy}
use Rattle.policy_base.specs.declared.prices.Prices.{Prices}
use Rattle.policy_base.specs.Names.{table_name}
use Rattle.policy_reader.specs.Outcome.{policy_outcome}
use Rattle.price_reader.specs.Outcome.{price_outcome}
use Rattle.query_bind.specs.Outcome.{bind_outcome}
use Rattle.sql_lexer.specs.Codes.{bad_char}
use Rattle.sql_reader.specs.Outcome.{query_outcome}
use Rattle.table_reader.specs.Outcome.{table_outcome}
use Rattle.command_input.specs.declared.fault.FileRole.{FileRole}
use Rattle.command_input.specs.declared.fault.FileRole.TheVariants as role
use Rattle.command_input.specs.declared.fault.InputFault.{InputFault}
use Rattle.command_input.specs.declared.task.RunTask.{RunTask}
use Rattle.command_input.specs.declared.task.Task.{Task}
use Rattle.command_input.specs.declared.task.Task.TheVariants as task
use Rattle.command_input.specs.Files.{Lookup}
use Rattle.command_input.specs.Words.{RunCommand, Command, run, command_of}

-- where a file of a command stops it
pub data Stop : Type 0 where
  absent : FileRole → List ℕ → Stop
  refused : InputFault → Stop

-- the words are wrong, a file stops the command, or every file is accepted
pub data Input : Type 0 where
  wrong_words : Input
  stopped : Stop → Input
  accepted : Task → Input

-- the most bytes that a file may have
abbrev pub most : ℕ
most = 67108864

-- a refusal, as the fault of its file
abbrev pub fault_of : FileRole → Refusal → InputFault
fault_of file told = record { file = file; code = told.code; at = told.at; item = told.item }

-- what a reader gives, or where the refusal of its file stops the command
abbrev pub judged : {X : Type 0} → FileRole → Result X Refusal → Result X Stop
judged file (Ok x) = Ok x
judged file (Err told) = Err (refused (fault_of file told))

-- a file that is too long is refused with the number 0, and else its reader decides
abbrev pub within : {X : Type 0} → (List ℕ → Result X Refusal) → List ℕ → Result X Refusal
within read bytes = if nat_lt most (length bytes) then Err (refusal 0 0 0) else read bytes

-- what a file comes to: it is absent, or its content is judged
abbrev pub opened : {X : Type 0} → FileRole → List ℕ → (List ℕ → Result X Refusal) → Option (List ℕ) → Result X Stop
opened file name read None = Err (absent file name)
opened file name read (Some bytes) = judged file (within read bytes)

-- what comes after a part that is accepted
abbrev pub and_then : {X Y E : Type 0} → Result X E → (X → Result Y E) → Result Y E
and_then (Ok x) next = next x
and_then (Err e) next = Err e

-- the policy
unfoldable pub policy_input : List ℕ → Lookup → Result Policy Stop
policy_input name lookup = opened role.Policy name policy_outcome (lookup role.Policy name)

-- the prices
unfoldable pub prices_input : Policy → List ℕ → Lookup → Result Prices Stop
prices_input p name lookup = opened role.Prices name (price_outcome p) (lookup role.Prices name)

-- the text of a query: it is one of the grammar, and it binds
unfoldable pub text_bound : Schema → List ℕ → Result Query Refusal
text_bound schema text = and_then (query_outcome text) (bind_outcome schema)

-- the bytes of a query: they are UTF-8, and the text of a query
unfoldable pub query_read : Schema → List ℕ → Result Query Refusal
query_read schema bytes = if is_utf8 bytes then text_bound schema bytes else Err (refusal bad_char (utf8_valid_len bytes) 0)

-- the query
unfoldable pub query_input : Policy → List ℕ → Lookup → Result Query Stop
query_input p name lookup = opened role.Query name (query_read p.schema) (lookup role.Query name)

-- the name of a table's file
abbrev pub table_file : Policy → TableId → List ℕ
table_file p t = table_name p t ++ codes ".csv"

-- the content of a table
unfoldable pub table_input : Policy → TableId → Lookup → Result PlainTable Stop
table_input p t lookup =
    opened (role.Table t) (table_file p t) (table_outcome p.schema t.0) (lookup (role.Table t) (table_file p t))

-- the contents of tables, each after those before it
abbrev pub tables_input : Policy → List TableId → Lookup → Result (List PlainTable) Stop
tables_input p [] lookup = Ok []
tables_input p (t ∷ rest) lookup =
    and_then (table_input p t lookup) (λ table. and_then (tables_input p rest lookup) (λ tables. Ok (table ∷ tables)))

-- the files of a command `run`: the policy, the prices, the query, and the tables of the query in the order of FROM
unfoldable pub run_task : RunCommand → Lookup → Result RunTask Stop
run_task command lookup =
    and_then (policy_input command.policy lookup) (λ p.
    and_then (prices_input p command.prices lookup) (λ prices.
    and_then (query_input p command.query lookup) (λ q.
    and_then (tables_input p q.tables lookup) (λ tables.
    Ok (record { policy = p; prices = prices; query = q; tables = tables; seed = command.seed; schedule = command.schedule })))))

-- the files of a command: what they stand for together, or where they stop it
abbrev pub task_of : Command → Lookup → Result Task Stop
task_of (run command) lookup = and_then (run_task command lookup) (λ t. Ok (task.Run t))

-- what the files of a command come to, as the input of the program
abbrev pub given : Result Task Stop → Input
given (Ok t) = accepted t
given (Err stop) = stopped stop

abbrev pub commanded : Option Command → Lookup → Input
commanded None lookup = wrong_words
commanded (Some command) lookup = given (task_of command lookup)

-- the input of the program
abbrev pub input_of : List (List ℕ) → Lookup → Input
input_of words lookup = commanded (command_of words) lookup

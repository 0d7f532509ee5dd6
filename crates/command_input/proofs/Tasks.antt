-- The files of a command, one after the other.
use Rattle.std.proofs.Common.{◌≡◌, ◌≢◌, ℕ, ◌+◌, ◌<◌, List, [], ◌∷◌, map, Result, Ok, Err, arith}
use Rattle.std.specs.Prelude.{All}
use Rattle.std.proofs.lemmas.List.Elements.{All-nil, All-cons, All-head, All-tail}
use Rattle.mq_base.specs.BoundQuery.{AreDistinct}
use Rattle.mq_base.specs.declared.ids.TableId.{TableId}
use Rattle.mq_base.specs.declared.query.Query.{Query}
use Rattle.mq_base.specs.declared.table.PlainTable.{PlainTable}
use Rattle.outside_io.specs.Outside.{ShelfState, Follows}
use Rattle.outside_io.proofs.Following.{Follows-trans}
use Rattle.policy_base.specs.declared.policy.Policy.{Policy}
use Rattle.policy_base.specs.declared.prices.Prices.{Prices}
use Rattle.command_input.specs.declared.fault.FileRole.{FileRole}
use Rattle.command_input.specs.declared.fault.FileRole.TheVariants as role
use Rattle.command_input.specs.declared.load_no.LoadNo.{LoadNo}
use Rattle.command_input.specs.declared.task.RunTask.{RunTask}
use Rattle.command_input.specs.declared.task.Task.TheVariants as task
use Rattle.command_input.specs.Files.{Lookup, role_number}
use Rattle.command_input.specs.Input.{Stop, policy_input, prices_input, query_input, tables_input, run_task, task_of}
use Rattle.command_input.specs.Loading.{AreApart, Knows, Loads, Loaded}
use Rattle.command_input.specs.Words.{RunCommand, run}
use Rattle.command_input.proofs.Knowing.{chained, loads_then, loads_stopped, loads_last}

abbrev of_table : TableId → FileRole
of_table t = role.Table t

-- the roles of a command `run` are apart, where no table stands twice in FROM
table_apart : (n : ℕ) (ts : List TableId) → All (λ y. n ≢ y) (map (λ (t : TableId). t.0) ts)
    → All (λ y. n + 4 ≢ y) (map role_number (map of_table ts))
table_apart n [] apart = All-nil (λ y. n + 4 ≢ y)
table_apart n (t ∷ ts) apart =
    let other : n ≢ t.0 = All-head (λ y. n ≢ y) t.0 (map (λ (t : TableId). t.0) ts) apart in
    All-cons (λ y. n + 4 ≢ y) (t.0 + 4) (map role_number (map of_table ts)) (λ same. other (omega arith))
    (table_apart n ts (All-tail (λ y. n ≢ y) t.0 (map (λ (t : TableId). t.0) ts) apart))

tables_apart : (ts : List TableId) → AreDistinct (map (λ (t : TableId). t.0) ts) → AreDistinct (map role_number (map of_table ts))
tables_apart [] apart = tt
tables_apart (t ∷ ts) apart = (table_apart t.0 ts apart.0, tables_apart ts apart.1)

below_tables : (n : ℕ) → n < 4 → (ts : List TableId) → All (λ y. n ≢ y) (map role_number (map of_table ts))
below_tables n below [] = All-nil (λ y. n ≢ y)
below_tables n below (t ∷ ts) =
    All-cons (λ y. n ≢ y) (t.0 + 4) (map role_number (map of_table ts)) (λ same. omega arith) (below_tables n below ts)

-- the roles of a command `run`
abbrev run_files : List TableId → List FileRole
run_files ts = role.Policy ∷ role.Prices ∷ role.Query ∷ map of_table ts

all_apart : (ts : List TableId) → AreDistinct (map (λ (t : TableId). t.0) ts) → AreApart (run_files ts)
all_apart ts apart = (
  All-cons (λ y. 0 ≢ y) 1 (2 ∷ map role_number (map of_table ts)) (λ same. omega arith)
      (All-cons (λ y. 0 ≢ y) 2 (map role_number (map of_table ts)) (λ same. omega arith) (below_tables 0 (omega arith) ts)),
  (
    All-cons (λ y. 1 ≢ y) 2 (map role_number (map of_table ts)) (λ same. omega arith) (below_tables 1 (omega arith) ts),
    (below_tables 2 (omega arith) ts, tables_apart ts apart),
  ),
)

first_apart : AreApart (role.Policy ∷ [])
first_apart = (All-nil (λ y. 0 ≢ y), tt)

second_apart : AreApart (role.Policy ∷ role.Prices ∷ [])
second_apart = (All-cons (λ y. 0 ≢ y) 1 [] (λ same. omega arith) (All-nil (λ y. 0 ≢ y)), (All-nil (λ y. 1 ≢ y), tt))

-- what comes after the policy, the prices and the query
abbrev with_files : RunCommand → Policy → Prices → Query → List PlainTable → RunTask
with_files command p prices q tables =
    record { policy = p; prices = prices; query = q; tables = tables; seed = command.seed; schedule = command.schedule }

abbrev after_query : RunCommand → Policy → Prices → Query → Lookup → Result RunTask Stop
after_query command p prices q = chained (tables_input p q.tables) (λ tables lookup. Ok (with_files command p prices q tables))

abbrev after_prices : RunCommand → Policy → Prices → Lookup → Result RunTask Stop
after_prices command p prices = chained (query_input p command.query) (after_query command p prices)

abbrev after_policy : RunCommand → Policy → Lookup → Result RunTask Stop
after_policy command p = chained (prices_input p command.prices) (after_prices command p)

-- the policy was accepted, and the prices, and the query
policy_then : (command : RunCommand) (before middle after : ShelfState) (p : Policy) (more : List FileRole) (answer : Result RunTask LoadNo)
    → Follows before middle → Follows middle after → Knows before.held (role.Policy ∷ []) (λ lookup. policy_input command.policy lookup ≡ Ok p)
    → Loads middle after more (after_policy command p) answer → Loads before after (role.Policy ∷ more) (run_task command) answer
unfolding run_task
policy_then command before middle after p more answer follows then known loads =
    loads_then before middle after (role.Policy ∷ []) more (policy_input command.policy) p (after_policy command) answer follows then known loads

prices_then : (command : RunCommand) (before middle after : ShelfState) (p : Policy) (prices : Prices) (more : List FileRole) (answer : Result RunTask LoadNo)
    → Follows before middle → Follows middle after → Knows before.held (role.Prices ∷ []) (λ lookup. prices_input p command.prices lookup ≡ Ok prices)
    → Loads middle after more (after_prices command p prices) answer → Loads before after (role.Prices ∷ more) (after_policy command p) answer
prices_then command before middle after p prices more answer follows then known loads =
    loads_then before middle after (role.Prices ∷ []) more (prices_input p command.prices) prices (after_prices command p) answer follows then known loads

query_then : (command : RunCommand) (before middle after : ShelfState) (p : Policy) (prices : Prices) (q : Query) (more : List FileRole)
    (answer : Result RunTask LoadNo) → Follows before middle → Follows middle after
    → Knows before.held (role.Query ∷ []) (λ lookup. query_input p command.query lookup ≡ Ok q)
    → Loads middle after more (after_query command p prices q) answer → Loads before after (role.Query ∷ more) (after_prices command p prices) answer
query_then command before middle after p prices q more answer follows then known loads =
    loads_then before middle after (role.Query ∷ []) more (query_input p command.query) q (after_query command p prices) answer follows then known loads

-- the policy stopped the command
pub loaded_first : (command : RunCommand) (before after : ShelfState) (error : LoadNo) → Follows before after
    → Loads {X = Policy} before after (role.Policy ∷ []) (policy_input command.policy) (Err error)
    → Loaded {X = RunTask} before after (run_task command) (Err error)
unfolding run_task
loaded_first command before after error follows loads = record {
  files = role.Policy ∷ [];
  apart = first_apart;
  loads = loads_stopped before after (role.Policy ∷ []) (policy_input command.policy) (after_policy command) error follows loads;
}

-- the prices did
pub loaded_second : (command : RunCommand) (before middle after : ShelfState) (p : Policy) (error : LoadNo)
    → Follows before middle → Follows middle after
    → Knows before.held (role.Policy ∷ []) (λ lookup. policy_input command.policy lookup ≡ Ok p)
    → Loads {X = Prices} middle after (role.Prices ∷ []) (prices_input p command.prices) (Err error)
    → Loaded {X = RunTask} before after (run_task command) (Err error)
loaded_second command before middle after p error follows then known loads = record {
  files = role.Policy ∷ role.Prices ∷ [];
  apart = second_apart;
  loads = policy_then command before middle after p (role.Prices ∷ []) (Err error) follows then known
      (loads_stopped middle after (role.Prices ∷ []) (prices_input p command.prices) (after_prices command p) error then loads);
}

-- both were accepted
both_then : (command : RunCommand) (before middle later after : ShelfState) (p : Policy) (prices : Prices) (more : List FileRole)
    (answer : Result RunTask LoadNo) → Follows before middle → Follows middle later → Follows later after
    → Knows before.held (role.Policy ∷ []) (λ lookup. policy_input command.policy lookup ≡ Ok p)
    → Knows middle.held (role.Prices ∷ []) (λ lookup. prices_input p command.prices lookup ≡ Ok prices)
    → Loads later after more (after_prices command p prices) answer → Loads before after (role.Policy ∷ role.Prices ∷ more) (run_task command) answer
both_then command before middle later after p prices more answer follows then next first second loads =
    policy_then command before middle after p (role.Prices ∷ more) answer follows (Follows-trans then next) first
    (prices_then command middle later after p prices more answer then next second loads)

-- the query stopped the command
pub loaded_third : (command : RunCommand) (before middle later after : ShelfState) (p : Policy) (prices : Prices) (error : LoadNo)
    → Follows before middle → Follows middle later → Follows later after
    → Knows before.held (role.Policy ∷ []) (λ lookup. policy_input command.policy lookup ≡ Ok p)
    → Knows middle.held (role.Prices ∷ []) (λ lookup. prices_input p command.prices lookup ≡ Ok prices)
    → Loads {X = Query} later after (role.Query ∷ []) (query_input p command.query) (Err error)
    → Loaded {X = RunTask} before after (run_task command) (Err error)
loaded_third command before middle later after p prices error follows then next first second loads = record {
  files = run_files [];
  apart = all_apart [] tt;
  loads = both_then command before middle later after p prices (role.Query ∷ []) (Err error) follows then next first second
      (loads_stopped later after (role.Query ∷ []) (query_input p command.query) (after_query command p prices) error next loads);
}

-- the policy, the prices and the query were accepted, and what the tables come to decides
pub loaded_after : (command : RunCommand) (before middle later last after : ShelfState) (p : Policy) (prices : Prices) (q : Query)
    (answer : Result RunTask LoadNo)
    → Follows before middle → Follows middle later → Follows later last → Follows last after → AreDistinct (map (λ (t : TableId). t.0) q.tables)
    → Knows before.held (role.Policy ∷ []) (λ lookup. policy_input command.policy lookup ≡ Ok p)
    → Knows middle.held (role.Prices ∷ []) (λ lookup. prices_input p command.prices lookup ≡ Ok prices)
    → Knows later.held (role.Query ∷ []) (λ lookup. query_input p command.query lookup ≡ Ok q)
    → Loads last after (map of_table q.tables) (after_query command p prices q) answer
    → Loaded before after (run_task command) answer
loaded_after command before middle later last after p prices q answer follows then next more once first second third loads = record {
  files = run_files q.tables;
  apart = all_apart q.tables once;
  loads = both_then command before middle later after p prices (role.Query ∷ map of_table q.tables) answer
      follows then (Follows-trans next more) first second
      (query_then command later last after p prices q (map of_table q.tables) answer next more third loads);
}

-- a table stops what comes after the query, and where none does the task is whole
pub tables_stop : (command : RunCommand) (before after : ShelfState) (p : Policy) (prices : Prices) (q : Query) (error : LoadNo)
    → Follows before after → Loads {X = List PlainTable} before after (map (λ t. role.Table t) q.tables) (tables_input p q.tables) (Err error)
    → Loads {X = RunTask} before after (map of_table q.tables) (after_query command p prices q) (Err error)
tables_stop command before after p prices q error follows loads =
    loads_stopped before after (map of_table q.tables) (tables_input p q.tables) (λ tables lookup. Ok (with_files command p prices q tables)) error follows loads

pub tables_all : (command : RunCommand) (before after : ShelfState) (p : Policy) (prices : Prices) (q : Query) (tables : List PlainTable)
    → Loads before after (map (λ t. role.Table t) q.tables) (tables_input p q.tables) (Ok tables)
    → Loads before after (map of_table q.tables) (after_query command p prices q) (Ok (with_files command p prices q tables))
tables_all command before after p prices q tables loads =
    loads_last before.held (map of_table q.tables) (tables_input p q.tables) tables (λ tables. with_files command p prices q tables) loads

-- what is so of the files of `run` is so of those of its command
pub command_loaded : (command : RunCommand) (before after : ShelfState) (t : RunTask)
    → Loaded before after (run_task command) (Ok t) → Loaded before after (task_of (run command)) (Ok (task.Run t))
command_loaded command before after t loaded = record {
  files = loaded.files;
  apart = loaded.apart;
  loads = loads_last before.held loaded.files (run_task command) t (λ t. task.Run t) loaded.loads;
}

pub command_stopped : (command : RunCommand) (before after : ShelfState) (error : LoadNo) → Follows before after
    → Loaded {X = RunTask} before after (run_task command) (Err error) → Loaded before after (task_of (run command)) (Err error)
command_stopped command before after error follows loaded = record {
  files = loaded.files;
  apart = loaded.apart;
  loads = loads_stopped before after loaded.files (run_task command) (λ t lookup. Ok (task.Run t)) error follows loaded.loads;
}

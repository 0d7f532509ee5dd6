use Rattle.std.proofs.Common.{◌≡◌, drop, map}
use Rattle.base_laws.specs.Firsts.{first_of}
use Rattle.sql_reader.specs.Syntax.{condition_of}
use Rattle.query_bind.specs.Faults.{condition_fault}
use Rattle.query_bind.proofs.conditions.check_list.Given as goal

abbrev pub invariant-loop-condition : goal.invariant-loop-condition
invariant-loop-condition l =
    first_of (map (condition_fault l.schema) (map condition_of l.conditions))
    ≡ first_of (map (condition_fault l.schema) (map condition_of (drop l.condition-index l.conditions)))

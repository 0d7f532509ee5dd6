use Rattle.std.proofs.Common.{◌≡◌, drop, map}
use Rattle.std.specs.List.{flat_map}
use Rattle.base_laws.specs.Firsts.{first_of}
use Rattle.sql_reader.specs.Syntax.{condition_of}
use Rattle.query_bind.specs.Faults.{condition_fault}
use Rattle.query_bind.proofs.conditions.check_sources.Given as goal

abbrev pub invariant-loop-source : goal.invariant-loop-source
invariant-loop-source l =
    first_of (map (condition_fault l.schema) (flat_map (λ s. map condition_of s.on) l.sources))
    ≡ first_of (map (condition_fault l.schema) (flat_map (λ s. map condition_of s.on) (drop l.source-index l.sources)))

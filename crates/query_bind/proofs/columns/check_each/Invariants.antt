use Rattle.std.proofs.Common.{◌≡◌, drop, map}
use Rattle.std.specs.List.{flat_map}
use Rattle.base_laws.specs.Firsts.{first_of}
use Rattle.query_bind.specs.Faults.{column_fault}
use Rattle.query_bind.specs.inside.Results.{numbers}
use Rattle.query_bind.proofs.columns.check_each.Given as goal

abbrev pub invariant-loop-part : goal.invariant-loop-part
invariant-loop-part g l =
    first_of (map (column_fault l.schema (numbers l.tables)) (flat_map g.T.Part.columns l.parts))
    ≡ first_of (map (column_fault l.schema (numbers l.tables)) (flat_map g.T.Part.columns (drop l.part-index l.parts)))

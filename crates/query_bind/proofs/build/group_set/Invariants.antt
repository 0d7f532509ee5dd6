use Rattle.std.proofs.Common.{◌≡◌, drop, map}
use Rattle.base_laws.specs.Sets.{with_members}
use Rattle.sql_reader.specs.Syntax.{column_of}
use Rattle.query_bind.specs.Lookup.{attribute_of}
use Rattle.query_bind.proofs.build.group_set.Given as goal

abbrev pub invariant-loop-column : goal.invariant-loop-column
invariant-loop-column l =
    with_members 0 (map (attribute_of l.schema) (map column_of l.group))
    ≡ with_members l.set.0 (map (attribute_of l.schema) (map column_of (drop l.column-index l.group)))

use Rattle.std.proofs.Common.{◌≡◌, [], drop, map, take}
use Rattle.base_laws.specs.Firsts.{first_behind}
use Rattle.sql_reader.specs.Syntax.{source_of}
use Rattle.query_bind.specs.Faults.{source_behind}
use Rattle.query_bind.proofs.SourceLaws.{AreOf}
use Rattle.query_bind.proofs.sources.tables_of.Given as goal

abbrev pub invariant-loop-source : goal.invariant-loop-source
invariant-loop-source l = record {
  fault : first_behind (source_behind l.schema) [] (map source_of l.sources)
      ≡ first_behind (source_behind l.schema) (map source_of (take l.source-index l.sources)) (map source_of (drop l.source-index l.sources));
  tables : AreOf l.schema l.tables l.sources l.source-index;
}

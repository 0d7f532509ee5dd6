use Rattle.std.proofs.Common.{◌≡◌, ◌∙◌, get_or, None, sym}
use Rattle.sql_reader.specs.Syntax.{source_of}
use Rattle.query_bind.specs.Faults.{source_fault}
use Rattle.query_bind.specs.Lookup.{source_table}
use Rattle.query_bind.specs.inside.Results.{numbers}
use Rattle.query_bind.proofs.SourceLaws.{sources-more, tables-more}
use Rattle.query_bind.proofs.sources.tables_of.Goals as goal

pub loop-source-preserved : goal.loop-source-preserved
loop-source-preserved c =
    let schema = c.args.schema.now in
    let sources = c.args.sources.now in
    let here = get_or sources c.loop-source.source-index c.source-item.result in
    let passes : source_fault schema (numbers c.loop-source.tables) (source_of here) ≡ None =
    rw (← c.source-item.is, ← c.as_slice.ensures) (sym c.in_ok-table_of_source.ensures.fault) in
    let there : c.in_ok-table_of_source.field-0.0 ≡ source_table schema (source_of here) =
    rw (← c.source-item.is) c.in_ok-table_of_source.ensures.table in
    record {
      fault = c.loop-source.invariant.fault ∙ sources-more schema c.loop-source.tables sources c.loop-source.source-index
          c.source-item.result c.loop-source-test.true c.loop-source.invariant.tables passes;
      tables = rw c.in_ok-push.ensures.ok (tables-more schema c.loop-source.tables c.in_ok-table_of_source.field-0 sources
          c.loop-source.source-index c.source-item.result c.loop-source-test.true c.loop-source.invariant.tables there);
    }

use Rattle.std.proofs.Common.{take, sym, subst, arith}
use Rattle.std.proofs.lemmas.List.{take_all}
use Rattle.std.proofs.lemmas.List.Elements.{All-more, All-same}
use Rattle.plan_runner.specs.inside.Given.{TableHasBytes}
use Rattle.plan_runner.proofs.bytes.tables_have_bytes.Goals as goal

pub loop-table-preserved : goal.loop-table-preserved
loop-table-preserved c =
    All-more TableHasBytes c.args.tables.now c.loop-table.table-index c.table-item.result (omega arith) c.loop-table.invariant
    (subst TableHasBytes c.table-item.is c.table_has_bytes.ensures)

pub returns : goal.returns
returns c =
    All-same TableHasBytes c.args.tables.now (take c.loop-table.table-index c.args.tables.now)
    (sym (take_all c.loop-table.table-index c.args.tables.now (omega arith)))
    c.loop-table.invariant

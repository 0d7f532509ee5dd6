use Rattle.std.proofs.Common.{take, sym, ◌∙◌, subst, arith}
use Rattle.std.proofs.lemmas.List.{take_all}
use Rattle.std.proofs.lemmas.List.Elements.{All-more, All-same}
use Rattle.plan_runner.specs.inside.Given.{ColumnHasBytes}
use Rattle.plan_runner.proofs.bytes.columns_have_bytes.Goals as goal

pub loop-column-preserved : goal.loop-column-preserved
loop-column-preserved c =
    All-more ColumnHasBytes c.args.columns.now c.loop-column.column-index c.column-item.result (omega arith) c.loop-column.invariant
    (subst ColumnHasBytes (c.as_slice.ensures ∙ c.column-item.is) c.values_have_bytes.ensures)

pub returns : goal.returns
returns c =
    All-same ColumnHasBytes c.args.columns.now (take c.loop-column.column-index c.args.columns.now)
    (sym (take_all c.loop-column.column-index c.args.columns.now (omega arith)))
    c.loop-column.invariant

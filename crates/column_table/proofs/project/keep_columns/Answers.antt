use Rattle.std.proofs.Common.{option_map, arith}
use Rattle.std.proofs.lemmas.List.{length-map}
use Rattle.column_table.specs.Columns.{shown, shown_columns}
use Rattle.column_table.proofs.CutLaws.{kept_end, kept_more, kept_start}
use Rattle.column_table.proofs.project.keep_columns.Goals as goal

pub loop-a-init : goal.loop-a-init
loop-a-init c = kept_start (shown_columns c.args.columns.now) c.args.kept.0

pub loop-a-preserved : goal.loop-a-preserved
loop-a-preserved c =
    kept_more (shown_columns c.args.columns.now) (shown_columns c.loop-a.columns) (shown_columns c.keep_if.new.columns) c.args.kept.0 c.loop-a.a
    c.has.result c.loop-a.invariant c.has.ensures c.keep_if.ensures

pub returns : goal.returns
returns c =
    let long = length-map c.args.columns.now (option_map shown) in
    let all = c.told-columns in
    let past = c.loop-a-test.false in
    kept_end (shown_columns c.args.columns.now) (shown_columns c.loop-a.columns) c.args.kept.0 c.loop-a.a (omega (arith, long, all, past))
    c.loop-a.invariant

use Rattle.std.proofs.Common.{None, option_map, refl, subst, sym}
use Rattle.std.proofs.lemmas.Result.{IfOk-weaker}
use Rattle.column_table.specs.Columns.{shown}
use Rattle.column_table.specs.Groups.{IsPlaceOf}
use Rattle.column_table.proofs.grouping.group_place.Goals as goal

pub returns-in-None : goal.returns-in-None
returns-in-None c =
    subst (λ o. IsPlaceOf c.args.by.0 c.args.aggs.now c.args.groups.now c.args.a.0 o None) c.in-None.ensures refl

pub returns-in-Some : goal.returns-in-Some
returns-in-Some c =
    IfOk-weaker c.group_column.result _ _
    (λ made is. subst (λ o. IsPlaceOf c.args.by.0 c.args.aggs.now c.args.groups.now c.args.a.0 o (option_map shown made)) c.in-Some.ensures is)
    c.group_column.ensures

pub group_column-requires-clause-runs : goal.group_column-requires-clause-runs
group_column-requires-clause-runs c =
    λ func under. c.requires.folds.runs c.args.a.0 func (shown c.in-Some.column.now) under (sym c.in-Some.ensures)

pub group_column-requires-clause-groups : goal.group_column-requires-clause-groups
group_column-requires-clause-groups c = c.requires.groups.each c.args.a.0 (shown c.in-Some.column.now) (sym c.in-Some.ensures)

use Rattle.std.proofs.Common.{◌∙◌, length, sym}
use Rattle.column_table.specs.Columns.{shown}
use Rattle.column_table.proofs.GroupRows.{heads_within, place_of_fold, place_of_heads, place_of_none}
use Rattle.column_table.proofs.grouping.group_column.Goals as goal

pub take_column-requires : goal.take_column-requires
take_column-requires c =
    heads_within (length (shown c.args.column.now).cells) c.args.groups.now c.args.heads.now c.requires.heads c.requires.groups

pub returns-then-has : goal.returns-then-has
returns-then-has c =
    place_of_heads c.args.by.0 c.args.aggs.now c.args.groups.now c.args.a.0 (shown c.args.column.now) (shown c.in_ok-take_column.field-0)
    c.args.heads.now (sym c.has.ensures ∙ c.if-has.true) c.requires.heads
    (heads_within (length (shown c.args.column.now).cells) c.args.groups.now c.args.heads.now c.requires.heads c.requires.groups)
    c.in_ok-take_column.ensures

pub returns-in_ok-folded_column-in-Some : goal.returns-in_ok-folded_column-in-Some
returns-in_ok-folded_column-in-Some c =
    place_of_fold c.args.by.0 c.args.aggs.now c.args.groups.now c.args.a.0 (shown c.args.column.now)
    (shown c.in_ok-folded_column-in-Some.field-0) c.in-Some.func (sym c.has.ensures ∙ c.if-has.false) (sym c.function_of.ensures ∙ c.in-Some.is)
    c.in_ok-folded_column-in-Some.ensures

pub returns-in-None : goal.returns-in-None
returns-in-None c =
    place_of_none c.args.by.0 c.args.aggs.now c.args.groups.now c.args.a.0 (shown c.args.column.now) (sym c.has.ensures ∙ c.if-has.false)
    (sym c.function_of.ensures ∙ c.in-None.is)

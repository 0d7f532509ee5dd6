use Rattle.std.proofs.Common.{◌∙◌, ap, length, sym}
use Rattle.base_laws.specs.Sets.{without}
use Rattle.base_laws.proofs.MemberLaws.{without-lt}
use Rattle.column_table.specs.Columns.{shown}
use Rattle.column_table.proofs.JoinRows.{column_long}
use Rattle.column_table.proofs.LabelRows.{both_same, walk_end, walk_more, walk_start}
use Rattle.column_table.proofs.labels.row_labels.Goals as goal

pub loop-a-init : goal.loop-a-init
loop-a-init c = walk_start c.args.table.now c.args.set.0 c.in_ok-labels.labels.items c.in_ok-labels.ensures

pub both_labels-requires : goal.both_labels-requires
both_labels-requires c =
    ap length c.as_slice-in-Some.ensures.value ∙ c.in_ok-others.ensures.for_each
    ∙ column_long c.args.table.now c.in-Some.a.0 (shown c.column_of.result.now) c.column_of.ensures
    ∙ sym (ap length c.as_slice.ensures.value ∙ c.loop-a.invariant.for_each)

pub loop-a-smaller : goal.loop-a-smaller
loop-a-smaller c = rw (c.difference-left.ensures, c.of.ensures) (without-lt c.loop-a.left.0 c.in-Some.a.0 c.in-Some.ensures.found.member)

pub loop-a-preserved : goal.loop-a-preserved
loop-a-preserved c =
    walk_more c.args.table.now c.args.set.0 c.loop-a.left.0 c.difference-left.result.0 c.in-Some.a.0 (shown c.column_of.result.now)
    c.loop-a.labels.items c.in_ok-others.others.items c.in_ok-labels-2.labels.items c.loop-a.invariant c.in-Some.ensures.found.member
    c.in-Some.ensures.small (c.difference-left.ensures ∙ ap (without c.loop-a.left.0) c.of.ensures) c.column_of.ensures c.in_ok-others.ensures
    (both_same c.loop-a.labels.items c.in_ok-others.others.items c.as_slice.result.now c.as_slice-in-Some.result.now c.in_ok-labels-2.labels.items
    c.as_slice.ensures.value c.as_slice-in-Some.ensures.value c.in_ok-labels-2.ensures)

pub returns : goal.returns
returns c =
    walk_end c.args.table.now c.args.set.0 c.loop-a.left.0 c.loop-a.labels.items c.loop-a.invariant c.in_default.ensures.found

use Rattle.std.proofs.Common.{◌∙◌, ◌<◌, ap, length, map, slice_get}
use Rattle.std.proofs.lemmas.List.{take_all}
use Rattle.std.proofs.lemmas.List.Elements.{All-push}
use Rattle.mq_base.specs.declared.query.Agg.TheVariants.{Max}
use Rattle.column_table.specs.Columns.{shown}
use Rattle.column_table.specs.Groups.{folded_at}
use Rattle.column_table.proofs.FoldRows.{given_more}
use Rattle.column_table.proofs.fold.greatest_rows.Goals as goal

pub loop-group-preserved : goal.loop-group-preserved
loop-group-preserved c = record {
  within =
      rw c.in_ok-push.ensures.items
      (All-push (λ row. row < length (shown c.args.column.now).cells) c.loop-group.rows.items c.greatest_row.result c.loop-group.invariant.within
      c.greatest_row.ensures.within);
  cells =
      given_more (slice_get (shown c.args.column.now).cells) (folded_at Max (shown c.args.column.now).cells) c.args.groups.now
      c.loop-group.group-index c.group-item.result c.greatest_row.result c.loop-group.rows.items c.push.new.self.items c.loop-group-test.true
      c.group-item.is c.loop-group.invariant.cells
      (c.greatest_row.ensures.cell ∙ ap (folded_at Max (shown c.args.column.now).cells) c.as_slice.ensures) c.in_ok-push.ensures.items;
}

pub returns : goal.returns
returns c = record {
  within = c.loop-group.invariant.within;
  cells =
      c.loop-group.invariant.cells
      ∙ ap (map (folded_at Max (shown c.args.column.now).cells)) (take_all c.loop-group.group-index c.args.groups.now c.loop-group-test.false);
}

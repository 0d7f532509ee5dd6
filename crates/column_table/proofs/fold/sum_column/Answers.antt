use Rattle.std.proofs.Common.{◌∙◌, ap, map, sym, Some}
use Rattle.std.specs.Prelude.{IsTrue}
use Rattle.std.proofs.lemmas.List.{take_all}
use Rattle.std.proofs.lemmas.List.Elements.{All-push}
use Rattle.base_laws.proofs.FilterLaws.{map_map}
use Rattle.mq_base.specs.declared.query.Agg.TheVariants.{Sum}
use Rattle.mq_base.specs.declared.value.ValueType.TheVariants as type
use Rattle.column_table.specs.Cells.{Plain}
use Rattle.column_table.specs.Columns.{shown}
use Rattle.column_table.specs.Groups.{folded_at}
use Rattle.column_table.proofs.FoldRows.{given_more, made_of_sums}
use Rattle.sealed_column.specs.Seal.{is_value_of}
use Rattle.column_table.proofs.fold.sum_column.Goals as goal

pub loop-group-preserved : goal.loop-group-preserved
loop-group-preserved c = record {
  sums =
      given_more (λ v. Some (Plain v)) (folded_at Sum (shown c.args.column.now).cells) c.args.groups.now c.loop-group.group-index
      c.group-item.result c.sum_at.result c.loop-group.sums.items c.push.new.self.items c.loop-group-test.true c.group-item.is
      c.loop-group.invariant.sums
      (sym c.sum_at.ensures.sum ∙ ap (folded_at Sum (shown c.args.column.now).cells) c.as_slice.ensures) c.in_ok-push.ensures.items;
  ints =
      rw c.in_ok-push.ensures.items
      (All-push (λ v. IsTrue (is_value_of type.Int v)) c.loop-group.sums.items c.sum_at.result c.loop-group.invariant.ints c.sum_at.ensures.int);
}

pub returns : goal.returns
returns c =
    made_of_sums (folded_at Sum (shown c.args.column.now).cells) c.args.groups.now (shown c.args.column.now) c.of-2.result.ty
    c.loop-group.sums.items c.of-2.result.cells c.requires.runs
    (map_map Some Plain c.loop-group.sums.items ∙ c.loop-group.invariant.sums
    ∙ ap (map (folded_at Sum (shown c.args.column.now).cells)) (take_all c.loop-group.group-index c.args.groups.now c.loop-group-test.false))
    c.loop-group.invariant.ints c.of-2.ensures.typed (c.of-2.ensures.cells ∙ c.of.ensures)

use Rattle.std.proofs.Common.{◌≡◌, ◌∙◌, arith, length}
use Rattle.std.proofs.lemmas.List.{length-set}
use Rattle.column_table.specs.Columns.{column_at, shown_columns}
use Rattle.column_table.specs.Groups.{IsPlaceOf}
use Rattle.column_table.proofs.GroupRows.{each_place, no_place, place_put}
use Rattle.column_table.proofs.grouping.group_columns.Goals as goal

pub loop-a-preserved : goal.loop-a-preserved
loop-a-preserved c = record {
  long = length-set c.loop-a.made c.loop-a.a c.in_ok-made.field-0 ∙ c.loop-a.invariant.long;
  done = λ k below.
      place_put (λ j o. IsPlaceOf c.args.by.0 c.args.aggs.now c.args.groups.now j (column_at (shown_columns c.args.columns.now) j) o) c.loop-a.made c.loop-a.a k
      c.in_ok-made.field-0 c.loop-a.invariant.long c.loop-a-test.true c.loop-a.invariant.done c.in_ok-made.ensures below;
}

pub returns : goal.returns
returns c =
    let long : length c.args.columns.now ≡ 64 = c.type_inv.columns in
    let longs : length c.loop-a.made ≡ 64 = c.loop-a.invariant.long in
    each_place
    (λ a. IsPlaceOf c.args.by.0 c.args.aggs.now c.args.groups.now a (column_at (shown_columns c.args.columns.now) a) (column_at (shown_columns c.loop-a.made) a))
    c.loop-a.a c.loop-a-test.false c.loop-a.invariant.done
    (λ k past.
    no_place c.args.by.0 c.args.aggs.now c.args.groups.now c.args.columns.now c.loop-a.made k (omega (arith, long, past))
    (omega (arith, longs, past)))

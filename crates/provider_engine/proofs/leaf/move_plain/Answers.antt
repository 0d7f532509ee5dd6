use Rattle.std.proofs.Common.{◌∙◌, arith, ap, slice_get, sym}
use Rattle.std.proofs.lemmas.Option.{slice_get_within}
use Rattle.column_table.specs.Columns.{shown_columns}
use Rattle.provider_engine.proofs.LeafRows.{moved_other, moved_own, own_column, own_values, place_after_other, place_after_own, place_few}
use Rattle.provider_engine.proofs.leaf.move_plain.Goals as goal
use Rattle.provider_engine.proofs.leaf.move_plain.Goals.{then-owns, else-owns}

pub overflow_add-at : goal.overflow_add-at
overflow_add-at c =
    let few = place_few c.args.schema.now c.args.table.table.0 c.loop-a.a in
    omega (arith, few, c.loop-a.invariant.place, c.loop-a-test.true)

pub move_own-requires-clause-within : goal.move_own-requires-clause-within
move_own-requires-clause-within c =
    let column = own_column c.args.schema.now c.args.table c.loop-a.a c.requires.form (sym c.owns.ensures ∙ c.if-owns.true) in
    slice_get_within c.loop-a.values.items c.loop-a.at column.values
    (c.loop-a.invariant.left c.loop-a.at (omega arith) ∙ ap (slice_get c.args.table.columns) c.loop-a.invariant.place ∙ column.read)

pub move_own-requires-clause-cells : goal.move_own-requires-clause-cells
move_own-requires-clause-cells c = λ column read.
    (own_values c.args.schema.now c.args.table c.loop-a.a c.loop-a.at c.own_type-ty.result column c.requires.form
    (sym c.owns.ensures ∙ c.if-owns.true) c.loop-a.invariant.place c.own_type-ty.ensures
    (sym (c.loop-a.invariant.left c.loop-a.at (omega arith)) ∙ read)).cells

pub loop-a-preserved : goal.loop-a-preserved
loop-a-preserved c =
    let t = c.args.table.table.0 in
    elim c.if-owns.branch [
      | then-owns w ↦ record {
        place = w.at-is ∙ place_after_own c.args.schema.now t c.loop-a.a c.loop-a.at c.loop-a.invariant.place
            (sym c.owns.ensures ∙ w.if-owns.true);
        left = λ i above.
            ap (λ v. slice_get v.items i) w.values-is ∙ w.move_own.ensures.others i (omega (arith, above, w.at-is))
            ∙ c.loop-a.invariant.left i (omega (arith, above, w.at-is));
        filled = moved_own c.args.schema.now c.args.table c.args.plain.0 c.loop-a.a c.loop-a.at w.own_type-ty.result
            (shown_columns c.args.columns) (shown_columns c.loop-a.columns) (shown_columns c.if-owns.columns) c.requires.form
            (sym c.owns.ensures ∙ w.if-owns.true) c.loop-a.invariant.place w.own_type-ty.ensures c.loop-a-test.true
            (λ column read asked. ap shown_columns w.columns-is ∙ w.move_own.ensures.moved (w.has.ensures ∙ asked) column
            (c.loop-a.invariant.left c.loop-a.at (omega arith) ∙ read))
            (λ other. ap shown_columns (w.columns-is ∙ w.move_own.ensures.kept (w.has.ensures ∙ other))) c.loop-a.invariant.filled;
      }
      | else-owns w ↦ record {
        place = w.at-is ∙ place_after_other c.args.schema.now t c.loop-a.a c.loop-a.at c.loop-a.invariant.place
            (sym c.owns.ensures ∙ w.if-owns.false);
        left = λ i above. ap (λ v. slice_get v.items i) w.values-is ∙ c.loop-a.invariant.left i (omega (arith, above, w.at-is));
        filled = moved_other c.args.schema.now c.args.table c.args.plain.0 c.loop-a.a (shown_columns c.args.columns)
            (shown_columns c.loop-a.columns) (shown_columns c.if-owns.columns) (ap shown_columns w.columns-is) c.requires.own
            (sym c.owns.ensures ∙ w.if-owns.false) c.loop-a.invariant.filled;
      }
    ]

use Rattle.std.proofs.Common.{None, ◌<◌, get_or, option_map, refl, sym, ◌∙◌, ap, subst}
use Rattle.std.specs.Prelude.{IsTrue}
use Rattle.std.proofs.lemmas.List.{length-map, map-set}
use Rattle.base_laws.proofs.FillLaws.{filled-end, filled-more}
use Rattle.column_table.specs.Columns.{at_rows, column_at, has_rows, shown, shown_columns}
use Rattle.column_table.proofs.ColumnLaws.{column_is, columns_from, filled_at}
use Rattle.column_table.proofs.take.take_columns.Goals as goal

pub take_place-requires-clause-filled : goal.take_place-requires-clause-filled
take_place-requires-clause-filled c =
    subst (λ o. IsTrue (has_rows c.args.count o))
    (column_is c.args.columns.now c.loop-a.a c.index-columns-a.result (get_or c.args.columns.now c.loop-a.a c.index-columns-a.result)
    (subst (λ n. c.loop-a.a < n) (sym c.type_inv.columns) c.loop-a-test.true) refl)
    (filled_at c.args.count (shown_columns c.args.columns.now) c.requires.filled c.loop-a.a)

pub loop-a-preserved : goal.loop-a-preserved
loop-a-preserved c =
    map-set (option_map shown) c.loop-a.taken c.loop-a.a c.in_ok-taken.field-0
    ∙ filled-more (λ a. option_map (at_rows c.args.rows.now) (column_at (shown_columns c.args.columns.now) a)) None
    (option_map shown c.in_ok-taken.field-0) (shown_columns c.loop-a.taken) c.loop-a.a c.loop-a.a c.loop-a-test.true c.loop-a.invariant refl
    (c.in_ok-taken.ensures
    ∙ ap (option_map (at_rows c.args.rows.now))
    (sym (column_is c.args.columns.now c.loop-a.a c.index-columns-a.result (get_or c.args.columns.now c.loop-a.a c.index-columns-a.result)
    (subst (λ n. c.loop-a.a < n) (sym c.type_inv.columns) c.loop-a-test.true) refl)))

pub returns : goal.returns
returns c =
    columns_from (at_rows c.args.rows.now) (shown_columns c.args.columns.now) (shown_columns c.loop-a.taken)
    (length-map c.args.columns.now (option_map shown) ∙ c.type_inv.columns)
    (filled-end (λ a. option_map (at_rows c.args.rows.now) (column_at (shown_columns c.args.columns.now) a)) None
    (shown_columns c.loop-a.taken) c.loop-a.a c.loop-a-test.false c.loop-a.auto.a-end c.loop-a.invariant)

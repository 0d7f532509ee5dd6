use Rattle.std.proofs.Common.{◌≡◌, ◌∙◌, All, None, Some, ap, arith, length, map, subst, sym, if◌then◌else◌}
use Rattle.column_table.specs.Columns.{rows_in, shown_columns}
use Rattle.column_table.specs.inside.Labels.{IsGroup, same_rows}
use Rattle.column_table.proofs.GroupRows.{counted_made, counts_told, filled_made, group_of, grouped_rows, groups-few, groups_in, rows_made, same_itself, same_turned}
use Rattle.column_table.proofs.JoinRows.{column_long}
use Rattle.column_table.proofs.grouping.group.Goals as goal

pub group_columns-requires-clause-groups : goal.group_columns-requires-clause-groups
group_columns-requires-clause-groups c = record {
  each = λ a column is.
      subst (λ n. All (IsGroup n) c.as_slice.result.now) (sym (column_long c.args.table.now a column is))
      (groups_in (same_rows c.args.table.now c.args.by.0) (same_itself c.args.table.now c.args.by.0) (same_turned c.args.table.now c.args.by.0)
      c.args.table.now.rows c.as_slice.result.now (c.as_slice.ensures.value ∙ c.in_ok-groups.ensures));
}

pub invariant_of-result-clause-few : goal.invariant_of-result-clause-few
invariant_of-result-clause-few c =
    let number : c.len.result ≡ length c.as_slice.result.now = c.len.ensures ∙ sym c.as_slice.ensures.len in
    let few = groups-few (same_rows c.args.table.now c.args.by.0) (same_itself c.args.table.now c.args.by.0)
    (same_turned c.args.table.now c.args.by.0) c.args.table.now.rows c.as_slice.result.now (c.as_slice.ensures.value ∙ c.in_ok-groups.ensures) in
    let small = c.args.table.now.few in
    omega (arith, number, few, small)

pub invariant_of-result-clause-filled : goal.invariant_of-result-clause-filled
invariant_of-result-clause-filled c =
    filled_made c.args.table.now c.args.by.0 c.args.aggs.now c.as_slice.result.now (shown_columns c.in_ok-columns.columns) c.len.result
    (c.len.ensures ∙ sym c.as_slice.ensures.len) c.in_ok-columns.ensures

pub invariant_of-result-clause-counted : goal.invariant_of-result-clause-counted
invariant_of-result-clause-counted c =
    counted_made c.args.counted c.as_slice-2.result.now c.in_ok-counts.counts c.len.result (c.len.ensures ∙ sym c.as_slice-2.ensures.len)
    c.in_ok-counts.ensures

pub returns-clause-rows : goal.returns-clause-rows
returns-clause-rows c =
    λ seals.
    ap (rows_in (shown_columns c.in_ok-columns.columns) c.in_ok-counts.counts) (c.len.ensures ∙ sym c.as_slice.ensures.len)
    ∙ rows_made c.args.table.now seals c.args.by.0 c.args.aggs.now c.args.counted c.as_slice.result.now (shown_columns c.in_ok-columns.columns)
    c.in_ok-counts.counts c.in_ok-columns.ensures
    (c.in_ok-counts.ensures
    ∙ ap (λ gs. if c.args.counted then Some (map length gs) else None) (c.as_slice-2.ensures.value ∙ sym c.as_slice.ensures.value))
    ∙ ap (map (group_of c.args.table.now seals c.args.by.0 c.args.aggs.now c.args.counted)) (c.as_slice.ensures.value ∙ c.in_ok-groups.ensures)
    ∙ grouped_rows c.args.table.now seals c.args.by.0 c.args.aggs.now c.args.counted (same_itself c.args.table.now c.args.by.0)
    (same_turned c.args.table.now c.args.by.0)

pub returns-clause-made : goal.returns-clause-made
returns-clause-made c = record {
  columns = record { groups = c.as_slice.result.now; place = c.in_ok-columns.ensures };
  counts = counts_told c.args.counted c.as_slice-2.result.now c.in_ok-counts.counts c.in_ok-counts.ensures;
}

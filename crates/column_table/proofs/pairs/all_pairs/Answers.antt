use Rattle.std.proofs.Common.{◌∙◌, ◌++◌, ap, sym}
use Rattle.std.specs.List.{range_with_len}
use Rattle.sealed_column.specs.Rows.{paired}
use Rattle.column_table.specs.inside.Pairs.{all_pairs}
use Rattle.column_table.proofs.PairRows.{all_pairs_more}
use Rattle.column_table.proofs.pairs.all_pairs.Goals as goal

pub loop-row-init : goal.loop-row-init
unfolding all_pairs
loop-row-init c = c.new-made.ensures.items

pub loop-row-preserved : goal.loop-row-preserved
loop-row-preserved c =
    c.in_ok-add_all.ensures
    ∙ ap (λ pairs. pairs ++ paired c.loop-row.row (range_with_len 0 c.args.others)) c.loop-row.invariant
    ∙ sym (all_pairs_more c.loop-row.row c.args.others)

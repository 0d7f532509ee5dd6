use Rattle.std.proofs.Common.{◌∙◌, All, ap, map, subst, sym}
use Rattle.std.proofs.lemmas.Result.{IfOk-weaker}
use Rattle.column_table.specs.Columns.{shown}
use Rattle.column_table.specs.inside.Pairs.{IsPairOf, pair_row}
use Rattle.column_table.proofs.JoinRows.{join_pairs_in, join_rows}
use Rattle.column_table.proofs.joins.join_pairs.Goals as goal

pub returns-clause-within : goal.returns-clause-within
returns-clause-within c =
    IfOk-weaker c.cell_pairs.result _ _
    (λ pairs is. subst (All (IsPairOf c.args.left.now c.args.right.now)) (sym is)
    (join_pairs_in c.args.left.now c.args.right.now c.args.a.0 c.args.op c.args.b.0 (shown c.column_of.result.now) (shown c.column_of-2.result.now)
    c.column_of.ensures c.column_of-2.ensures)) c.cell_pairs.ensures

pub returns-clause-rows : goal.returns-clause-rows
returns-clause-rows c =
    IfOk-weaker c.cell_pairs.result _ _
    (λ pairs is seals. ap (map (pair_row c.args.left.now c.args.right.now)) is
    ∙ join_rows c.args.left.now c.args.right.now seals c.args.a.0 c.args.op c.args.b.0 (shown c.column_of.result.now)
    (shown c.column_of-2.result.now) c.column_of.ensures c.column_of-2.ensures c.requires.joined.apart) c.cell_pairs.ensures

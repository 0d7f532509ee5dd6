use Rattle.std.proofs.Common.{map}
use Rattle.sealed_column.specs.declared.rows.Pair.{Pair}
use Rattle.column_table.proofs.BesideRows.{pairs_are_beside, pairs_stand}
use Rattle.column_table.proofs.beside.take_pairs.Goals as goal

pub returns-clause-rows : goal.returns-clause-rows
returns-clause-rows c =
    pairs_stand c.args.left.now c.args.right.now c.in_ok-lefts.lefts c.in_ok-rights.rights c.beside.result c.args.pairs.now
    c.in_ok-lefts.ensures c.in_ok-rights.ensures c.beside.ensures.rows

pub returns-clause-beside : goal.returns-clause-beside
returns-clause-beside c =
    pairs_are_beside c.args.left.now c.args.right.now c.in_ok-lefts.lefts c.in_ok-rights.rights c.beside.result
    (map (λ (p : Pair). p.left) c.args.pairs.now) (map (λ (p : Pair). p.right) c.args.pairs.now)
    c.in_ok-lefts.ensures c.in_ok-rights.ensures c.beside.ensures.columns c.beside.ensures.counts

use Rattle.std.proofs.Common.{◌<◌, map, ◌∙◌}
use Rattle.std.proofs.lemmas.List.Elements.{All-map, All-same}
use Rattle.sealed_column.specs.declared.rows.Pair.{Pair}
use Rattle.column_table.proofs.BesideRows.{are_taken}
use Rattle.column_table.proofs.beside.take_lefts.Goals as goal

pub take_rows-requires-clause-within : goal.take_rows-requires-clause-within
take_rows-requires-clause-within c =
    All-same (λ row. row < c.args.left.now.rows) c.as_slice.result.now (map (λ (p : Pair). p.left) c.args.pairs.now)
    (c.as_slice.ensures.value ∙ c.in_ok-rows.ensures)
    (All-map (λ row. row < c.args.left.now.rows) (λ (p : Pair). p.left) c.args.pairs.now c.requires.within)

pub returns : goal.returns
returns c =
    are_taken c.args.left.now c.as_slice.result.now (map (λ (p : Pair). p.left) c.args.pairs.now) c.take_rows.result
    (c.as_slice.ensures.value ∙ c.in_ok-rows.ensures) c.take_rows.ensures.rows c.take_rows.ensures.columns c.take_rows.ensures.counts
    c.take_rows.ensures.number

use Rattle.std.proofs.Common.{◌∙◌, ◌<◌, ◌^◌, ap, length, map, subst, sym}
use Rattle.std.proofs.lemmas.List.Elements.{All-same}
use Rattle.std.proofs.lemmas.Result.{IfOk-weaker}
use Rattle.column_table.specs.inside.Pairs.{IsPairOf, all_pairs, pair_row}
use Rattle.column_table.proofs.BareRows.{whole_product}
use Rattle.column_table.proofs.PairRows.{all_pairs-length, all_pairs_in}
use Rattle.column_table.proofs.products.paired_product.Goals as goal

pub take_pairs-requires-clause-few : goal.take_pairs-requires-clause-few
take_pairs-requires-clause-few c =
    subst (λ n. n < 2 ^ 48)
    (sym (ap length (c.as_slice.ensures.value ∙ c.in_ok-pairs.ensures) ∙ all_pairs-length c.args.left.now.rows c.args.right.now.rows)) c.requires

pub take_pairs-requires-clause-within : goal.take_pairs-requires-clause-within
take_pairs-requires-clause-within c =
    All-same (IsPairOf c.args.left.now c.args.right.now) c.as_slice.result.now (all_pairs c.args.left.now.rows c.args.right.now.rows)
    (c.as_slice.ensures.value ∙ c.in_ok-pairs.ensures) (all_pairs_in c.args.left.now c.args.right.now)

pub returns-clause-rows : goal.returns-clause-rows
returns-clause-rows c =
    IfOk-weaker c.take_pairs.result _ _
    (λ made is. is ∙ ap (map (pair_row c.args.left.now c.args.right.now)) (c.as_slice.ensures.value ∙ c.in_ok-pairs.ensures)
    ∙ whole_product c.args.left.now c.args.right.now) c.take_pairs.ensures.rows

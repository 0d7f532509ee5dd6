use Rattle.std.proofs.Common.{length, refl, sym, ◌∙◌}
use Rattle.std.proofs.lemmas.Option.{slice_get_read}
use Rattle.std.specs.Option.{option_cmp}
use Rattle.sealed_column.proofs.pick.order_between.Goals as goal

pub returns : goal.returns
returns g c =
    let first = slice_get_read c.args.cells.now (length c.args.cells.now) c.args.row c.index-cells-row.result refl c.requires.row_in
    c.index-cells-row.is in
    let second = slice_get_read c.args.others.now (length c.args.others.now) c.args.other_row c.index-others-other_row.result refl
    c.requires.other_in c.index-others-other_row.is in
    c.cmp.ensures ∙ (λ i. option_cmp g.C.Ord.cmp (sym first i) (sym second i))

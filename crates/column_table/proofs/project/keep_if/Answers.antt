use Rattle.std.proofs.Common.{None, ◌≡◌, false, set, option_map, sym, ◌∙◌, ap, subst}
use Rattle.std.specs.Prelude.{if◌then◌else◌}
use Rattle.std.proofs.lemmas.List.{map-set}
use Rattle.column_table.specs.Columns.{shown, shown_columns}
use Rattle.column_table.proofs.project.keep_if.Goals as goal

pub returns-then-not-keep : goal.returns-then-not-keep
returns-then-not-keep c =
    let off : c.args.keep ≡ false = cc in
    subst (λ b. shown_columns (set c.args.columns.now c.from.result None)
    ≡ (if b then shown_columns c.args.columns.now else set (shown_columns c.args.columns.now) c.args.a.0 None)) (sym off)
    (map-set (option_map shown) c.args.columns.now c.from.result None ∙ ap (λ i. set (shown_columns c.args.columns.now) i None) c.from.ensures)

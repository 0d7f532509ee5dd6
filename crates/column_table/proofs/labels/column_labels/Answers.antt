use Rattle.std.proofs.Common.{refl}
use Rattle.std.proofs.lemmas.Result.{IfOk-weaker}
use Rattle.column_table.specs.Cells.{Plain, Sealed}
use Rattle.column_table.specs.Columns.{shown}
use Rattle.column_table.proofs.LabelRows.{column_labelled}
use Rattle.column_table.proofs.labels.column_labels.Goals as goal

pub returns-in-Plain : goal.returns-in-Plain
returns-in-Plain c =
    IfOk-weaker c.first_rows.result _ _
    (λ labels tells. column_labelled _ Plain (λ v w. refl) c.in-Plain.values.now (shown c.args.column.now).cells c.in-Plain.ensures labels.items tells)
    c.first_rows.ensures

pub returns-in-Sealed : goal.returns-in-Sealed
returns-in-Sealed c =
    IfOk-weaker c.first_rows-in-Sealed.result _ _
    (λ labels tells. column_labelled _ Sealed (λ s t. refl) c.in-Sealed.texts.now (shown c.args.column.now).cells c.in-Sealed.ensures labels.items tells)
    c.first_rows-in-Sealed.ensures

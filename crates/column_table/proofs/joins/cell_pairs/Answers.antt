use Rattle.std.proofs.Common.{◌∙◌, refl}
use Rattle.std.proofs.lemmas.Result.{IfOk-weaker}
use Rattle.column_table.specs.Cells.{Plain, Sealed}
use Rattle.column_table.specs.Columns.{shown}
use Rattle.column_table.proofs.JoinRows.{other_kind, same_kind}
use Rattle.column_table.proofs.joins.cell_pairs.Goals as goal

pub returns-in-Plain-Plain : goal.returns-in-Plain-Plain
returns-in-Plain-Plain c =
    IfOk-weaker c.ordered_pairs.result _ _
    (λ made is. is ∙ same_kind Plain c.args.op c.in-Plain-Plain.values.now c.in-Plain-Plain.others.now (shown c.args.left.now).cells
    (shown c.args.right.now).cells c.in-Plain-Plain.ensures c.in-Plain-Plain.ensures') c.ordered_pairs.ensures

pub returns-in-Sealed-Sealed : goal.returns-in-Sealed-Sealed
returns-in-Sealed-Sealed c =
    IfOk-weaker c.ordered_pairs-in-Sealed-Sealed.result _ _
    (λ made is. is ∙ same_kind Sealed c.args.op c.in-Sealed-Sealed.texts.now c.in-Sealed-Sealed.others.now (shown c.args.left.now).cells
    (shown c.args.right.now).cells c.in-Sealed-Sealed.ensures c.in-Sealed-Sealed.ensures') c.ordered_pairs-in-Sealed-Sealed.ensures

pub returns-in-Plain-Sealed : goal.returns-in-Plain-Sealed
returns-in-Plain-Sealed c =
    other_kind Plain Sealed c.args.op c.in-Plain-Sealed.field-0-0.now c.in-Plain-Sealed.field-0-1.now (shown c.args.left.now).cells
    (shown c.args.right.now).cells c.new.result.items (λ a b. refl) c.in-Plain-Sealed.ensures c.in-Plain-Sealed.ensures' c.new.ensures.items

pub returns-in-Sealed-Plain : goal.returns-in-Sealed-Plain
returns-in-Sealed-Plain c =
    other_kind Sealed Plain c.args.op c.in-Sealed-Plain.field-0-0.now c.in-Sealed-Plain.field-0-1.now (shown c.args.left.now).cells
    (shown c.args.right.now).cells c.new-in-Sealed-Plain.result.items (λ a b. refl) c.in-Sealed-Plain.ensures c.in-Sealed-Plain.ensures' c.new-in-Sealed-Plain.ensures.items

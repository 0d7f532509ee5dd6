use Rattle.std.proofs.Common.{◌∙◌, ap, sym, subst}
use Rattle.std.specs.Vec.{vec_len}
use Rattle.std.proofs.lemmas.Bool.{eqb-true}
use Rattle.assign_table.specs.inside.Arrivals.{ArePlacesOf}
use Rattle.assign_table.specs.inside.Pairs.{compared_left, compared_right}
use Rattle.assign_table.specs.inside.Sheet.{sheet_of}
use Rattle.assign_table.proofs.ClassLaws.{class_none, class_pairs}
use Rattle.assign_table.proofs.pairs.pair_class.Goals as goal

pub returns-then-is_empty-clause-listed : goal.returns-then-is_empty-clause-listed
returns-then-is_empty-clause-listed c =
    class_none c.args.gate c.args.left c.args.right c.requires.kind c.args.class.holder.0 c.args.class.sealed c.in_ok-lefts.lefts.items
    (subst (λ compared. ArePlacesOf c.args.gate c.args.left compared c.args.class.holder.0 c.args.class.sealed c.in_ok-lefts.lefts.items)
    (c.compared_left.ensures ∙ ap compared_left c.operation-op.ensures) c.in_ok-lefts.ensures)
    (sym c.in_ok-lefts.lefts.ok.0 ∙ eqb-true (vec_len c.in_ok-lefts.lefts) 0 (sym c.is_empty.ensures ∙ c.if-is_empty.true))
    (sheet_of c.args.table.now).cells

pub pair_lefts-requires-clause-pairs : goal.pair_lefts-requires-clause-pairs
pair_lefts-requires-clause-pairs c =
    class_pairs c.args.gate c.args.left c.args.right c.requires.kind c.args.class.holder.0 c.args.class.sealed c.as_slice.result.now
    (subst (λ compared. ArePlacesOf c.args.gate c.args.left compared c.args.class.holder.0 c.args.class.sealed c.as_slice.result.now)
    (c.compared_left.ensures ∙ ap compared_left c.operation-op.ensures)
    (subst (ArePlacesOf c.args.gate c.args.left c.compared_left.result c.args.class.holder.0 c.args.class.sealed) (sym c.as_slice.ensures.value)
    c.in_ok-lefts.ensures))
    c.as_slice-2.result.now
    (subst (λ compared. ArePlacesOf c.args.gate c.args.right compared c.args.class.holder.0 c.args.class.sealed c.as_slice-2.result.now)
    (c.compared_right.ensures ∙ ap compared_right c.operation-op.ensures)
    (subst (ArePlacesOf c.args.gate c.args.right c.compared_right.result c.args.class.holder.0 c.args.class.sealed) (sym c.as_slice-2.ensures.value)
    c.in_ok-rights.ensures))

use Rattle.std.proofs.Common.{◌∙◌, ◌<◌, subst, sym}
use Rattle.column_table.specs.Tables.{most_rows}
use Rattle.column_table.proofs.BareRows.{bare_beside, bare_product, whole_length}
use Rattle.column_table.proofs.products.product.Goals as goal

pub returns-in_default-clause-range : goal.returns-in_default-clause-range
returns-in_default-clause-range c =
    λ is. subst (λ n. most_rows < n) (sym (whole_length c.args.left.now c.args.right.now)) c.in_default.ensures

pub returns-then-is_bare-2-clause-rows : goal.returns-then-is_bare-2-clause-rows
returns-then-is_bare-2-clause-rows c =
    bare_product c.args.left.now c.args.right.now c.bare.result c.in-Some.count (sym c.is_bare.ensures ∙ c.if-is_bare.true)
    (sym c.is_bare-then-is_bare.ensures ∙ c.if-is_bare-2.true) c.bare.ensures.rows c.in-Some.ensures.0

pub returns-then-is_bare-2-clause-beside : goal.returns-then-is_bare-2-clause-beside
returns-then-is_bare-2-clause-beside c =
    bare_beside c.args.left.now c.args.right.now c.bare.result (sym c.is_bare.ensures ∙ c.if-is_bare.true)
    (sym c.is_bare-then-is_bare.ensures ∙ c.if-is_bare-2.true) c.bare.ensures.columns c.bare.ensures.counts

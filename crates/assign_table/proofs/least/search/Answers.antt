use Rattle.std.proofs.Common.{◌≡◌, Err, ap, sym, ◌∙◌}
use Rattle.std.proofs.lemmas.Result.{err_from_is_err_and}
use Rattle.assign_table.specs.declared.answer.SearchNo.{SearchNo}
use Rattle.assign_table.specs.declared.answer.SearchNo.TheVariants.{TooManyStates}
use Rattle.assign_table.proofs.least.search.Goals as goal

pub returns-in_err-settle_nodes-clause-too_many : goal.returns-in_err-settle_nodes-clause-too_many
returns-in_err-settle_nodes-clause-too_many c = λ n many.
    let p = err_from_is_err_and c.from_residual-in_err-settle_nodes.result c.from_residual-in_err-settle_nodes.ensures.1 in
    let is = sym p.1 ∙ many in
    let same : p.0 ≡ TooManyStates n = cc in
    c.in_err-settle_nodes.ensures.too_many n (ap (λ (e : SearchNo). Err e) (sym p.2 ∙ same))

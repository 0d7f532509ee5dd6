use Rattle.std.proofs.Common.{◌≡◌, Err, length, ap, sym, ◌∙◌, arith}
use Rattle.std.proofs.lemmas.Result.{err_from_is_err_and}
use Rattle.std.proofs.Math.Path.{subst}
use Rattle.extended_plan.specs.Job.{setting_of}
use Rattle.assign_table.specs.declared.answer.SearchNo.{SearchNo}
use Rattle.assign_table.specs.declared.answer.SearchNo.TheVariants.{TooManyStates}
use Rattle.assign_table.specs.inside.Blocks.{AreDone}
use Rattle.assign_table.proofs.blocks.settle_nodes.Goals as goal

pub returns-in_err-settle_node-clause-too_many : goal.returns-in_err-settle_node-clause-too_many
returns-in_err-settle_node-clause-too_many c = λ n many.
    let p = err_from_is_err_and c.from_residual.result c.from_residual.ensures.1 in
    let is = sym p.1 ∙ many in
    let same : p.0 ≡ TooManyStates n = cc in
    c.in_err-settle_node.ensures.too_many n (ap (λ (e : SearchNo). Err e) (sym p.2 ∙ same))

pub returns-clause-done : goal.returns-clause-done
returns-clause-done c =
    let end : c.nodes.node ≡ length (setting_of c.args.job.now).basis.nodes = omega (arith, c.node_count-node-end.ensures.counted) in
    subst (AreDone (setting_of c.args.job.now) c.nodes.settled.items c.nodes.starts.items) end c.nodes.invariant

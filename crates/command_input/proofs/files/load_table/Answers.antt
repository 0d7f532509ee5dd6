use Rattle.std.proofs.Common.{◌≡◌, ◌∙◌}
use Rattle.std.proofs.lemmas.Result.{err_from_is_err_and}
use Rattle.mq_base.specs.declared.table.PlainTable.{PlainTable}
use Rattle.mq_base.specs.Table.{HasForm}
use Rattle.table_reader.specs.Codes as table
use Rattle.table_reader.specs.Outcome.{table_outcome}
use Rattle.command_input.specs.declared.fault.FileRole.TheVariants as role
use Rattle.command_input.specs.Input.{table_file, table_input}
use Rattle.command_input.proofs.Judging.{answer_judges, judged_if_ok}
use Rattle.command_input.proofs.Knowing.{loads_judged, loads_failed}
use Rattle.command_input.proofs.Numbers.{table_numbered}
use Rattle.command_input.proofs.files.load_table.Goals as goal

pub returns-in_err-bytes-clause-loads : goal.returns-in_err-bytes-clause-loads
unfolding table_input
returns-in_err-bytes-clause-loads g c =
    let named : c.as_str.result.now ≡ table_file c.args.policy.now c.args.t = c.as_str.ensures.value ∙ c.in_ok-name.ensures in
    let p = err_from_is_err_and c.from_residual-in_err-bytes.result c.from_residual-in_err-bytes.ensures.1 in
    rw (p.1, p.2) (loads_failed (g.H.Shelf.state c.args.shelf.now) (g.H.Shelf.state c.read_file.new.shelf) (role.Table c.args.t)
    (table_file c.args.policy.now c.args.t) (table_outcome c.args.policy.now.schema c.args.t.0) _ (rw named at c.in_err-bytes.ensures.stops))

pub returns-clause-loads : goal.returns-clause-loads
unfolding table_input
returns-clause-loads g c =
    let named : c.as_str.result.now ≡ table_file c.args.policy.now c.args.t = c.as_str.ensures.value ∙ c.in_ok-name.ensures in
    rw c.judge.ensures
    (loads_judged (g.H.Shelf.state c.args.shelf.now) (g.H.Shelf.state c.read_file.new.shelf) (role.Table c.args.t)
    (table_file c.args.policy.now c.args.t) (table_outcome c.args.policy.now.schema c.args.t.0)
    c.in_ok-bytes.bytes.items _ (rw named at c.in_ok-bytes.ensures.content) c.in_ok-bytes.ensures.within
    (answer_judges (role.Table c.args.t) table.refusal_of table_numbered c.read_table.result _ (rw c.as_slice.ensures.value at c.read_table.ensures.read)))

pub returns-clause-form : goal.returns-clause-form
returns-clause-form g c =
    rw c.judge.ensures
    (judged_if_ok (role.Table c.args.t) table.refusal_of (HasForm c.args.policy.now.schema) c.read_table.result c.read_table.ensures.form)

pub returns-clause-named : goal.returns-clause-named
returns-clause-named g c =
    rw c.judge.ensures
    (judged_if_ok (role.Table c.args.t) table.refusal_of (λ (content : PlainTable). content.table ≡ c.args.t)
    c.read_table.result c.read_table.ensures.named)

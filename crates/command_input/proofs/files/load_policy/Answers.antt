use Rattle.std.proofs.lemmas.Result.{err_from_is_err_and}
use Rattle.policy_base.specs.Accepted.{IsAccepted}
use Rattle.policy_reader.specs.Codes as policy
use Rattle.policy_reader.specs.Outcome.{policy_outcome}
use Rattle.command_input.specs.declared.fault.FileRole.TheVariants as role
use Rattle.command_input.specs.Input.{policy_input}
use Rattle.command_input.proofs.Judging.{answer_judges, judged_if_ok}
use Rattle.command_input.proofs.Knowing.{loads_judged, loads_failed}
use Rattle.command_input.proofs.Numbers.{policy_numbered}
use Rattle.command_input.proofs.files.load_policy.Goals as goal

pub returns-in_err-bytes-clause-loads : goal.returns-in_err-bytes-clause-loads
unfolding policy_input
returns-in_err-bytes-clause-loads g c =
    let p = err_from_is_err_and c.from_residual.result c.from_residual.ensures.1 in
    rw (p.1, p.2) (loads_failed (g.H.Shelf.state c.args.shelf.now) (g.H.Shelf.state c.read_file.new.shelf) role.Policy c.args.name.now
    policy_outcome _ c.in_err-bytes.ensures.stops)

pub returns-clause-loads : goal.returns-clause-loads
unfolding policy_input
returns-clause-loads g c =
    rw c.judge.ensures
    (loads_judged (g.H.Shelf.state c.args.shelf.now) (g.H.Shelf.state c.read_file.new.shelf) role.Policy c.args.name.now policy_outcome
    c.in_ok-bytes.bytes.items _ c.in_ok-bytes.ensures.content c.in_ok-bytes.ensures.within
    (answer_judges role.Policy policy.told policy_numbered c.read_policy.result _ (rw c.as_slice.ensures.value at c.read_policy.ensures.read)))

pub returns-clause-accepted : goal.returns-clause-accepted
returns-clause-accepted g c =
    rw c.judge.ensures (judged_if_ok role.Policy policy.told IsAccepted c.read_policy.result c.read_policy.ensures.accepted)

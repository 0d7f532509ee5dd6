use Rattle.std.proofs.Common.{sym, subst}
use Rattle.policy_base.specs.Accepted.{IsAccepted}
use Rattle.engine_tests.proofs.run.check.Goals as goal

pub run-requires-clause-accepted : goal.run-requires-clause-accepted
run-requires-clause-accepted g c = subst IsAccepted (sym c.in_ok-job.ensures.given.policy) c.in_ok-policy.ensures.accepted

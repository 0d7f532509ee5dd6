use Rattle.std.proofs.Common.{sym, subst}
use Rattle.provider_engine.specs.Typed.{AreTyped}
use Rattle.engine_tests.proofs.typed.is_typed.Goals as goal

pub returns : goal.returns
returns c =
    subst (AreTyped c.args.job.now.policy.now.schema) (sym c.args.job.now.planned)
    (c.plans_are_typed.ensures c.args.job.now.policy.now.schema c.args.job.now.query.now c.requires c.constants_have_bytes.ensures)

use Rattle.std.proofs.Common.{ap, ◌∙◌}
use Rattle.base_laws.specs.Sets.{has}
use Rattle.extended_plan.specs.Job.{setting_of}
use Rattle.mq_base.specs.declared.attr_set.AttrSet.{AttrSet}
use Rattle.provider_engine.proofs.SealRows.{enc_visible}
use Rattle.provider_engine.proofs.seal.state_encrypted.Goals as goal

pub returns-clause-small : goal.returns-clause-small
returns-clause-small c =
    c.is_small.ensures (ap (λ (v : AttrSet). has v.0 c.args.a.0) c.visible.ensures
    ∙ enc_visible (setting_of c.args.job.now) c.args.input.now.node c.args.a c.args.input.now.state c.requires.runnable.runs)

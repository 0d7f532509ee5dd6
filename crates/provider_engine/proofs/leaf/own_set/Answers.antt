use Rattle.std.proofs.Common.{ap, sym, subst, ◌∙◌}
use Rattle.extended_plan.specs.Job.{setting_of}
use Rattle.mq_base.specs.declared.attr_set.AttrSet.{AttrSet}
use Rattle.provider_engine.specs.inside.Leaves.{AreOwn}
use Rattle.provider_engine.proofs.LeafRows.{used_is, used_own}
use Rattle.provider_engine.proofs.leaf.own_set.Goals as goal

pub returns-clause-used : goal.returns-clause-used
returns-clause-used c =
    ap (λ (v : AttrSet). v.0) c.visible.ensures
    ∙ used_is (setting_of c.args.job.now) c.args.node.0 c.args.t c.args.job.now.ready c.requires.leaf

pub returns-clause-own : goal.returns-clause-own
returns-clause-own c =
    subst (λ (v : AttrSet). AreOwn c.args.job.now.policy.now.schema c.args.t.0 v.0) (sym c.visible.ensures)
    (used_own (setting_of c.args.job.now) c.args.job.now.query.now c.args.node.0 c.args.t c.args.job.now.ready c.requires.schema
    c.args.job.now.planned c.requires.leaf)

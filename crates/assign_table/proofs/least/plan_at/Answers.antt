use Rattle.std.proofs.Common.{◌<◌, ◌≤◌, length, List, sym, arith}
use Rattle.std.proofs.Math.Path.{subst}
use Rattle.mq_base.specs.declared.plan.Step.{Step}
use Rattle.extended_plan.specs.Job.{setting_of}
use Rattle.extended_plan.specs.Setting.{root}
use Rattle.assign_table.specs.Found.{IsPlanFound, most_cost}
use Rattle.assign_table.specs.inside.Blocks.{AreLabelsOf}
use Rattle.assign_table.specs.inside.Ways.{settled_at}
use Rattle.assign_table.proofs.AnswerLaws.{dear_found, few_at_root, label_found, leads_found, plan_found}
use Rattle.assign_table.proofs.least.plan_at.Goals as goal

pub returns-then-best-clause-cost_range : goal.returns-then-best-clause-cost_range
returns-then-best-clause-cost_range c = λ dear.
    let below : root (setting_of c.args.job.now) < length (setting_of c.args.job.now).basis.nodes =
    omega (arith, c.node_count-count.ensures.counted, c.node_count-count.ensures.some) in
    let most : most_cost ≤ (settled_at c.args.settled.now c.args.place).label = omega (arith, c.if-best.true) in (
      dear_found (setting_of c.args.job.now) c.args.job.now.ready c.args.settled.now c.args.starts.now c.requires.done c.args.place below
          c.requires.best most,
      few_at_root (setting_of c.args.job.now) c.args.job.now.ready c.args.settled.now c.args.starts.now below c.requires.done,
    )

pub steps_of-requires : goal.steps_of-requires
steps_of-requires c =
    leads_found (setting_of c.args.job.now) c.args.job.now.ready c.args.settled.now c.args.starts.now c.requires.done c.args.place
    (omega (arith, c.node_count-count.ensures.counted, c.node_count-count.ensures.some)) c.requires.best

pub labels_of-requires-clause-apart : goal.labels_of-requires-clause-apart
labels_of-requires-clause-apart c = λ m below.
    (c.requires.done.block m (omega (arith, below, c.node_count-count.ensures.counted))).differ

pub returns-clause-found : goal.returns-clause-found
returns-clause-found c =
    let below : root (setting_of c.args.job.now) < length (setting_of c.args.job.now).basis.nodes =
    omega (arith, c.node_count-count.ensures.counted, c.node_count-count.ensures.some) in
    let most : (settled_at c.args.settled.now c.args.place).label ≤ most_cost =
    label_found (setting_of c.args.job.now) c.args.job.now.ready c.args.settled.now c.args.starts.now c.requires.done c.args.place below
    c.requires.best in
    let less : (settled_at c.args.settled.now c.args.place).label < most_cost = omega (arith, most, c.if-best.false) in (
      subst
          (λ (steps : List Step).
          IsPlanFound (setting_of c.args.job.now) steps (settled_at c.args.settled.now c.args.place).label c.in_ok-labels_of.field-0.nodes)
          (sym c.of.ensures)
          (plan_found (setting_of c.args.job.now) c.args.job.now.ready c.args.settled.now c.args.starts.now c.requires.done c.args.place
          c.in_ok-steps.steps.items c.in_ok-labels_of.field-0.nodes below c.requires.best less c.in_ok-steps.ensures
          (subst (λ n. AreLabelsOf c.args.settled.now c.args.starts.now n c.in_ok-labels_of.field-0.nodes) c.node_count-count.ensures.counted
          c.in_ok-labels_of.ensures)),
      few_at_root (setting_of c.args.job.now) c.args.job.now.ready c.args.settled.now c.args.starts.now below c.requires.done,
    )

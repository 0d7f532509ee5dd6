use Rattle.std.proofs.Common.{◌<◌, None, length, arith}
use Rattle.std.proofs.Math.Path.{subst}
use Rattle.extended_plan.specs.Job.{setting_of}
use Rattle.extended_plan.specs.Setting.{root}
use Rattle.assign_table.specs.inside.Blocks.{AreLabelsOf}
use Rattle.assign_table.proofs.AnswerLaws.{best_root, few_at_root, none_found}
use Rattle.assign_table.proofs.least.answer.Goals as goal

pub labels_of-requires-clause-apart : goal.labels_of-requires-clause-apart
labels_of-requires-clause-apart c = λ m below.
    (c.requires.block m (omega (arith, below, c.node_count-count.ensures.counted))).differ

pub returns-in_ok-labels_of-in-None-clause-found : goal.returns-in_ok-labels_of-in-None-clause-found
returns-in_ok-labels_of-in-None-clause-found c =
    let below : root (setting_of c.args.job.now) < length (setting_of c.args.job.now).basis.nodes =
    omega (arith, c.node_count-count.ensures.counted, c.node_count-count.ensures.some) in (
      none_found (setting_of c.args.job.now) c.args.job.now.ready c.args.settled.now c.args.starts.now c.requires
          c.in_ok-labels_of-in-None.field-0.nodes
          (best_root (setting_of c.args.job.now) c.args.settled.now c.args.starts.now c.node_count-count.result None
          c.node_count-count.ensures.counted c.node_count-count.ensures.some c.in-None.ensures)
          (subst (λ n. AreLabelsOf c.args.settled.now c.args.starts.now n c.in_ok-labels_of-in-None.field-0.nodes) c.node_count-count.ensures.counted
          c.in_ok-labels_of-in-None.ensures),
      few_at_root (setting_of c.args.job.now) c.args.job.now.ready c.args.settled.now c.args.starts.now below c.requires,
    )

use Rattle.std.proofs.Common.{◌≡◌, ◌-◌, Err, ap, arith}
use Rattle.std.proofs.Math.Path.{subst}
use Rattle.mq_base.specs.declared.ids.NodeId.{NodeId}
use Rattle.extended_plan.specs.Job.{setting_of}
use Rattle.extended_plan.specs.States.{IsFirstTooMany}
use Rattle.assign_table.specs.declared.table.TableNo.{TableNo}
use Rattle.assign_table.proofs.DoneLaws.{crowded_first}
use Rattle.assign_table.proofs.blocks.settle_node.Goals as goal

pub returns-in-Err-Full-clause-too_many : goal.returns-in-Err-Full-clause-too_many
returns-in-Err-Full-clause-too_many c = λ n many.
    let same : c.args.node ≡ n = cc in
    subst (λ (m : NodeId). IsFirstTooMany (setting_of c.args.job.now) m.0) same
    (crowded_first (setting_of c.args.job.now) c.args.job.now.ready c.args.settled.now.items c.args.starts.now.items c.args.node.0
    (200000 - c.len-room.result) c.requires.done (omega (arith, c.len-room.ensures, c.requires.done.few, c.args.settled.now.ok.0))
    (c.in-Err-Full.ensures.full (ap (λ (e : TableNo). Err e) c.in-Err-Full.field-0-is)))

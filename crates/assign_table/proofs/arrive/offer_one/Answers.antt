use Rattle.std.proofs.Common.{refl}
use Rattle.mq_base.specs.declared.plan.Step.TheVariants as step
use Rattle.assign_table.specs.declared.way.Way.TheVariants as way
use Rattle.assign_table.specs.inside.Arrivals.{gate_at, one_at}
use Rattle.assign_table.proofs.ArriveLaws.{one_place, told_arrives}
use Rattle.assign_table.proofs.arrive.offer_one.Goals as goal

pub after_step-requires : goal.after_step-requires
after_step-requires c = record {
  node = c.requires.gate.node;
  taken =
      (refl, (one_place c.args.gate c.args.gate.job.now.ready c.requires.gate c.args.operand c.args.at c.requires.kind c.requires.place).operand);
}

pub offer_arrival-requires-clause-arrives : goal.offer_arrival-requires-clause-arrives
offer_arrival-requires-clause-arrives c =
    told_arrives (one_at c.args.gate c.args.at) c.in-Some.state c.in-Some.cost (gate_at c.args.gate c.args.at).label c.label_after.result
    c.in-Some.ensures.answers c.label_after.ensures.sum c.args.gate (way.One (step.Un c.args.gate.node) c.args.at)
    (one_place c.args.gate c.args.gate.job.now.ready c.requires.gate c.args.operand c.args.at c.requires.kind c.requires.place).leads

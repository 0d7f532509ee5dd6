use Rattle.std.proofs.Common.{◌+◌, refl, ◌∙◌, ap}
use Rattle.cost_model.specs.Costs.{cut}
use Rattle.assign_table.specs.declared.way.Way.TheVariants as way
use Rattle.assign_table.specs.inside.Arrivals.{gate_at, two_at}
use Rattle.assign_table.proofs.ArriveLaws.{cut_twice, told_arrives, two_operands, two_places}
use Rattle.assign_table.proofs.pairs.offer_pair.Goals as goal

pub after_step-requires : goal.after_step-requires
after_step-requires c = record {
  node = c.requires.gate.node;
  taken = (
    refl,
    two_operands c.args.gate c.args.left c.args.right
        (two_places c.args.gate c.args.gate.job.now.ready c.requires.gate c.args.left c.args.right c.requires.pair),
  );
}

pub offer_arrival-requires-clause-arrives : goal.offer_arrival-requires-clause-arrives
offer_arrival-requires-clause-arrives c =
    told_arrives (two_at c.args.gate c.args.left c.args.right) c.in-Some.state c.in-Some.cost
    ((gate_at c.args.gate c.args.left).label + (gate_at c.args.gate c.args.right).label) c.label_after-label.result c.in-Some.ensures.answers
    (c.label_after-label.ensures.sum ∙ ap (λ sum. cut (sum + c.in-Some.cost)) c.label_after.ensures.sum
    ∙ cut_twice (gate_at c.args.gate c.args.left).label (gate_at c.args.gate c.args.right).label c.in-Some.cost)
    c.args.gate (way.Two c.args.gate.node c.args.left c.args.right)
    (two_places c.args.gate c.args.gate.job.now.ready c.requires.gate c.args.left c.args.right c.requires.pair).leads

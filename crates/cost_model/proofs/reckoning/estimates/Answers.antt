use Rattle.std.proofs.Common.{arith}
use Rattle.cost_model.proofs.EstimateLaws.{list-end, list-more, list-start, rule-more, rule-start}
use Rattle.cost_model.proofs.UsedLaws.{operation-distinct}
use Rattle.cost_model.proofs.reckoning.estimates.Goals as goal

pub loop-n-init : goal.loop-n-init
loop-n-init c = record {
  listed = list-start c.args.prices.now c.args.facts.now.plan.nodes;
  by_rule = rule-start c.args.facts.now c.args.prices.now _;
}

pub estimate_of-requires-clause-distinct : goal.estimate_of-requires-clause-distinct
estimate_of-requires-clause-distinct c =
    operation-distinct c.args.facts.now c.args.prices.now c.loop-n.n c.requires.priced (omega arith)

pub loop-n-preserved : goal.loop-n-preserved
loop-n-preserved c = record {
  listed = list-more c.args.prices.now c.args.facts.now.plan.nodes c.loop-n.n c.loop-n.rows c.estimate_of.result (omega arith) (omega arith)
      c.loop-n.invariant.listed c.estimate_of.ensures;
  by_rule = rule-more c.args.facts.now c.args.prices.now c.loop-n.n c.loop-n.rows c.estimate_of.result (omega arith) (omega arith)
      c.loop-n.invariant.listed c.loop-n.invariant.by_rule c.estimate_of.ensures;
}

pub returns-clause-rows : goal.returns-clause-rows
returns-clause-rows c =
    list-end c.args.prices.now c.args.facts.now.plan.nodes c.loop-n.n c.loop-n.rows (omega arith) c.loop-n.invariant.listed

pub returns-clause-node : goal.returns-clause-node
returns-clause-node c = λ n below. c.loop-n.invariant.by_rule.node n (omega (arith, below))

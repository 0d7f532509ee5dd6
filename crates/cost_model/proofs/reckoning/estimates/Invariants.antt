use Rattle.std.proofs.Common.{◌≡◌, take}
use Rattle.cost_model.specs.Estimates.{estimates_of, padded}
use Rattle.cost_model.proofs.EstimateLaws.{AreByRule}
use Rattle.cost_model.proofs.reckoning.estimates.Given as goal

abbrev pub invariant-loop-n : goal.invariant-loop-n
invariant-loop-n l = record {
  listed : l.rows ≡ padded (estimates_of l.prices (take l.n l.facts.plan.nodes));
  by_rule : AreByRule l.facts l.prices l.n l.rows;
}

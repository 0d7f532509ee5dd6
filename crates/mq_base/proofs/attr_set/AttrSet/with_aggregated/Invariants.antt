use Rattle.std.proofs.Common.{◌≡◌, drop}
use Rattle.base_laws.specs.Sets.{with_members}
use Rattle.mq_base.specs.Nodes.{aggregated}
use Rattle.mq_base.proofs.attr_set.AttrSet.with_aggregated.Given as goal

abbrev pub invariant-loop-a : goal.invariant-loop-a
invariant-loop-a l = with_members l.fn.self.0 (aggregated l.aggs) ≡ with_members l.set.0 (aggregated (drop l.a-index l.aggs))

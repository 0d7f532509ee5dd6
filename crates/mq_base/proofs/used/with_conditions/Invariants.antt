use Rattle.std.proofs.Common.{◌≡◌, drop}
use Rattle.std.specs.List.{flat_map}
use Rattle.base_laws.specs.Sets.{with_members}
use Rattle.mq_base.specs.Nodes.{cond_attributes}
use Rattle.mq_base.proofs.used.with_conditions.Given as goal

abbrev pub invariant-loop-cond : goal.invariant-loop-cond
invariant-loop-cond l =
    with_members l.fn.from.0 (flat_map cond_attributes l.conds) ≡ with_members l.set.0 (flat_map cond_attributes (drop l.cond-index l.conds))

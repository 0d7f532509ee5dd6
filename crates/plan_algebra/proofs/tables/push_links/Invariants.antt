use Rattle.std.proofs.Common.{◌≡◌, drop}
use Rattle.mq_base.specs.Nodes.{joins}
use Rattle.plan_algebra.specs.inside.Building.{over_kept}
use Rattle.plan_algebra.proofs.tables.push_links.Given as goal

abbrev pub invariant-loop-cond : goal.invariant-loop-cond
invariant-loop-cond l =
    over_kept (joins l.schema l.earlier l.t) l.conds l.initial.nodes
    ≡ over_kept (joins l.schema l.earlier l.t) (drop l.cond-index l.conds) l.nodes

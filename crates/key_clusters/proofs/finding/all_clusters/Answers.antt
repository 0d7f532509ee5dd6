use Rattle.std.proofs.Common.{◌∙◌, ap}
use Rattle.key_clusters.specs.Clusters.{least_of, set_of}
use Rattle.base_laws.proofs.FillLaws.{filled-end, filled-more}
use Rattle.key_clusters.proofs.finding.all_clusters.Goals as goal

pub loop-a-preserved : goal.loop-a-preserved
loop-a-preserved c =
    filled-more (λ a. least_of (set_of c.args.family.now a)) (record { 0 = 0 }) c.least_of.result c.loop-a.cluster c.loop-a.a c.from.result
    c.loop-a-test.true c.loop-a.invariant c.from.ensures (c.least_of.ensures ∙ ap least_of c.set_of.ensures)

pub returns : goal.returns
returns c =
    filled-end (λ a. least_of (set_of c.args.family.now a)) (record { 0 = 0 }) c.loop-a.cluster c.loop-a.a c.loop-a-test.false c.loop-a.auto.a-end
    c.loop-a.invariant

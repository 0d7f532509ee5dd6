use Rattle.std.proofs.Common.{◌∙◌, ap}
use Rattle.mq_base.specs.declared.table.Scheme.TheVariants.{Rnd}
use Rattle.key_clusters.specs.Clusters.{ceiling_of, set_of, smaller, wanted}
use Rattle.base_laws.proofs.FillLaws.{filled-end, filled-more}
use Rattle.key_clusters.proofs.finding.all_schemes.Goals as goal

pub loop-a-preserved : goal.loop-a-preserved
loop-a-preserved c =
    filled-more
    (λ a. smaller (wanted c.args.ordered c.args.equated (set_of c.args.family.now a)) (ceiling_of c.args.ceilings.now (set_of c.args.family.now a))) Rnd
    c.scheme_for.result c.loop-a.scheme c.loop-a.a c.from.result c.loop-a-test.true c.loop-a.invariant c.from.ensures
    (c.scheme_for.ensures ∙ ap (λ set. smaller (wanted c.args.ordered c.args.equated set) (ceiling_of c.args.ceilings.now set)) c.set_of.ensures)

pub returns : goal.returns
returns c =
    filled-end
    (λ a. smaller (wanted c.args.ordered c.args.equated (set_of c.args.family.now a)) (ceiling_of c.args.ceilings.now (set_of c.args.family.now a))) Rnd
    c.loop-a.scheme c.loop-a.a c.loop-a-test.false c.loop-a.auto.a-end c.loop-a.invariant

use Rattle.std.proofs.Common.{◌≡◌}
use Rattle.mq_base.specs.declared.table.Scheme.TheVariants.{Rnd}
use Rattle.key_clusters.specs.Clusters.{ceiling_of, set_of, smaller, wanted}
use Rattle.base_laws.proofs.FillLaws.{filled}
use Rattle.key_clusters.proofs.finding.all_schemes.Given as goal

abbrev pub invariant-loop-a : goal.invariant-loop-a
invariant-loop-a l =
    l.scheme ≡ filled (λ a. smaller (wanted l.ordered l.equated (set_of l.family a)) (ceiling_of l.ceilings (set_of l.family a))) Rnd l.a

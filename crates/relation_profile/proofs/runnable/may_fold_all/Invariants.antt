use Rattle.std.proofs.Common.{◌≡◌, drop}
use Rattle.std.specs.List.{list_all}
use Rattle.mq_base.specs.declared.ids.AttrId.{AttrId}
use Rattle.mq_base.specs.declared.query.Agg.{Agg}
use Rattle.relation_profile.specs.Runnable.{may_fold}
use Rattle.relation_profile.specs.inside.Seen.{showing}
use Rattle.relation_profile.proofs.runnable.may_fold_all.Given as goal

abbrev pub invariant-loop-a : goal.invariant-loop-a
invariant-loop-a l =
    list_all (λ (under : AttrId × Agg). may_fold l.schemes (showing l.seen) under.0 under.1) l.aggs
    ≡ list_all (λ (under : AttrId × Agg). may_fold l.schemes (showing l.seen) under.0 under.1) (drop l.a-index l.aggs)

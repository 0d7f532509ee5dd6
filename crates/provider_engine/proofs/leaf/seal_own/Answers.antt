use Rattle.std.proofs.Common.{Some, sym, subst}
use Rattle.extended_plan.specs.Job.{setting_of}
use Rattle.key_clusters.specs.Keys.{scheme_at}
use Rattle.column_table.specs.Columns.{shown}
use Rattle.provider_engine.specs.Opening.{listed_key}
use Rattle.provider_engine.specs.inside.Leaves.{IsRestAt}
use Rattle.provider_engine.proofs.LeafRows.{locked_by, own_values, own_within}
use Rattle.provider_engine.proofs.leaf.seal_own.Goals as goal

pub column_in-requires : goal.column_in-requires
column_in-requires c =
    own_within (setting_of c.args.job.now).policy.schema c.args.table.now c.args.a.0 c.args.at c.requires.form c.requires.own c.requires.there

pub seal_copy-requires : goal.seal_copy-requires
seal_copy-requires c =
    (own_values (setting_of c.args.job.now).policy.schema c.args.table.now c.args.a.0 c.args.at c.own_type-ty.result c.column_in.result.now
    c.requires.form c.requires.own c.requires.there c.own_type-ty.ensures c.column_in.ensures).cells

pub returns : goal.returns
returns c =
    subst (λ asked. IsRestAt (setting_of c.args.job.now) c.args.keys.now.keys c.args.place c.args.table.now c.args.a.0 asked
    (Some (shown c.in_ok-sealed.sealed)))
    (sym c.if-not-asked.false)
    (record {
      ty = c.own_type-ty.result;
      values = c.column_in.result.now;
      of = (own_values (setting_of c.args.job.now).policy.schema c.args.table.now c.args.a.0 c.args.at c.own_type-ty.result
          c.column_in.result.now c.requires.form c.requires.own c.requires.there c.own_type-ty.ensures c.column_in.ensures).of;
      locked = locked_by c.scheme_of-scheme.result (scheme_at c.args.job.now.clusters c.args.a.0) c.key_of.result.now
          (listed_key c.args.keys.now.keys c.args.a.0) c.args.place c.own_type-ty.result c.column_in.result.now
          (shown c.in_ok-sealed.sealed) c.scheme_of-scheme.ensures c.key_of.ensures c.in_ok-sealed.ensures;
    })

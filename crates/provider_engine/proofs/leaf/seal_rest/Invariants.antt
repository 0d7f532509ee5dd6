-- The columns of the attributes so far are sealed where that is asked, and the later ones are not there yet.
use Rattle.std.proofs.Common.{◌≡◌, None, replicate}
use Rattle.base_laws.specs.Sets.{has}
use Rattle.extended_plan.specs.Job.{setting_of}
use Rattle.column_table.specs.Columns.{shown_columns}
use Rattle.provider_engine.specs.inside.Leaves.{IsRestAt, place_of}
use Rattle.provider_engine.proofs.LeafRows.{IsFilledTo}
use Rattle.provider_engine.proofs.leaf.seal_rest.Given as goal

abbrev pub invariant-loop-a : goal.invariant-loop-a
invariant-loop-a l = record {
  place : l.at ≡ place_of (setting_of l.job).policy.schema l.table.table.0 l.a;
  filled : IsFilledTo (λ b before o. IsRestAt (setting_of l.job) l.keys.keys l.place l.table b (has l.sealed.0 b) o) (replicate 64 None)
      (shown_columns l.columns) l.a;
}

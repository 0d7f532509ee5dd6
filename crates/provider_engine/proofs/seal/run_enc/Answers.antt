use Rattle.std.proofs.Common.{◌<◌, ◌≡◌, ℕ, IsTrue, refl, sym, subst}
use Rattle.std.specs.List.{All}
use Rattle.base_laws.specs.Sets.{has}
use Rattle.extended_plan.specs.Job.{setting_of}
use Rattle.column_table.specs.Columns.{column_at, has_rows, is_sealed, shown_columns}
use Rattle.provider_engine.proofs.HeldLaws.{same_held, same_table, sealed_as_viewed}
use Rattle.provider_engine.proofs.SealRows.{table_sealed}
use Rattle.provider_engine.proofs.seal.run_enc.Goals as goal

pub invariant_of-table : goal.invariant_of-table
invariant_of-table c =
    record { few = c.args.input.table.few; filled = c.args.input.table.filled; counted = c.args.input.table.counted }

pub invariant_of-result-clause-filled : goal.invariant_of-result-clause-filled
invariant_of-result-clause-filled c =
    (table_sealed (setting_of c.args.job.now) c.args.keys.now.keys c.args.input c.args.a c.args.place c.state_encrypted-after.result
    c.scheme_of-scheme.result c.key_of.result.now (shown_columns c.seal_place.new.columns) c.requires.of_job c.requires.opened
    c.state_encrypted-after.ensures.small c.state_encrypted-after.ensures.state c.scheme_of-scheme.ensures c.key_of.ensures
    c.in-Ok.ensures.locked).filled

pub invariant_of-result-in-Ok : goal.invariant_of-result-in-Ok
invariant_of-result-in-Ok c =
    let s = setting_of c.args.job.now in
    let made = table_sealed s c.args.keys.now.keys c.args.input c.args.a c.args.place c.state_encrypted-after.result
    c.scheme_of-scheme.result c.key_of.result.now (shown_columns c.seal_place.new.columns) c.requires.of_job c.requires.opened
    c.state_encrypted-after.ensures.small c.state_encrypted-after.ensures.state c.scheme_of-scheme.ensures c.key_of.ensures
    c.in-Ok.ensures.locked in
    record {
      sealed = sealed_as_viewed s c.args.input.node.0 c.state_encrypted-after.result.view (shown_columns c.seal_place.new.columns)
          c.state_encrypted-after.ensures.stands.view made.column;
    }

pub invariant_of-result-in-Err : goal.invariant_of-result-in-Err
invariant_of-result-in-Err c = record {
  few = c.args.input.table.few;
  filled = subst (λ columns. All (λ x. IsTrue (has_rows c.args.input.table.rows x)) (shown_columns columns))
      (sym c.in-Err.ensures.unchanged) c.args.input.table.filled;
  counted = c.args.input.table.counted;
}

pub invariant_of-result-in-Err-2 : goal.invariant_of-result-in-Err-2
invariant_of-result-in-Err-2 c = record {
  sealed = subst (λ columns. (b : ℕ) → b < 64 → is_sealed (column_at (shown_columns columns) b) ≡ has c.args.input.state.view.enc.0 b)
      (sym c.in-Err.ensures.unchanged) c.args.input.sealed;
}

pub returns-in-Ok-clause-rows : goal.returns-in-Ok-clause-rows
returns-in-Ok-clause-rows c =
    (table_sealed (setting_of c.args.job.now) c.args.keys.now.keys c.args.input c.args.a c.args.place c.state_encrypted-after.result
    c.scheme_of-scheme.result c.key_of.result.now (shown_columns c.seal_place.new.columns) c.requires.of_job c.requires.opened
    c.state_encrypted-after.ensures.small c.state_encrypted-after.ensures.state c.scheme_of-scheme.ensures c.key_of.ensures
    c.in-Ok.ensures.locked).rows

pub returns-in-Ok-clause-of_job : goal.returns-in-Ok-clause-of_job
returns-in-Ok-clause-of_job c = record {
  node = c.requires.of_job.node;
  state = c.state_encrypted-after.ensures.stands;
  column = (table_sealed (setting_of c.args.job.now) c.args.keys.now.keys c.args.input c.args.a c.args.place c.state_encrypted-after.result
      c.scheme_of-scheme.result c.key_of.result.now (shown_columns c.seal_place.new.columns) c.requires.of_job c.requires.opened
      c.state_encrypted-after.ensures.small c.state_encrypted-after.ensures.state c.scheme_of-scheme.ensures c.key_of.ensures
      c.in-Ok.ensures.locked).column;
  counted = c.requires.of_job.counted;
}

pub returns-in-Ok-clause-opened : goal.returns-in-Ok-clause-opened
returns-in-Ok-clause-opened c =
    (table_sealed (setting_of c.args.job.now) c.args.keys.now.keys c.args.input c.args.a c.args.place c.state_encrypted-after.result
    c.scheme_of-scheme.result c.key_of.result.now (shown_columns c.seal_place.new.columns) c.requires.of_job c.requires.opened
    c.state_encrypted-after.ensures.small c.state_encrypted-after.ensures.state c.scheme_of-scheme.ensures c.key_of.ensures
    c.in-Ok.ensures.locked).opened

pub returns-in-Err-clause-back : goal.returns-in-Err-clause-back
returns-in-Err-clause-back c =
    same_held _ c.args.input refl refl (same_table _ c.args.input.table refl c.in-Err.ensures.unchanged refl)

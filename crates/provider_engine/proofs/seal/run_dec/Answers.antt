use Rattle.std.proofs.Common.{◌<◌, ◌≡◌, ℕ, IsTrue, refl, sym, subst}
use Rattle.std.specs.List.{All}
use Rattle.base_laws.specs.Sets.{has}
use Rattle.extended_plan.specs.Job.{setting_of}
use Rattle.column_table.specs.Columns.{column_at, has_rows, is_sealed, shown_columns}
use Rattle.provider_engine.proofs.HeldLaws.{same_held, same_table, sealed_as_viewed}
use Rattle.provider_engine.proofs.SealRows.{table_opened}
use Rattle.provider_engine.proofs.seal.run_dec.Goals as goal

pub invariant_of-table : goal.invariant_of-table
invariant_of-table c =
    record { few = c.args.input.table.few; filled = c.args.input.table.filled; counted = c.args.input.table.counted }

pub invariant_of-result-clause-filled : goal.invariant_of-result-clause-filled
invariant_of-result-clause-filled c =
    (table_opened (setting_of c.args.job.now) c.args.keys.now.keys c.args.input c.args.a c.state_decrypted-after.result c.key_of.result.now
    (shown_columns c.open_place.new.columns) c.requires.of_job c.requires.opened c.state_decrypted-after.ensures.small
    c.state_decrypted-after.ensures.state c.key_of.ensures c.in-Ok.ensures.opened).filled

pub invariant_of-result-in-Ok : goal.invariant_of-result-in-Ok
invariant_of-result-in-Ok c =
    let made = table_opened (setting_of c.args.job.now) c.args.keys.now.keys c.args.input c.args.a c.state_decrypted-after.result c.key_of.result.now
    (shown_columns c.open_place.new.columns) c.requires.of_job c.requires.opened c.state_decrypted-after.ensures.small
    c.state_decrypted-after.ensures.state c.key_of.ensures c.in-Ok.ensures.opened in
    record {
      sealed = sealed_as_viewed (setting_of c.args.job.now) c.args.input.node.0 c.state_decrypted-after.result.view
          (shown_columns c.open_place.new.columns) c.state_decrypted-after.ensures.stands.view made.column;
    }

pub invariant_of-result-in-Err : goal.invariant_of-result-in-Err
invariant_of-result-in-Err c = record {
  few = c.args.input.table.few;
  filled = subst (λ columns. All (λ x. IsTrue (has_rows c.args.input.table.rows x)) (shown_columns columns))
      (sym c.in-Err.ensures.unchanged) c.args.input.table.filled;
  counted = c.args.input.table.counted;
}

pub invariant_of-result-in-Err-2 : goal.invariant_of-result-in-Err-2
invariant_of-result-in-Err-2 c = record {
  sealed = subst (λ columns. (b : ℕ) → b < 64 → is_sealed (column_at (shown_columns columns) b) ≡ has c.args.input.state.view.enc.0 b)
      (sym c.in-Err.ensures.unchanged) c.args.input.sealed;
}

pub returns-in-Ok-clause-rows : goal.returns-in-Ok-clause-rows
returns-in-Ok-clause-rows c =
    (table_opened (setting_of c.args.job.now) c.args.keys.now.keys c.args.input c.args.a c.state_decrypted-after.result c.key_of.result.now
    (shown_columns c.open_place.new.columns) c.requires.of_job c.requires.opened c.state_decrypted-after.ensures.small
    c.state_decrypted-after.ensures.state c.key_of.ensures c.in-Ok.ensures.opened).rows

pub returns-in-Ok-clause-of_job : goal.returns-in-Ok-clause-of_job
returns-in-Ok-clause-of_job c = record {
  node = c.requires.of_job.node;
  state = c.state_decrypted-after.ensures.stands;
  column = (table_opened (setting_of c.args.job.now) c.args.keys.now.keys c.args.input c.args.a c.state_decrypted-after.result c.key_of.result.now
      (shown_columns c.open_place.new.columns) c.requires.of_job c.requires.opened c.state_decrypted-after.ensures.small
      c.state_decrypted-after.ensures.state c.key_of.ensures c.in-Ok.ensures.opened).column;
  counted = c.requires.of_job.counted;
}

pub returns-in-Ok-clause-opened : goal.returns-in-Ok-clause-opened
returns-in-Ok-clause-opened c =
    (table_opened (setting_of c.args.job.now) c.args.keys.now.keys c.args.input c.args.a c.state_decrypted-after.result c.key_of.result.now
    (shown_columns c.open_place.new.columns) c.requires.of_job c.requires.opened c.state_decrypted-after.ensures.small
    c.state_decrypted-after.ensures.state c.key_of.ensures c.in-Ok.ensures.opened).opened

pub returns-in-Err-clause-back : goal.returns-in-Err-clause-back
returns-in-Err-clause-back c =
    same_held _ c.args.input refl refl (same_table _ c.args.input.table refl c.in-Err.ensures.unchanged refl)

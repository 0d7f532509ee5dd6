use Rattle.std.proofs.Common.{◌∙◌, ap, bit_and, map, sym}
use Rattle.extended_plan.specs.declared.state.State.{State}
use Rattle.extended_plan.specs.Job.{setting_of}
use Rattle.extended_plan.proofs.JobLaws.{found_is}
use Rattle.column_table.specs.Columns.{shown_columns}
use Rattle.provider_engine.specs.Opening.{seals_of}
use Rattle.provider_engine.specs.Run.{plain_row, sealed_rows}
use Rattle.provider_engine.proofs.HeldLaws.{sealed_as_viewed}
use Rattle.provider_engine.proofs.LeafRows.{are_leaf, leaf_columns, leaf_filled, leaf_opened, leaf_rows, leaf_uncounted, own_common, own_less, used_is}
use Rattle.row_algebra.specs.Contents.{table_rows}
use Rattle.row_algebra.specs.Rows.{cut}
use Rattle.provider_engine.proofs.leaf.run_leaf.Goals as goal

pub seal_rest-requires-clause-own : goal.seal_rest-requires-clause-own
seal_rest-requires-clause-own c =
    own_common (setting_of c.args.job.now).policy.schema c.args.table.table.0 c.own_set-used.result.0 c.args.job.now.policy.now.rest.0
    c.intersection-sealed.result.0 c.own_set-used.ensures.own c.intersection-sealed.ensures

pub move_plain-columns-requires-clause-own : goal.move_plain-columns-requires-clause-own
move_plain-columns-requires-clause-own c =
    own_less (setting_of c.args.job.now).policy.schema c.args.table.table.0 c.own_set-used.result.0 c.args.job.now.policy.now.rest.0
    c.difference-plain.result.0 c.own_set-used.ensures.own c.difference-plain.ensures

pub invariant_of-result-clause-filled : goal.invariant_of-result-clause-filled
invariant_of-result-clause-filled c =
    let made = are_leaf (setting_of c.args.job.now) c.args.keys.now.keys c.args.place c.args.table c.own_set-used.result.0
    c.intersection-sealed.result.0 c.difference-plain.result.0 (shown_columns c.in-Ok.columns) (shown_columns c.move_plain-columns.result)
    c.requires.schema c.requires.form c.own_set-used.ensures.own c.intersection-sealed.ensures c.difference-plain.ensures
    c.move_plain-columns.ensures.places c.in-Ok.ensures c.move_plain-columns.ensures.moved in
    leaf_filled (setting_of c.args.job.now) c.args.keys.now.keys c.args.place c.args.table c.own_set-used.result.0
    (shown_columns c.move_plain-columns.result) made

pub invariant_of-result-in-Ok : goal.invariant_of-result-in-Ok
invariant_of-result-in-Ok c =
    let s = setting_of c.args.job.now in
    let made = are_leaf (setting_of c.args.job.now) c.args.keys.now.keys c.args.place c.args.table c.own_set-used.result.0
    c.intersection-sealed.result.0 c.difference-plain.result.0 (shown_columns c.in-Ok.columns) (shown_columns c.move_plain-columns.result)
    c.requires.schema c.requires.form c.own_set-used.ensures.own c.intersection-sealed.ensures c.difference-plain.ensures
    c.move_plain-columns.ensures.places c.in-Ok.ensures c.move_plain-columns.ensures.moved in
    let column = leaf_columns s c.args.keys.now.keys c.args.place c.args.table c.own_set-used.result.0 c.leaf_node-node.result.0
    c.leaf_at-state.result.view (shown_columns c.move_plain-columns.result) made
    (c.own_set-used.ensures.used ∙ sym (used_is s c.leaf_node-node.result.0 c.args.table.table c.args.job.now.ready c.leaf_node-node.ensures))
    (ap (λ (st : State). st.view.enc.0) c.leaf_at-state.ensures.answers
    ∙ ap (λ u. bit_and u c.args.job.now.policy.now.rest.0) (sym c.own_set-used.ensures.used)) in
    record {
      sealed = sealed_as_viewed s c.leaf_node-node.result.0 c.leaf_at-state.result.view (shown_columns c.move_plain-columns.result)
          c.leaf_at-state.ensures.stands.view column;
    }

pub returns-in-Ok-clause-rows : goal.returns-in-Ok-clause-rows
returns-in-Ok-clause-rows c =
    let s = setting_of c.args.job.now in
    let made = are_leaf (setting_of c.args.job.now) c.args.keys.now.keys c.args.place c.args.table c.own_set-used.result.0
    c.intersection-sealed.result.0 c.difference-plain.result.0 (shown_columns c.in-Ok.columns) (shown_columns c.move_plain-columns.result)
    c.requires.schema c.requires.form c.own_set-used.ensures.own c.intersection-sealed.ensures c.difference-plain.ensures
    c.move_plain-columns.ensures.places c.in-Ok.ensures c.move_plain-columns.ensures.moved in
    leaf_rows s c.args.keys.now.keys c.args.place c.args.table c.own_set-used.result.0 (shown_columns c.move_plain-columns.result) made
    ∙ ap (λ u. sealed_rows (seals_of c.args.job.now.clusters c.args.keys.now.keys) s.policy.rest.0 c.args.place
    (map (λ r. plain_row (cut u r)) (table_rows s.policy.schema c.args.table))) c.own_set-used.ensures.used

pub returns-in-Ok-clause-of_job : goal.returns-in-Ok-clause-of_job
returns-in-Ok-clause-of_job c =
    let s = setting_of c.args.job.now in
    let made = are_leaf (setting_of c.args.job.now) c.args.keys.now.keys c.args.place c.args.table c.own_set-used.result.0
    c.intersection-sealed.result.0 c.difference-plain.result.0 (shown_columns c.in-Ok.columns) (shown_columns c.move_plain-columns.result)
    c.requires.schema c.requires.form c.own_set-used.ensures.own c.intersection-sealed.ensures c.difference-plain.ensures
    c.move_plain-columns.ensures.places c.in-Ok.ensures c.move_plain-columns.ensures.moved in
    let column = leaf_columns s c.args.keys.now.keys c.args.place c.args.table c.own_set-used.result.0 c.leaf_node-node.result.0
    c.leaf_at-state.result.view (shown_columns c.move_plain-columns.result) made
    (c.own_set-used.ensures.used ∙ sym (used_is s c.leaf_node-node.result.0 c.args.table.table c.args.job.now.ready c.leaf_node-node.ensures))
    (ap (λ (st : State). st.view.enc.0) c.leaf_at-state.ensures.answers
    ∙ ap (λ u. bit_and u c.args.job.now.policy.now.rest.0) (sym c.own_set-used.ensures.used)) in
    let found = found_is s c.leaf_node-node.result.0 c.args.table.table c.args.job.now.ready c.leaf_node-node.ensures in
    record {
      node = found.below;
      state = c.leaf_at-state.ensures.stands;
      column = column;
      counted = sym (leaf_uncounted s c.leaf_node-node.result.0 c.args.table.table c.args.job.now.ready c.leaf_node-node.ensures);
    }

pub returns-in-Ok-clause-opened : goal.returns-in-Ok-clause-opened
returns-in-Ok-clause-opened c =
    let made = are_leaf (setting_of c.args.job.now) c.args.keys.now.keys c.args.place c.args.table c.own_set-used.result.0
    c.intersection-sealed.result.0 c.difference-plain.result.0 (shown_columns c.in-Ok.columns) (shown_columns c.move_plain-columns.result)
    c.requires.schema c.requires.form c.own_set-used.ensures.own c.intersection-sealed.ensures c.difference-plain.ensures
    c.move_plain-columns.ensures.places c.in-Ok.ensures c.move_plain-columns.ensures.moved in
    leaf_opened (setting_of c.args.job.now) c.args.keys.now.keys c.args.place c.args.table c.own_set-used.result.0 c.leaf_node-node.result.0
    (shown_columns c.move_plain-columns.result) made

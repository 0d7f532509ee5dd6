use Rattle.std.proofs.Common.{◌∙◌, arith, sym}
use Rattle.extended_plan.specs.Job.{setting_of}
use Rattle.provider_engine.proofs.LeafRows.{place_after_other, place_after_own, place_few, rest_other, rest_own}
use Rattle.provider_engine.proofs.leaf.seal_rest.Goals as goal
use Rattle.provider_engine.proofs.leaf.seal_rest.Goals.{then-owns+in_ok-columns, else-owns}

pub overflow_add-at : goal.overflow_add-at
overflow_add-at c =
    let few = place_few (setting_of c.args.job.now).policy.schema c.args.table.now.table.0 c.loop-a.a in
    omega (arith, few, c.loop-a.invariant.place, c.loop-a-test.true)

pub loop-a-preserved : goal.loop-a-preserved
loop-a-preserved c =
    let s = setting_of c.args.job.now in
    let t = c.args.table.now.table.0 in
    elim c.if-owns.branch [
      | then-owns+in_ok-columns w ↦ record {
        place = w.at-is ∙ place_after_own s.policy.schema t c.loop-a.a c.loop-a.at c.loop-a.invariant.place
            (sym c.owns.ensures ∙ w.if-owns.true);
        filled = rest_own s c.args.keys.now.keys c.args.place c.args.table.now c.args.sealed.0 c.loop-a.a w.from.result w.has.result
            c.loop-a.columns c.if-owns.columns w.in_ok-columns.field-0 w.columns-is w.from.ensures c.loop-a-test.true w.has.ensures
            w.in_ok-columns.ensures c.loop-a.invariant.filled;
      }
      | else-owns w ↦ record {
        place = w.at-is ∙ place_after_other s.policy.schema t c.loop-a.a c.loop-a.at c.loop-a.invariant.place
            (sym c.owns.ensures ∙ w.if-owns.false);
        filled = rest_other s c.args.keys.now.keys c.args.place c.args.table.now c.args.sealed.0 c.loop-a.a c.loop-a.columns
            c.if-owns.columns w.columns-is c.requires.own (sym c.owns.ensures ∙ w.if-owns.false) c.loop-a.invariant.filled;
      }
    ]

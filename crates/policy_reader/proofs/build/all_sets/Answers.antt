use Rattle.std.proofs.Common.{◌<◌, arith}
use Rattle.policy_reader.specs.Grants.{all_plain, all_sealed}
use Rattle.policy_reader.proofs.BuildLaws.{sixteen_to-more}
use Rattle.policy_reader.proofs.build.all_sets.Goals as goal

pub loop-s-preserved : goal.loop-s-preserved
loop-s-preserved c =
    let small : c.loop-s.s < 16 = omega arith in
    record {
      plain = sixteen_to-more (all_plain c.args.tables.now c.args.rules.now) c.args.subjects.now c.loop-s.s c.index-subjects-s.result
          c.loop-s.plain c.all_granted-granted.result.plain c.loop-s-test.true small c.loop-s.invariant.plain c.index-subjects-s.is
          c.all_granted-granted.ensures.plain;
      sealed = sixteen_to-more (all_sealed c.args.tables.now c.args.rules.now) c.args.subjects.now c.loop-s.s c.index-subjects-s.result
          c.loop-s.sealed c.all_granted-granted.result.sealed c.loop-s-test.true small c.loop-s.invariant.sealed c.index-subjects-s.is
          c.all_granted-granted.ensures.sealed;
    }

use Rattle.std.proofs.Common.{◌≡◌}
use Rattle.policy_reader.specs.Grants.{all_plain, all_sealed}
use Rattle.policy_reader.proofs.BuildLaws.{sixteen_to}
use Rattle.policy_reader.proofs.build.all_sets.Given as goal

abbrev pub invariant-loop-s : goal.invariant-loop-s
invariant-loop-s l = record {
  plain : l.plain ≡ sixteen_to (all_plain l.tables l.rules) l.subjects l.s;
  sealed : l.sealed ≡ sixteen_to (all_sealed l.tables l.rules) l.subjects l.s;
}

use Rattle.std.proofs.Common.{◌≡◌, ◌-◌, length}
use Rattle.base_laws.specs.Firsts.{first_at}
use Rattle.policy_reader.specs.Faults.{subject_fault}
use Rattle.policy_reader.proofs.check.check_subjects.Given as goal

abbrev pub invariant-loop-at : goal.invariant-loop-at
invariant-loop-at l =
    first_at (subject_fault l.subjects) 0 (length l.subjects) ≡ first_at (subject_fault l.subjects) l.at (length l.subjects - l.at)

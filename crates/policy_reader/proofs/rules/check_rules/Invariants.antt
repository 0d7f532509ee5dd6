use Rattle.std.proofs.Common.{◌≡◌, ◌-◌, length}
use Rattle.base_laws.specs.Firsts.{first_at}
use Rattle.policy_reader.specs.Rules.{rule_fault}
use Rattle.policy_reader.proofs.rules.check_rules.Given as goal

abbrev pub invariant-loop-at : goal.invariant-loop-at
invariant-loop-at l =
    first_at (rule_fault l.subjects l.tables l.rules) 0 (length l.rules) ≡ first_at (rule_fault l.subjects l.tables l.rules) l.at (length l.rules - l.at)

use Rattle.std.proofs.Common.{◌≡◌, ◌-◌, length}
use Rattle.base_laws.specs.Firsts.{first_at}
use Rattle.policy_reader.specs.Rules.{plain_fault}
use Rattle.base_laws.specs.Folds.{union_to}
use Rattle.policy_reader.specs.Grants.{named_at}
use Rattle.policy_reader.proofs.rules.check_plain.Given as goal

abbrev pub invariant-loop-place : goal.invariant-loop-place
invariant-loop-place l =
    (l.set.0 ≡ union_to (named_at 0 l.columns l.plain) l.place)
    × (first_at (plain_fault l.columns l.plain l.at) 0 (length l.plain) ≡ first_at (plain_fault l.columns l.plain l.at) l.place (length l.plain - l.place))

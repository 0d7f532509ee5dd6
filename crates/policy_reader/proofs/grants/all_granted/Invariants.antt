use Rattle.std.proofs.Common.{◌≡◌}
use Rattle.base_laws.specs.Folds.{union_to}
use Rattle.policy_reader.specs.Grants.{grant}
use Rattle.policy_reader.proofs.grants.all_granted.Given as goal

abbrev pub invariant-loop-t : goal.invariant-loop-t
invariant-loop-t l = record {
  plain : l.all.plain.0 ≡ union_to (λ t. (grant l.tables l.rules l.subject t).plain.0) l.t;
  sealed : l.all.sealed.0 ≡ union_to (λ t. (grant l.tables l.rules l.subject t).sealed.0) l.t;
}

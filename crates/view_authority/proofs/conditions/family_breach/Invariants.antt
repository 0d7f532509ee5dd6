use Rattle.std.proofs.Common.{◌≡◌, drop}
use Rattle.view_authority.specs.Breaches.{family_breach}
use Rattle.view_authority.proofs.conditions.family_breach.Given as goal

-- the sets that are left decide
abbrev pub invariant-loop-set : goal.invariant-loop-set
invariant-loop-set l = family_breach l.plain.0 l.sealed.0 l.family ≡ family_breach l.plain.0 l.sealed.0 (drop l.set-index l.family)

use Rattle.std.proofs.Common.{◌≡◌, drop, take}
use Rattle.plan_algebra.specs.inside.Building.{tables_after}
use Rattle.plan_algebra.proofs.tables.push_further.Given as goal

abbrev pub invariant-loop-at : goal.invariant-loop-at
invariant-loop-at l =
    tables_after l.schema l.q (take 1 l.tables) (drop 1 l.tables) l.initial.nodes
    ≡ tables_after l.schema l.q (take l.at l.tables) (drop l.at l.tables) l.nodes

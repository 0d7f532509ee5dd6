-- The groups are those of the kinds that occur among the cells so far, each with all its rows.
use Rattle.std.proofs.Common.{◌≡◌, map, take}
use Rattle.std.specs.Ordering.{is_eq}
use Rattle.base_laws.specs.Lists.{firsts}
use Rattle.sealed_column.specs.Rows.{rows_at}
use Rattle.sealed_column.proofs.rows.groups.Given as goal

abbrev pub invariant-loop-row : goal.invariant-loop-row
invariant-loop-row g l =
    l.groups.items ≡ map (λ c. rows_at g.C.Ord.cmp c 0 l.cells) (firsts (λ c d. is_eq (g.C.Ord.cmp c d)) (take l.row l.cells))

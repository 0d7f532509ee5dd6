use Rattle.std.proofs.Common.{◌≡◌, drop, map}
use Rattle.base_laws.specs.Firsts.{first_of}
use Rattle.sql_reader.specs.Syntax.{item_of}
use Rattle.query_bind.specs.Faults.{bare_item_fault}
use Rattle.query_bind.proofs.items.check_bare.Given as goal

abbrev pub invariant-loop-item : goal.invariant-loop-item
invariant-loop-item l =
    first_of (map bare_item_fault (map item_of l.items)) ≡ first_of (map bare_item_fault (map item_of (drop l.item-index l.items)))

use Rattle.std.proofs.Common.{◌≡◌, ◌++◌, map, take}
use Rattle.std.specs.Prelude.{All}
use Rattle.std.specs.String.{string_bytes}
use Rattle.query_print.specs.inside.PrintParts.{followed}
use Rattle.query_print.proofs.print.put_followed.Given as goal

abbrev pub invariant-items : goal.invariant-items
invariant-items g l = record {
  written : string_bytes l.out ≡ string_bytes l.fn.out ++ followed l.separator (map g.T.Part.spelled (take l.item-index l.items));
  range : All g.T.Part.in_range (take l.item-index l.items);
}

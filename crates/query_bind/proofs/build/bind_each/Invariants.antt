use Rattle.std.proofs.Common.{◌≡◌, ◌++◌, take}
use Rattle.std.specs.List.{All, flat_map}
use Rattle.query_bind.proofs.build.bind_each.Given as goal

abbrev pub invariant-loop-part : goal.invariant-loop-part
invariant-loop-part g l = record {
  bound : l.out ≡ l.fn.out ++ flat_map (g.T.Bind.bound l.schema) (take l.part-index l.parts);
  fits : All g.T.Bind.fits (take l.part-index l.parts);
}

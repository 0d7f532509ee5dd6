use Rattle.std.proofs.Common.{◌≡◌, map, take}
use Rattle.run_report.specs.Names.{item_names}
use Rattle.run_report.proofs.names.items.Given as goal

abbrev pub invariant-items : goal.invariant-items
invariant-items l = map (λ n. n.now) l.names.items ≡ item_names l.policy.schema (take l.selected-index l.items)

-- The tables so far were read, and come to the contents so far.
use Rattle.std.proofs.Common.{◌≡◌, map, take, Ok}
use Rattle.std.specs.List.{AllByRecursion}
use Rattle.mq_base.specs.declared.table.PlainTable.{PlainTable}
use Rattle.mq_base.specs.Table.{HasForm}
use Rattle.outside_io.specs.Outside.{Follows}
use Rattle.command_input.specs.declared.fault.FileRole.TheVariants as role
use Rattle.command_input.specs.Input.{tables_input}
use Rattle.command_input.specs.Loading.{Knows}
use Rattle.command_input.proofs.files.load_tables.Given as goal

abbrev pub invariant-tables : goal.invariant-tables
invariant-tables g l = record {
  known : Knows (g.H.Shelf.state l.initial.shelf).held (map (λ t. role.Table t) (take l.t-index l.tables))
      (λ lookup. tables_input l.policy (take l.t-index l.tables) lookup ≡ Ok l.contents.items);
  listed : map (λ (table : PlainTable). table.table) l.contents.items ≡ take l.t-index l.tables;
  form : AllByRecursion (HasForm l.policy.schema) l.contents.items;
  follows : Follows (g.H.Shelf.state l.initial.shelf) (g.H.Shelf.state l.shelf);
}

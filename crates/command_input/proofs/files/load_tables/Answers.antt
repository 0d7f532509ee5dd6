use Rattle.std.proofs.Common.{arith, ◌∷◌, []}
use Rattle.std.proofs.lemmas.Result.{err_from_is_err_and}
use Rattle.base_laws.proofs.FilterLaws.{each_append}
use Rattle.mq_base.specs.Table.{HasForm}
use Rattle.outside_io.proofs.Following.{Follows-trans}
use Rattle.command_input.proofs.Tables.{known_more, listed_more, stopped_at}
use Rattle.command_input.proofs.files.load_tables.Goals as goal

pub returns-in_err-load_table-clause-loads : goal.returns-in_err-load_table-clause-loads
returns-in_err-load_table-clause-loads g c =
    let p = err_from_is_err_and c.from_residual-in_err-load_table.result c.from_residual-in_err-load_table.ensures.1 in
    rw (p.1, p.2) (stopped_at (g.H.Shelf.state c.args.shelf.now) (g.H.Shelf.state c.tables.shelf) (g.H.Shelf.state c.load_table.new.shelf)
    c.args.policy.now c.args.tables.now c.tables.t-index _ c.tables.contents.items _ (omega arith) c.tables.invariant.follows
    c.load_table.ensures.follows c.tables.invariant.known c.in_err-load_table.ensures.loads)

pub tables-preserved : goal.tables-preserved
tables-preserved g c = record {
  known = rw c.in_ok-push.ensures.items
      (known_more (g.H.Shelf.state c.args.shelf.now) (g.H.Shelf.state c.tables.shelf) c.args.policy.now c.args.tables.now c.tables.t-index _
      c.tables.contents.items _ (omega arith) c.tables.invariant.follows c.tables.invariant.known c.in_ok-load_table.ensures.loads);
  listed = rw c.in_ok-push.ensures.items
      (listed_more c.args.tables.now c.tables.t-index _ c.tables.contents.items _ (omega arith)
      c.tables.invariant.listed c.in_ok-load_table.ensures.named);
  form = rw c.in_ok-push.ensures.items
      (each_append (HasForm c.args.policy.now.schema) c.tables.contents.items (_ ∷ []) c.tables.invariant.form (c.in_ok-load_table.ensures.form, tt));
  follows = Follows-trans c.tables.invariant.follows c.load_table.ensures.follows;
}

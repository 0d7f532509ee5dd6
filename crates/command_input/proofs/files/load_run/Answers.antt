use Rattle.std.proofs.Common.{List, map, Ok, Err, subst}
use Rattle.std.proofs.lemmas.Result.{err_from_is_err_and}
use Rattle.mq_base.specs.declared.ids.TableId.{TableId}
use Rattle.mq_base.specs.declared.table.PlainTable.{PlainTable}
use Rattle.command_input.specs.declared.fault.FileRole.TheVariants as role
use Rattle.command_input.specs.Input.{tables_input}
use Rattle.command_input.specs.Loading.{Loads}
use Rattle.command_input.specs.Commands.{run_in}
use Rattle.command_input.proofs.Tasks.{loaded_first, loaded_second, loaded_third, loaded_after, tables_stop, tables_all}
use Rattle.command_input.proofs.files.load_run.Goals as goal

pub returns-in_err-policy-clause-loaded : goal.returns-in_err-policy-clause-loaded
returns-in_err-policy-clause-loaded g c =
    let p = err_from_is_err_and c.from_residual.result c.from_residual.ensures.1 in
    rw (p.1, p.2) (loaded_first (run_in c.args.words.now) (g.H.Shelf.state c.args.shelf.now) (g.H.Shelf.state c.load_policy.new.shelf) _
    c.load_policy.ensures.follows c.in_err-policy.ensures.loads)

pub returns-in_err-prices-clause-loaded : goal.returns-in_err-prices-clause-loaded
returns-in_err-prices-clause-loaded g c =
    let p = err_from_is_err_and c.from_residual-in_err-prices.result c.from_residual-in_err-prices.ensures.1 in
    rw (p.1, p.2) (loaded_second (run_in c.args.words.now) (g.H.Shelf.state c.args.shelf.now) (g.H.Shelf.state c.load_policy.new.shelf)
    (g.H.Shelf.state c.load_prices.new.shelf) c.in_ok-policy.policy _
    c.load_policy.ensures.follows c.load_prices.ensures.follows c.in_ok-policy.ensures.loads c.in_err-prices.ensures.loads)

pub returns-in_err-query-clause-loaded : goal.returns-in_err-query-clause-loaded
returns-in_err-query-clause-loaded g c =
    let p = err_from_is_err_and c.from_residual-in_err-query.result c.from_residual-in_err-query.ensures.1 in
    rw (p.1, p.2) (loaded_third (run_in c.args.words.now) (g.H.Shelf.state c.args.shelf.now) (g.H.Shelf.state c.load_policy.new.shelf)
    (g.H.Shelf.state c.load_prices.new.shelf) (g.H.Shelf.state c.load_query.new.shelf) c.in_ok-policy.policy c.in_ok-prices.prices _
    c.load_policy.ensures.follows c.load_prices.ensures.follows c.load_query.ensures.follows
    c.in_ok-policy.ensures.loads c.in_ok-prices.ensures.loads c.in_err-query.ensures.loads)

pub returns-in_err-tables-clause-loaded : goal.returns-in_err-tables-clause-loaded
returns-in_err-tables-clause-loaded g c =
    let p = err_from_is_err_and c.from_residual-in_err-tables.result c.from_residual-in_err-tables.ensures.1 in
    rw (p.1, p.2) (loaded_after (run_in c.args.words.now) (g.H.Shelf.state c.args.shelf.now) (g.H.Shelf.state c.load_policy.new.shelf)
    (g.H.Shelf.state c.load_prices.new.shelf) (g.H.Shelf.state c.load_query.new.shelf) (g.H.Shelf.state c.load_tables.new.shelf)
    c.in_ok-policy.policy c.in_ok-prices.prices c.in_ok-query.query _
    c.load_policy.ensures.follows c.load_prices.ensures.follows c.load_query.ensures.follows c.load_tables.ensures.follows
    c.in_ok-query.ensures.bound.once c.in_ok-policy.ensures.loads c.in_ok-prices.ensures.loads c.in_ok-query.ensures.loads
    (tables_stop (run_in c.args.words.now) (g.H.Shelf.state c.load_query.new.shelf) (g.H.Shelf.state c.load_tables.new.shelf)
    c.in_ok-policy.policy c.in_ok-prices.prices c.in_ok-query.query _ c.load_tables.ensures.follows
    (subst (λ (ts : List TableId). Loads {X = List PlainTable} (g.H.Shelf.state c.load_query.new.shelf) (g.H.Shelf.state c.load_tables.new.shelf)
    (map (λ t. role.Table t) ts) (tables_input c.in_ok-policy.policy ts) (Err c.in_err-tables.field-0.0)) c.as_slice.ensures c.in_err-tables.ensures.loads)))

pub returns-clause-loaded : goal.returns-clause-loaded
returns-clause-loaded g c =
    loaded_after (run_in c.args.words.now) (g.H.Shelf.state c.args.shelf.now) (g.H.Shelf.state c.load_policy.new.shelf)
    (g.H.Shelf.state c.load_prices.new.shelf) (g.H.Shelf.state c.load_query.new.shelf) (g.H.Shelf.state c.load_tables.new.shelf)
    c.in_ok-policy.policy c.in_ok-prices.prices c.in_ok-query.query _
    c.load_policy.ensures.follows c.load_prices.ensures.follows c.load_query.ensures.follows c.load_tables.ensures.follows
    c.in_ok-query.ensures.bound.once c.in_ok-policy.ensures.loads c.in_ok-prices.ensures.loads c.in_ok-query.ensures.loads
    (tables_all (run_in c.args.words.now) (g.H.Shelf.state c.load_query.new.shelf) (g.H.Shelf.state c.load_tables.new.shelf)
    c.in_ok-policy.policy c.in_ok-prices.prices c.in_ok-query.query c.in_ok-tables.tables
    (subst (λ (ts : List TableId). Loads {X = List PlainTable} (g.H.Shelf.state c.load_query.new.shelf) (g.H.Shelf.state c.load_tables.new.shelf)
    (map (λ t. role.Table t) ts) (tables_input c.in_ok-policy.policy ts) (Ok c.in_ok-tables.tables)) c.as_slice.ensures c.in_ok-tables.ensures.loads))

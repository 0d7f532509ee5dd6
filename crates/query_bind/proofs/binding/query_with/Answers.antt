use Rattle.query_bind.proofs.OutcomeLaws.{numbers-fit, query-whole}
use Rattle.query_bind.proofs.binding.query_with.Goals as goal

pub returns-clause-bound : goal.returns-clause-bound
returns-clause-bound c =
    let items = rw (c.as_slice.ensures, c.new-items.ensures) at c.in_ok-bind_each.ensures.bound in
    let on = rw (c.as_slice-2.ensures, c.new-conds.ensures) at c.in_ok-bind_each-2.ensures.bound in
    let conds = rw (c.as_slice-3.ensures, on) at c.in_ok-bind_each-3.ensures.bound in
    let having = rw (c.as_slice-4.ensures, c.new-having.ensures) at c.in_ok-bind_each-4.ensures.bound in
    let grouped = rw c.as_slice-5.ensures at c.has_group.ensures in
    let count = rw (c.as_slice-6.ensures, c.as_slice-7.ensures) at c.has_count.ensures in
    query-whole c.args.schema.now c.args.raw.now c.bind_each.new.out c.args.tables c.bind_each-3.new.out c.has_group.result c.args.group
    c.args.aggs c.has_count.result c.bind_each-4.new.out items c.requires.tables conds grouped c.requires.group c.requires.aggs count having

pub returns-clause-fits : goal.returns-clause-fits
returns-clause-fits c =
    numbers-fit c.args.raw.now (rw c.as_slice-2.ensures at c.in_ok-bind_each-2.ensures.fits)
    (rw c.as_slice-3.ensures at c.in_ok-bind_each-3.ensures.fits) (rw c.as_slice-4.ensures at c.in_ok-bind_each-4.ensures.fits)

use Rattle.std.proofs.lemmas.Result.{err_from_is_err_and}
use Rattle.command_input.specs.declared.fault.FileRole.TheVariants as role
use Rattle.command_input.specs.Input.{query_input, query_read}
use Rattle.command_input.proofs.Knowing.{loads_judged, loads_failed}
use Rattle.command_input.proofs.files.load_query.Goals as goal

pub returns-in_err-bytes-clause-loads : goal.returns-in_err-bytes-clause-loads
unfolding query_input
returns-in_err-bytes-clause-loads g c =
    let p = err_from_is_err_and c.from_residual.result c.from_residual.ensures.1 in
    rw (p.1, p.2) (loads_failed (g.H.Shelf.state c.args.shelf.now) (g.H.Shelf.state c.read_file.new.shelf) role.Query c.args.name.now
    (query_read c.args.policy.now.schema) _ c.in_err-bytes.ensures.stops)

pub returns-clause-loads : goal.returns-clause-loads
unfolding query_input
returns-clause-loads g c =
    loads_judged (g.H.Shelf.state c.args.shelf.now) (g.H.Shelf.state c.read_file.new.shelf) role.Query c.args.name.now
    (query_read c.args.policy.now.schema) c.in_ok-bytes.bytes.items _ c.in_ok-bytes.ensures.content c.in_ok-bytes.ensures.within
    (rw c.as_slice.ensures.value at c.read_bound.ensures.read)

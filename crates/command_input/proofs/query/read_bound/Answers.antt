use Rattle.command_input.proofs.Judging.{no_text_stops, text_judges}
use Rattle.command_input.proofs.query.read_bound.Goals as goal

pub returns-in-Err-clause-read : goal.returns-in-Err-clause-read
returns-in-Err-clause-read c =
    let told = rw (c.valid_up_to.ensures, c.in-Err.ensures.valid_len) at c.refused.ensures in
    rw told (no_text_stops c.args.schema.now c.args.bytes.now c.in-Err.ensures.cases.0)

pub returns-clause-read : goal.returns-clause-read
returns-clause-read c =
    text_judges c.args.schema.now c.args.bytes.now c.in-Ok.text.now c.bound_query.result
    c.in-Ok.ensures.cases.1 c.in-Ok.ensures.cases.0 c.bound_query.ensures.read

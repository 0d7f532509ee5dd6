use Rattle.std.proofs.Common.{◌≡◌, Ok, sym, ◌∙◌}
use Rattle.query_bind.specs.Codes as bind
use Rattle.sql_reader.specs.Codes.{query_refusal}
use Rattle.sql_reader.specs.Outcome.{query_outcome}
use Rattle.sql_reader.specs.Syntax.{query_of}
use Rattle.command_input.specs.declared.fault.FileRole.TheVariants as role
use Rattle.command_input.specs.Input.{text_bound}
use Rattle.command_input.proofs.Judging.{answer_judges, part_reads}
use Rattle.command_input.proofs.Numbers.{bind_numbered}
use Rattle.command_input.proofs.query.bound_query.Goals as goal

pub returns-clause-read : goal.returns-clause-read
unfolding text_bound
returns-clause-read c =
    let read : query_outcome c.args.text.now ≡ Ok (query_of c.in_ok-raw.raw) =
    part_reads query_of role.Query query_refusal c.read_query.result (query_outcome c.args.text.now) c.in_ok-raw.raw
    c.read_query.ensures.read (sym c.judge.ensures ∙ c.in_ok-raw.was) in
    rw (c.judge-2.ensures, read) (answer_judges role.Query bind.refusal_of bind_numbered c.bind.result _ c.bind.ensures.read)

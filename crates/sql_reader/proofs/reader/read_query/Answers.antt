use Rattle.std.proofs.lemmas.Result.{err_from_is_err_and}
use Rattle.sql_reader.proofs.OutcomeLaws.{lexical-reads, lexical-grammar, tokens-reads, tokens-grammar}
use Rattle.sql_reader.proofs.TokenLaws.{tokens-whole}
use Rattle.sql_reader.proofs.WritableLaws.{answer-writable}
use Rattle.sql_reader.proofs.reader.read_query.Goals as goal

pub returns-in_err-found-clause-read : goal.returns-in_err-found-clause-read
returns-in_err-found-clause-read c =
    let p = err_from_is_err_and c.from_residual.result c.from_residual.ensures.1 in
    rw p.1 (lexical-reads c.args.text.now _ _ p.2 c.in_err-found.ensures.lexed)

pub returns-in_err-found-clause-grammar : goal.returns-in_err-found-clause-grammar
returns-in_err-found-clause-grammar c =
    let p = err_from_is_err_and c.from_residual.result c.from_residual.ensures.1 in
    rw p.1 (lexical-grammar c.args.text.now _ _ p.2 c.in_err-found.ensures.lexed)

pub returns-clause-read : goal.returns-clause-read
returns-clause-read c =
    tokens-reads c.args.text.now _ c.read_tokens.result c.in_ok-found.ensures.lexed (rw c.as_slice.ensures at c.read_tokens.ensures)

pub returns-clause-grammar : goal.returns-clause-grammar
returns-clause-grammar c =
    tokens-grammar c.args.text.now _ c.read_tokens.result c.in_ok-found.ensures.lexed (rw c.as_slice.ensures at c.read_tokens.ensures)

pub returns-clause-writable : goal.returns-clause-writable
returns-clause-writable c =
    answer-writable c.args.text.now c.in_ok-found.found c.read_tokens.result c.in_ok-found.ensures.lexed
    (tokens-whole c.args.text.now c.in_ok-found.found c.in_ok-found.ensures.sliced c.in_ok-found.ensures.longest) (returns-clause-grammar c)

use Rattle.sql_reader.specs.Syntax.{query_of}
use Rattle.query_bind.proofs.OutcomeLaws.{is_bound}
use Rattle.query_bind.proofs.binding.bind.Goals as goal

pub returns-clause-bound : goal.returns-clause-bound
returns-clause-bound c =
    is_bound c.args.schema.now (query_of c.args.raw.now) c.bound.result c.requires.schema c.requires.written c.bound.ensures.fault
    c.bound.ensures.bound c.bound.ensures.fits

use Rattle.query_print.proofs.PrintLaws.{source_in_range}
use Rattle.query_print.proofs.print.RawSourcePart.put.Goals as goal

pub returns-clause-range : goal.returns-clause-range
returns-clause-range c = source_in_range c.args.self.now (rw c.as_slice.ensures at c.in_ok-put_joined.ensures.range)

use Rattle.std.proofs.Common.{is_ok, ap, arith}
use Rattle.std.proofs.ResultArms.{chosen}
use Rattle.query_print.proofs.PrintLaws.{put_tables, tail_whole}
use Rattle.query_print.proofs.print.put_sources.Goals as goal

pub returns-clause-written : goal.returns-clause-written
returns-clause-written c =
    put_tables c.args.sources.now c.first-item.result _ _ _ (omega arith) c.first-item.is
    (chosen _ _ _ _ c.push_str.ensures.bytes (ap is_ok c.in_ok-push_str.was)) c.in_ok-put_followed.ensures.written

pub returns-clause-range : goal.returns-clause-range
returns-clause-range c = rw (tail_whole c.args.sources.now) at c.in_ok-put_followed.ensures.range

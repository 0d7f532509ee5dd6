use Rattle.std.proofs.Common.{arith}
use Rattle.query_print.proofs.PrintLaws.{put_first}
use Rattle.query_print.proofs.print.put_separated.Goals as goal

pub returns-clause-written : goal.returns-clause-written
returns-clause-written g c =
    put_first g.T.Part.spelled c.args.separator.now c.args.items.now c.first-item.result _ _ _ (omega arith) c.first-item.is
    c.in_ok-put.ensures.written c.in_ok-put_followed.ensures.written

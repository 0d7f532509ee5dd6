use Rattle.std.proofs.Common.{is_ok, ap, arith, false-eqb}
use Rattle.std.proofs.ResultArms.{chosen}
use Rattle.query_print.proofs.PrintLaws.{put_on}
use Rattle.query_print.proofs.print.put_joined.Goals as goal

pub returns-clause-written : goal.returns-clause-written
returns-clause-written c =
    put_on c.args.table.now c.args.on.now _ _ _ _ (omega (arith, false-eqb _ 0 c.if-is_empty.ensures))
    (chosen _ _ _ _ c.push_str-2.ensures.bytes (ap is_ok c.in_ok-push_str-3.was))
    (chosen _ _ _ _ c.push_str-3.ensures.bytes (ap is_ok c.in_ok-push_str-4.was)) c.in_ok-put_clause.ensures.written

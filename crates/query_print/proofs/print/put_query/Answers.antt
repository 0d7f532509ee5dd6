use Rattle.std.proofs.Common.{is_ok, ap}
use Rattle.std.proofs.ResultArms.{chosen}
use Rattle.query_print.proofs.PrintLaws.{put_whole, query_in_range}
use Rattle.query_print.proofs.print.put_query.Goals as goal

pub returns-clause-written : goal.returns-clause-written
returns-clause-written c =
    put_whole c.args.q.now c.as_slice.result.now c.as_slice-2.result.now c.as_slice-3.result.now c.as_slice-4.result.now c.as_slice-5.result.now
    _ _ _ _ _ _ _ _ c.as_slice.ensures c.as_slice-2.ensures c.as_slice-3.ensures c.as_slice-4.ensures c.as_slice-5.ensures
    (chosen _ _ _ _ c.push_str.ensures.bytes (ap is_ok c.in_ok-push_str.was)) c.in_ok-put_separated.ensures.written
    (chosen _ _ _ _ c.push_str-2.ensures.bytes (ap is_ok c.in_ok-push_str-2.was)) c.in_ok-put_sources.ensures.written
    c.in_ok-put_clause.ensures.written c.in_ok-put_clause-2.ensures.written c.in_ok-put_clause-3.ensures.written

pub returns-clause-range : goal.returns-clause-range
returns-clause-range c =
    query_in_range c.args.q.now c.as_slice-2.result.now c.as_slice-3.result.now c.as_slice-5.result.now
    c.as_slice-2.ensures c.as_slice-3.ensures c.as_slice-5.ensures c.requires
    c.in_ok-put_sources.ensures.range c.in_ok-put_clause.ensures.range c.in_ok-put_clause-3.ensures.range

use Rattle.std.proofs.Common.{is_ok, ap, arith}
use Rattle.std.proofs.lemmas.List.Elements.{All-more}
use Rattle.std.proofs.ResultArms.{chosen}
use Rattle.query_print.proofs.PrintLaws.{put_more}
use Rattle.query_print.proofs.print.put_followed.Goals as goal

pub items-preserved : goal.items-preserved
items-preserved g c = record {
  written = put_more g.T.Part.spelled c.args.separator.now c.args.items.now c.items.item-index c.item-item.result _ _ _ _ (omega arith)
      c.item-item.is c.items.invariant.written (chosen _ _ _ _ c.push_str.ensures.bytes (ap is_ok c.in_ok-push_str.was)) c.in_ok-put.ensures.written;
  range = All-more g.T.Part.in_range c.args.items.now c.items.item-index c.item-item.result (omega arith) c.items.invariant.range
      (rw (← c.item-item.is) (c.in_ok-put.ensures.range));
}

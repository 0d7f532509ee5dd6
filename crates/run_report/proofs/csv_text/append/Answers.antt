use Rattle.std.proofs.Common.{◌≡◌, map, take, arith}
use Rattle.std.proofs.lemmas.List.{append-nil, take_all}
use Rattle.run_report.proofs.Rows.{csv_text_more, written_is}
use Rattle.run_report.proofs.csv_text.append.Goals as goal

pub rows-init : goal.rows-init
rows-init c = rw append-nil (rw c.in_ok-record.ensures at (c.in_ok-put.ensures c.args.text.items c.open-writer.ensures))

pub rows-preserved : goal.rows-preserved
rows-preserved c =
    rw (csv_text_more c.args.text.items (map (λ n. n.now) c.args.names.now) c.args.rows.now c.rows.row-index
    c.row-item.result (omega arith) c.row-item.is)
    (rw (c.in_ok-fill.ensures, c.as_slice.ensures) at (c.in_ok-put-2.ensures _ c.rows.invariant))

pub returns : goal.returns
returns c =
    let all : take c.rows.row-index c.args.rows.now ≡ c.args.rows.now = take_all c.rows.row-index c.args.rows.now (omega arith) in
    written_is c.rows.writer _ c.close.result (rw all at c.rows.invariant) c.close.ensures

use Rattle.std.proofs.Common.{ap, arith, length}
use Rattle.assign_table.specs.inside.Arrivals.{IsHolderListed}
use Rattle.assign_table.specs.inside.Sheet.{sheet_of}
use Rattle.assign_table.proofs.ArriveLaws.{open_then, places_more}
use Rattle.assign_table.proofs.ClassLaws.{holder_still, pairs_arrived}
use Rattle.assign_table.proofs.pairs.arrive_pairs.Goals as goal

pub holders-preserved : goal.holders-preserved
holders-preserved c = record {
  opened =
      open_then c.args.gate c.args.room (sheet_of c.args.table.now) (sheet_of c.holders.table) (sheet_of c.pair_holder.new.table)
      c.holders.invariant.opened c.in_ok-pair_holder.ensures.opened;
  listed =
      places_more (λ holder. IsHolderListed c.args.gate c.args.left c.args.right holder (sheet_of c.pair_holder.new.table).cells) 0 c.holders.holder
      (λ holder inside.
      holder_still c.args.gate c.args.room (sheet_of c.holders.table) (sheet_of c.pair_holder.new.table) c.in_ok-pair_holder.ensures.opened
      c.args.left c.args.right holder (c.holders.invariant.listed holder inside))
      c.in_ok-pair_holder.ensures.listed;
}

pub returns-clause-arrived : goal.returns-clause-arrived
returns-clause-arrived c =
    pairs_arrived c.args.gate c.args.gate.job.now.ready c.requires.gate c.args.left c.args.right c.requires.kind (sheet_of c.holders.table).cells
    (λ holder below.
    c.holders.invariant.listed holder
    (record { low = omega arith; high = omega (arith, below, c.holders-test.false, ap length c.as_slice-subjects.ensures) }))

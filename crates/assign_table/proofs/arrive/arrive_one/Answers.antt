use Rattle.assign_table.specs.inside.Arrivals.{IsOneListed}
use Rattle.assign_table.specs.inside.Blocks.{start_of}
use Rattle.assign_table.specs.inside.Sheet.{sheet_of}
use Rattle.assign_table.proofs.ArriveLaws.{one_still, open_then, places_more}
use Rattle.assign_table.proofs.arrive.arrive_one.Goals as goal

pub places-preserved : goal.places-preserved
places-preserved c = record {
  opened =
      open_then c.args.gate c.args.room (sheet_of c.args.table.now) (sheet_of c.places.table) (sheet_of c.offer_one.new.table)
      c.places.invariant.opened c.in_ok-offer_one.ensures.opened;
  listed =
      places_more (IsOneListed c.args.gate (sheet_of c.offer_one.new.table).cells) (start_of c.args.gate.starts.now c.args.operand.0) c.places.at
      (λ w inside.
      one_still c.args.gate c.args.room (sheet_of c.places.table) (sheet_of c.offer_one.new.table) c.in_ok-offer_one.ensures.opened w
      (c.places.invariant.listed w inside))
      c.in_ok-offer_one.ensures.listed;
}

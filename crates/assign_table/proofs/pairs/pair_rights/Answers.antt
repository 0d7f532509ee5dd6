use Rattle.std.proofs.Common.{get_or, arith}
use Rattle.assign_table.specs.inside.Arrivals.{IsPairListed}
use Rattle.assign_table.specs.inside.Sheet.{sheet_of}
use Rattle.assign_table.proofs.ArriveLaws.{among_all, among_here, among_more, open_then, pair_still, two_places}
use Rattle.assign_table.proofs.pairs.pair_rights.Goals as goal

pub offer_pair-requires-clause-left : goal.offer_pair-requires-clause-left
offer_pair-requires-clause-left c =
    (two_places c.args.gate c.args.gate.job.now.ready c.requires.gate c.args.left (get_or c.args.rights.now c.rights.right-index 0)
    (c.requires.pairs _ (among_here c.args.rights.now c.rights.right-index c.rights-test.true))).low

pub offer_pair-requires-clause-right : goal.offer_pair-requires-clause-right
offer_pair-requires-clause-right c =
    (two_places c.args.gate c.args.gate.job.now.ready c.requires.gate c.args.left (get_or c.args.rights.now c.rights.right-index 0)
    (c.requires.pairs _ (among_here c.args.rights.now c.rights.right-index c.rights-test.true))).low_too

pub rights-preserved : goal.rights-preserved
rights-preserved c = record {
  opened =
      open_then c.args.gate c.args.room (sheet_of c.args.table.now) (sheet_of c.rights.table) (sheet_of c.offer_pair.new.table)
      c.rights.invariant.opened c.in_ok-offer_pair.ensures.opened;
  listed =
      among_more (IsPairListed c.args.gate (sheet_of c.offer_pair.new.table).cells c.args.left) c.args.rights.now c.rights.right-index
      (λ w among.
      pair_still c.args.gate c.args.room (sheet_of c.rights.table) (sheet_of c.offer_pair.new.table) c.in_ok-offer_pair.ensures.opened c.args.left w
      (c.rights.invariant.listed w among))
      c.in_ok-offer_pair.ensures.listed;
}

pub returns-clause-listed : goal.returns-clause-listed
returns-clause-listed c =
    among_all (IsPairListed c.args.gate (sheet_of c.rights.table).cells c.args.left) c.args.rights.now c.rights.right-index (omega arith)
    c.rights.invariant.listed

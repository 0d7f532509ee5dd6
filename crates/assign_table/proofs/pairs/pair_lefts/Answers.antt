use Rattle.std.proofs.Common.{ℕ, arith}
use Rattle.std.specs.List.{Contains}
use Rattle.assign_table.specs.inside.Arrivals.{IsPairListed}
use Rattle.assign_table.specs.inside.Sheet.{sheet_of}
use Rattle.assign_table.proofs.ArriveLaws.{among_all, among_more, open_then, pair_still}
use Rattle.assign_table.proofs.pairs.pair_lefts.Goals as goal

pub lefts-preserved : goal.lefts-preserved
lefts-preserved c = record {
  opened =
      open_then c.args.gate c.args.room (sheet_of c.args.table.now) (sheet_of c.lefts.table) (sheet_of c.pair_rights.new.table)
      c.lefts.invariant.opened c.in_ok-pair_rights.ensures.opened;
  listed =
      among_more (λ v. (w : ℕ) → Contains c.args.rights.now w → IsPairListed c.args.gate (sheet_of c.pair_rights.new.table).cells v w)
      c.args.lefts.now c.lefts.left-index
      (λ v among w has.
      pair_still c.args.gate c.args.room (sheet_of c.lefts.table) (sheet_of c.pair_rights.new.table) c.in_ok-pair_rights.ensures.opened v w
      (c.lefts.invariant.listed v among w has))
      c.in_ok-pair_rights.ensures.listed;
}

pub returns-clause-listed : goal.returns-clause-listed
returns-clause-listed c = λ v w has.
    among_all (λ v. (w : ℕ) → Contains c.args.rights.now w → IsPairListed c.args.gate (sheet_of c.lefts.table).cells v w)
    c.args.lefts.now c.lefts.left-index (omega arith) c.lefts.invariant.listed v has w

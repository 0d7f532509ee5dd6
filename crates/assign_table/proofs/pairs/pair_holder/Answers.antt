use Rattle.std.proofs.Common.{false}
use Rattle.assign_table.specs.inside.Sheet.{sheet_of}
use Rattle.assign_table.proofs.ClassLaws.{class_still}
use Rattle.assign_table.proofs.GainLaws.{on-both}
use Rattle.assign_table.proofs.pairs.pair_holder.Goals as goal

pub returns-clause-listed : goal.returns-clause-listed
returns-clause-listed c =
    on-both c.pair_class-2.result
    (λ later listed. record {
      plain =
          class_still c.args.gate c.args.room (sheet_of c.pair_class.new.table) (sheet_of c.pair_class-2.new.table) later c.args.left c.args.right
          c.args.holder.0 false c.in_ok-pair_class.ensures.listed;
      sealed = listed;
    })
    c.pair_class-2.ensures.opened c.pair_class-2.ensures.listed

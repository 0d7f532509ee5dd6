use Rattle.std.proofs.Common.{◌∙◌, ◌++◌, ap}
use Rattle.std.proofs.lemmas.List.{take_all}
use Rattle.sealed_column.specs.Rows.{paired}
use Rattle.sealed_column.proofs.RowLaws.{paired_more}
use Rattle.sealed_column.proofs.rows.add_pairs.Goals as goal

pub loop-other-preserved : goal.loop-other-preserved
loop-other-preserved c =
    paired_more c.args.row c.args.others.now c.loop-other.other-index c.args.pairs.now.items c.loop-other.pairs.items c.push.new.self.items
    c.loop-other-test.true c.loop-other.invariant c.in_ok-push.ensures.items

pub returns : goal.returns
returns c =
    c.loop-other.invariant
    ∙ ap (λ others. c.args.pairs.now.items ++ paired c.args.row others)
    (take_all c.loop-other.other-index c.args.others.now c.loop-other-test.false)

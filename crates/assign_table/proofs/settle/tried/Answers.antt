use Rattle.base_laws.proofs.CutLaws.{within-common}
use Rattle.assign_table.proofs.CrossLaws.{tried-all, tried-before}
use Rattle.assign_table.proofs.settle.tried.Goals as goal

pub returns-in-Some-clause-each : goal.returns-in-Some-clause-each
returns-in-Some-clause-each c = λ a crosses tried.
    rw (c.intersection.ensures, c.of.ensures, c.crossable-all.ensures)
    (tried-all _ c.in-Some.a.0 a crosses (tried-before c.args.from.now.way c.in-Some.a a c.in-Some.ensures tried))

pub returns-in-Some-clause-within : goal.returns-in-Some-clause-within
returns-in-Some-clause-within c = rw (c.intersection.ensures, c.crossable-all.ensures) (within-common _ _)

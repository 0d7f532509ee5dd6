use Rattle.std.proofs.Common.{◌∙◌}
use Rattle.sealed_column.proofs.LockLaws.{opened_same, opened_typed}
use Rattle.sealed_column.proofs.lock.«Column+Locked+S».unlock.Goals as goal

pub invariant_of-result : goal.invariant_of-result
invariant_of-result g c = record {
  sized = rw c.of.ensures
      (opened_typed c.SCHEME.result c.args.key.now c.args.self.ty c.cells.result.now c.in-Ok.values.items c.in-Ok.ensures);
}

pub returns-in-Ok-clause-values : goal.returns-in-Ok-clause-values
returns-in-Ok-clause-values g c =
    λ values opens.
    c.of.ensures
    ∙ opened_same g.S.SchemeKind.SCHEME c.args.key.now c.args.self.ty c.args.self.cells c.in-Ok.values.items values
    (rw (c.SCHEME.ensures, c.cells.ensures) at c.in-Ok.ensures) opens

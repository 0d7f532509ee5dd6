use Rattle.std.proofs.Common.{◌≡◌, length, ap, arith, ◌∙◌}
use Rattle.sealed_column.specs.Seal.{sealed_from}
use Rattle.sealed_column.proofs.LockLaws.{all_tested, seals_open, seals_sized}
use Rattle.sealed_column.proofs.lock.«Column+Clear».lock.Goals as goal

pub invariant_of-result : goal.invariant_of-result
invariant_of-result g c =
    let cells : c.of.result ≡ sealed_from g.S.SchemeKind.SCHEME c.args.key.now c.args.step 0 c.args.self.cells =
    c.of.ensures ∙ rw (c.SCHEME.ensures, c.cells.ensures) at c.in-Ok.ensures.sealed in
    record {
      sized = rw cells
          (all_tested g.S.SchemeKind.SCHEME c.args.self.ty _
          (seals_sized g.S.SchemeKind.SCHEME c.args.key.now c.args.step 0 c.args.self.ty c.args.self.cells c.args.self.sized));
    }

pub returns-in-Ok-clause-opens : goal.returns-in-Ok-clause-opens
returns-in-Ok-clause-opens g c =
    let cells : c.of.result ≡ sealed_from g.S.SchemeKind.SCHEME c.args.key.now c.args.step 0 c.args.self.cells =
    c.of.ensures ∙ rw (c.SCHEME.ensures, c.cells.ensures) at c.in-Ok.ensures.sealed in
    rw cells
    (seals_open g.S.SchemeKind.SCHEME c.args.key.now c.args.step 0 c.args.self.ty c.args.self.cells c.ranges.step.fits
    (omega (arith, c.cells.type_inv.0, ap length c.cells.ensures)) c.args.self.sized
    (rw c.cells.ensures at c.in-Ok.ensures.sealable))

use Rattle.std.proofs.Common.{sym, ◌∙◌, ap, arith}
use Rattle.base_laws.specs.Sets.{without}
use Rattle.base_laws.proofs.MemberLaws.{without-lt}
use Rattle.cost_model.specs.Costs.{basis_of}
use Rattle.cost_model.proofs.CostLaws.{cells-end, cells-few, cells-fit, cells-more}
use Rattle.cost_model.proofs.costs.cells.Goals as goal

pub bytes_of-total-requires : goal.bytes_of-total-requires
bytes_of-total-requires c = c.in-Some.ensures.small

pub of-requires : goal.of-requires
of-requires c = c.in-Some.ensures.small

pub overflow_add-total : goal.overflow_add-total
overflow_add-total c =
    omega (
      arith,
      cells-fit (basis_of c.args.base.now) c.args.view.now c.args.set.0 c.loop-a.total c.bytes_of-total.result c.loop-a.left.0 c.in-Some.a.0
          c.loop-a.invariant c.in-Some.ensures.small c.in-Some.ensures.found c.bytes_of-total.ensures,
    )

pub loop-a-smaller : goal.loop-a-smaller
loop-a-smaller c =
    rw (c.difference-left.ensures, c.of.ensures) (without-lt c.loop-a.left.0 c.in-Some.a.0 c.in-Some.ensures.found.member)

pub loop-a-preserved : goal.loop-a-preserved
loop-a-preserved c =
    cells-more (basis_of c.args.base.now) c.args.view.now _ c.loop-a.total c.bytes_of-total.result c.loop-a.left.0 _ c.in-Some.a.0 c.loop-a.invariant
    c.in-Some.ensures.small c.in-Some.ensures.found (c.difference-left.ensures ∙ ap (without c.loop-a.left.0) c.of.ensures) c.bytes_of-total.ensures

pub returns-clause-same : goal.returns-clause-same
returns-clause-same c =
    sym (cells-end (basis_of c.args.base.now) c.args.view.now _ c.loop-a.total c.loop-a.left.0 c.loop-a.invariant c.in_default.ensures.found)

pub returns-clause-few : goal.returns-clause-few
returns-clause-few c =
    omega (arith, c.loop-a.invariant, cells-few (basis_of c.args.base.now) c.args.set.0 c.args.view.now)

use Rattle.std.proofs.Common.{sym, ◌∙◌, arith}
use Rattle.plan_tests.proofs.Stated.{stated}
use Rattle.plan_tests.proofs.costs.are_stated.Goals as goal

pub returns : goal.returns
returns c = λ is a member. stated c.args.used c.args.distinct.now (omega (arith, c.ranges.used)) c.told-distinct (sym c.are_some.ensures ∙ is) a member

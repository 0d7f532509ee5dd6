use Rattle.std.proofs.Common.{◌^◌, arith}
use Rattle.std.proofs.lemmas.Nat.{mul-lt}
use Rattle.cost_model.proofs.costs.product.Goals as goal

pub overflow_mul-result : goal.overflow_mul-result
overflow_mul-result c =
    omega (arith, mul-lt c.from.result c.from-2.result (2 ^ 64) (2 ^ 64) (omega (arith, c.from.ensures)) (omega (arith, c.from-2.ensures)))

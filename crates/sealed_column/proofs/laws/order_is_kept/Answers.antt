use Rattle.sealed_column.specs.SealLaws.{ope_orders}
use Rattle.sealed_column.proofs.laws.order_is_kept.Goals as goal

pub returns : goal.returns
returns c = ope_orders

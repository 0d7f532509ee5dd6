use Rattle.mq_base.proofs.BlockLaws.{digits_order}
use Rattle.mq_base.proofs.value.Value.digits_into.Goals as goal

pub returns-clause-ordered : goal.returns-clause-ordered
returns-clause-ordered c = λ other fits same. digits_order other c.args.self.now fits c.fill_digits.ensures.fits same

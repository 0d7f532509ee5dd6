use Rattle.mq_base.proofs.BlockLaws.{block_determines}
use Rattle.mq_base.proofs.value.Value.block_into.Goals as goal

pub returns-clause-determines : goal.returns-clause-determines
returns-clause-determines c = λ other fits same. block_determines other c.args.self.now fits c.fill_block.ensures.fits same

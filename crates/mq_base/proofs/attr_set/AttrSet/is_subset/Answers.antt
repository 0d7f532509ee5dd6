use Rattle.base_laws.proofs.SetLaws.{within_from_test, test_from_within}
use Rattle.mq_base.proofs.attr_set.AttrSet.is_subset.Goals as goal

pub returns : goal.returns
returns c = (within_from_test c.args.self.0 c.args.other.0, test_from_within c.args.self.0 c.args.other.0)

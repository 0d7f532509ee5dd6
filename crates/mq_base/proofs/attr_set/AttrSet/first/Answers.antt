use Rattle.std.proofs.Common.{arith}
use Rattle.base_laws.proofs.MemberLaws.{has-lt}
use Rattle.base_laws.proofs.SetLaws.{least_from_lowest}
use Rattle.mq_base.proofs.attr_set.AttrSet.first.Goals as goal

pub returns-clause-small : goal.returns-clause-small
returns-clause-small c =
    has-lt c.args.self.0 64 _ (omega arith) (least_from_lowest c.args.self.0 (omega arith) (omega arith)).member

pub returns-clause-found : goal.returns-clause-found
returns-clause-found c = least_from_lowest c.args.self.0 (omega arith) (omega arith)

use Rattle.std.proofs.Common.{sym, arith}
use Rattle.base_laws.proofs.MemberLaws.{has-past}
use Rattle.relation_profile.proofs.set.holds.Goals as goal

pub returns-then-a-ge64-clause-found : goal.returns-then-a-ge64-clause-found
returns-then-a-ge64-clause-found c = sym (has-past c.args.set.0 64 c.args.a.0 (omega arith) (omega arith))

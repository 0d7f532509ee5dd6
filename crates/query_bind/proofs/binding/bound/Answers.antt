use Rattle.sql_reader.specs.Syntax.{query_of}
use Rattle.query_bind.proofs.NodeLaws.{bound-small}
use Rattle.query_bind.proofs.binding.bound.Goals as goal

pub check_nodes-requires : goal.check_nodes-requires
check_nodes-requires c =
    rw c.in_ok-query.ensures.bound (bound-small c.args.schema.now (query_of c.args.raw.now) c.requires.schema.few_attributes)

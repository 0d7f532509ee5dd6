use Rattle.std.proofs.Common.{◌∙◌, sym}
use Rattle.sql_reader.specs.Syntax.{query_of}
use Rattle.query_bind.proofs.OutcomeLaws.{with-group, without-aggs, without-group}
use Rattle.query_bind.proofs.binding.check_items.Goals as goal

pub returns-then-has_group-clause-fault : goal.returns-then-has_group-clause-fault
returns-then-has_group-clause-fault c =
    with-group c.args.schema.now c.args.group.0 (query_of c.args.raw.now) c.check_with_group.result
    (sym (rw c.as_slice.ensures at c.has_group.ensures) ∙ c.if-has_group.true) c.requires.group c.check_with_group.ensures.fault

pub returns-else-has_group-clause-fault : goal.returns-else-has_group-clause-fault
returns-else-has_group-clause-fault c =
    without-group c.args.schema.now (query_of c.args.raw.now) c.check_without_group.result
    (sym (rw c.as_slice.ensures at c.has_group.ensures) ∙ c.if-has_group.false) c.check_without_group.ensures.fault

pub returns-else-has_group-clause-aggs : goal.returns-else-has_group-clause-aggs
returns-else-has_group-clause-aggs c =
    without-aggs c.args.schema.now (query_of c.args.raw.now) c.check_without_group.result
    (sym (rw c.as_slice.ensures at c.has_group.ensures) ∙ c.if-has_group.false) c.requires.written.grouped
    c.check_without_group.ensures.fault c.check_without_group.ensures.aggs

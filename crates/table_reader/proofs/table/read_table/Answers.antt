use Rattle.std.proofs.Common.{◌∙◌, arith}
use Rattle.table_reader.proofs.TableLaws.{few_columns, rows_form}
use Rattle.table_reader.specs.inside.Reading.{records_left}
use Rattle.table_reader.proofs.table.read_table.Goals as goal

pub read_content-requires-clause-few : goal.read_content-requires-clause-few
read_content-requires-clause-few c =
    let few = few_columns c.args.schema.now c.args.t.0 in
    let is = c.as_slice.ensures.value ∙ c.in_ok-types.ensures in
    rw is (omega arith)

pub returns-clause-form : goal.returns-clause-form
returns-clause-form c =
    let types = c.as_slice.ensures.value ∙ c.in_ok-types.ensures in
    rows_form c.args.schema.now c.args.t.0 (records_left 100001 c.read_header.new.reader) c.read_content.result
    (rw types at c.read_content.ensures.fault) (rw types at c.read_content.ensures.content)

use Rattle.std.proofs.Common.{◌≡◌, ◌∙◌, length, refl}
use Rattle.std.specs.Prelude.{vec_len}
use Rattle.table_reader.specs.inside.Reading.{records_left}
use Rattle.table_reader.proofs.ColumnLaws.{with_rows-empty, written_over}
use Rattle.table_reader.proofs.table.read_content.Goals as goal

pub returns-clause-content : goal.returns-clause-content
returns-clause-content c =
    let rows = records_left 100001 c.args.reader.now in
    let began = c.as_mut_slice.ensures.value in
    let values = rw (began ∙ c.in_ok-columns.ensures) at c.in_ok-rows.ensures.values in
    let long : length c.in_ok-columns.columns.items ≡ vec_len c.in_ok-columns.columns = rw began at c.as_mut_slice.ensures.len in
    let same : length c.read_rows.new.columns ≡ length c.in_ok-columns.columns.items = rw began at c.read_rows.auto.columns in
    let written = written_over c.read_rows.new.columns c.in_ok-columns.columns.items (vec_len c.in_ok-columns.columns) same long in
    rw (c.in_ok-rows.ensures.rows, c.of.ensures, written ∙ values ∙ with_rows-empty c.args.types.now 0 rows) refl

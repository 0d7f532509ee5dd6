use Rattle.std.proofs.Common.{◌≡◌, ◌+◌, ◌-◌, [], ◌∙◌, add-zero, ap, arith, length, refl, sym}
use Rattle.std.proofs.lemmas.Result.{err_from_is_err_and}
use Rattle.csv.specs.Records.{fields_of}
use Rattle.table_reader.specs.Codes.{refusal_of}
use Rattle.table_reader.specs.inside.Growing.{with_rows}
use Rattle.table_reader.specs.inside.Reading.{records_left}
use Rattle.table_reader.proofs.ColumnLaws.{with_rows-cons, with_rows-none}
use Rattle.table_reader.proofs.FaultLaws.{row_passes, row_above, row_stops}
use Rattle.table_reader.proofs.RecordLaws.{none_left, one_left}
use Rattle.table_reader.proofs.columns.read_rows.Goals as goal

-- a read inside the loop found no record
no_more : (c : goal.Then-not-branch) → records_left (100001 - c.loop-row.row) c.loop-row.reader ≡ []
no_more c = none_left 100001 c.loop-row.row c.loop-row.reader c.next_record.new.reader c.in_ok-next_record.field-0
    (fields_of c.next_record.new.current) (omega arith) c.in_ok-next_record.ensures.records c.if-not-branch.true

-- the read after the loop found no record
no_more_at_end : (c : goal.Else-branch) → records_left (100001 - c.loop-row.row) c.loop-row.reader ≡ []
no_more_at_end c = none_left 100001 c.loop-row.row c.loop-row.reader c.next_record-2.new.reader c.in_ok-next_record-2.field-0
    (fields_of c.next_record-2.new.current) (omega arith) c.in_ok-next_record-2.ensures.records c.if-branch.false

pub returns-then-not-branch-clause-fault : goal.returns-then-not-branch-clause-fault
returns-then-not-branch-clause-fault c = c.loop-row.invariant.1 ∙ rw (no_more c) refl

pub returns-then-not-branch-clause-rows : goal.returns-then-not-branch-clause-rows
returns-then-not-branch-clause-rows c = sym (rw (no_more c, add-zero) at c.loop-row.invariant.2)

pub returns-then-not-branch-clause-values : goal.returns-then-not-branch-clause-values
returns-then-not-branch-clause-values c = sym (c.loop-row.invariant.3
    ∙ rw (no_more c) (with_rows-none c.args.types.now 0 c.loop-row.columns (c.loop-row.auto.columns ∙ c.requires.columns)))

pub loop-row-preserved : goal.loop-row-preserved
loop-row-preserved c =
    let one = one_left 100001 c.loop-row.row c.loop-row.reader c.next_record.new.reader c.in_ok-next_record.field-0
    (fields_of c.next_record.new.current) (omega arith) c.in_ok-next_record.ensures.records c.if-not-branch.false in
    let rest = records_left (100001 - (c.loop-row.row + 1)) c.next_record.new.reader in (
      c.in_ok-next_record.ensures.reading,
      c.loop-row.invariant.1
          ∙ rw one (row_passes c.args.types.now (c.loop-row.row + 1) (fields_of c.next_record.new.current) rest (omega arith) c.in_ok-push_row.ensures.fault),
      c.loop-row.invariant.2 ∙ rw one (omega arith),
      c.loop-row.invariant.3
          ∙ rw one (with_rows-cons c.args.types.now 0 c.loop-row.columns (fields_of c.next_record.new.current) rest)
          ∙ ap (λ columns. with_rows c.args.types.now 0 columns rest) (sym c.in_ok-push_row.ensures.values),
    )

pub returns-in_err-push_row-clause-fault : goal.returns-in_err-push_row-clause-fault
returns-in_err-push_row-clause-fault c =
    let p = err_from_is_err_and c.from_residual-in_err-push_row.result c.from_residual-in_err-push_row.ensures.1 in
    let one = one_left 100001 c.loop-row.row c.loop-row.reader c.next_record.new.reader c.in_ok-next_record.field-0
    (fields_of c.next_record.new.current) (omega arith) c.in_ok-next_record.ensures.records c.if-not-branch.false in
    let rest = records_left (100001 - (c.loop-row.row + 1)) c.next_record.new.reader in
    rw (p.1, p.2, c.loop-row.invariant.1, one)
    (row_stops c.args.types.now (c.loop-row.row + 1) (fields_of c.next_record.new.current) rest
    (refusal_of c.in_err-push_row.field-0.0) (omega arith) c.in_err-push_row.ensures.fault)

pub returns-then-branch-clause-fault : goal.returns-then-branch-clause-fault
returns-then-branch-clause-fault c =
    let one = one_left 100001 c.loop-row.row c.loop-row.reader c.next_record-2.new.reader c.in_ok-next_record-2.field-0
    (fields_of c.next_record-2.new.current) (omega arith) c.in_ok-next_record-2.ensures.records c.if-branch.true in
    let rest = records_left (100001 - (c.loop-row.row + 1)) c.next_record-2.new.reader in
    c.loop-row.invariant.1
    ∙ rw one (row_above c.args.types.now (c.loop-row.row + 1) (fields_of c.next_record-2.new.current) rest (omega arith))

pub returns-clause-fault : goal.returns-clause-fault
returns-clause-fault c = c.loop-row.invariant.1 ∙ rw (no_more_at_end c) refl

pub returns-clause-rows : goal.returns-clause-rows
returns-clause-rows c =
    let all : length (records_left 100001 c.args.reader.now) ≡ c.loop-row.row = rw (no_more_at_end c, add-zero) at c.loop-row.invariant.2 in
    omega arith

pub returns-clause-values : goal.returns-clause-values
returns-clause-values c = sym (c.loop-row.invariant.3
    ∙ rw (no_more_at_end c) (with_rows-none c.args.types.now 0 c.loop-row.columns (c.loop-row.auto.columns ∙ c.requires.columns)))

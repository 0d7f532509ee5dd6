use Rattle.std.proofs.Common.{◌∙◌, ◌-◌, length, arith}
use Rattle.std.proofs.lemmas.Result.{err_from_is_err_and}
use Rattle.csv.specs.Records.{fields_of}
use Rattle.base_laws.specs.Firsts.{first_at}
use Rattle.base_laws.proofs.FirstLaws.{first_at-more, first_at-stop, told-on}
use Rattle.table_reader.specs.Codes.{refusal_of}
use Rattle.table_reader.specs.Faults.{cell_fault}
use Rattle.table_reader.proofs.ColumnLaws.{value_pushed, values_pushed}
use Rattle.table_reader.proofs.columns.push_values.Goals as goal

pub returns-in_err-value-clause-fault : goal.returns-in_err-value-clause-fault
returns-in_err-value-clause-fault c =
    let p = err_from_is_err_and c.from_residual.result c.from_residual.ensures.1 in
    let test = cell_fault c.args.types.now c.args.row (fields_of c.args.current.now) in
    rw (p.1, p.2, c.loop-col.invariant.0)
    (told-on (refusal_of c.in_err-value.field-0.0) (test c.loop-col.col) (first_at test c.loop-col.col (length c.args.types.now - c.loop-col.col))
    (λ fault. first_at-stop test c.loop-col.col (length c.args.types.now) fault (omega arith))
    (rw c.field.ensures at c.in_err-value.ensures.fault))

pub loop-col-preserved : goal.loop-col-preserved
loop-col-preserved c =
    let test = cell_fault c.args.types.now c.args.row (fields_of c.args.current.now) in
    let field = c.field.ensures in (
      c.loop-col.invariant.0
          ∙ first_at-more test c.loop-col.col (length c.args.types.now) (omega arith) (rw field at c.in_ok-value.ensures.fault),
      value_pushed c.args.types.now c.args.columns.now (fields_of c.args.current.now) c.loop-col.col c.loop-col.columns
          c.in_ok-value.value c.push.new.self c.index-columns-col.result (omega arith) c.requires.columns c.loop-col.invariant.1
          (rw field at c.in_ok-value.ensures.value) c.in_ok-push.ensures.ok,
    )

pub returns-clause-values : goal.returns-clause-values
returns-clause-values c = c.loop-col.invariant.1
    ∙ values_pushed c.args.types.now c.args.columns.now (fields_of c.args.current.now) c.loop-col.col (omega arith) c.requires.columns

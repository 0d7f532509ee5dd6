use Rattle.price_reader.proofs.read.judge.Goals as goal

pub returns-clause-read : goal.returns-clause-read
returns-clause-read c =
    rw (
      c.as_slice-3.ensures,
      c.as_slice-4.ensures,
      c.as_slice-5.ensures,
      c.in_ok-tables.ensures,
      c.in_ok-attributes.ensures,
      c.as_slice.ensures,
      c.as_slice-2.ensures,
    ) at c.judge_for.ensures.read

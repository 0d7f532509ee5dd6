use Rattle.sealed_column.proofs.OpenLaws.{int_from_digits, text_from_digits}
use Rattle.sealed_column.proofs.open.read_digits.Goals as goal

pub returns-in-Int : goal.returns-in-Int
returns-in-Int c =
    int_from_digits c.args.ty c.args.digits.now c.read_bytes-count.new.out c.read_bytes-count.result c.read_int.result c.in-Int.is
    c.requires.len c.read_bytes-count.ensures.written c.read_bytes-count.ensures.within c.read_int.ensures

pub returns-in_ok-copied-in-Text : goal.returns-in_ok-copied-in-Text
returns-in_ok-copied-in-Text c =
    text_from_digits c.args.ty c.args.digits.now c.read_bytes-count.new.out c.in_ok-copied-in-Text.field-0 c.read_bytes-count.result
    c.in-Text.is c.requires.len c.read_bytes-count.ensures.written c.read_bytes-count.ensures.within c.in_ok-copied-in-Text.ensures

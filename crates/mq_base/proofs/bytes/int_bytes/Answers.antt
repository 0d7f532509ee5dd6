use Rattle.std.proofs.Common.{◌∙◌, ap}
use Rattle.std.specs.Int.{w128, to_be_bytes}
use Rattle.mq_base.specs.Bytes.{int_block}
use Rattle.mq_base.proofs.BlockLaws.{shifted_from_bits}
use Rattle.mq_base.proofs.bytes.int_bytes.Goals as goal

pub returns-clause-value : goal.returns-clause-value
unfolding int_block
returns-clause-value c =
    c.to_be_bytes.ensures
    ∙ ap (to_be_bytes w128) (shifted_from_bits c.args.x c.cast_unsigned.result c.ranges.x c.cast_unsigned.ensures)

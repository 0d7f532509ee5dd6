use Rattle.std.proofs.Common.{ap, ◌∙◌, arith, length}
use Rattle.rand_chacha.specs.ChaCha.{ChaCha}
use Rattle.cipher_stream.proofs.Words.{filled}
use Rattle.cipher_stream.proofs.stream.draw.Goals as goal

pub returns : goal.returns
returns c =
    λ i within.
    filled c.args.seed c.args.row (length c.args.stream.now) c.set_stream.new.self c.fill_bytes.new.dst _ (omega arith)
    (c.set_stream.ensures ∙ ap (λ (g : ChaCha). record g { stream = c.args.row }) c.from_seed-generator.ensures)
    c.fill_bytes.ensures i (omega arith)

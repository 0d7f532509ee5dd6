use Rattle.std.proofs.Common.{◌≡◌, ◌++◌, take, drop}
use Rattle.cipher_stream.specs.Stream.{seed_of, covered, covered_from}
use Rattle.cipher_stream.proofs.stream.cover.Given as goal

abbrev pub invariant-loop-place : goal.invariant-loop-place
invariant-loop-place l =
    take l.place l.block ++ covered_from (seed_of l.key l.step) l.row l.place (drop l.place l.block)
    ≡ covered (seed_of l.key l.step) l.row l.fn.block

use Rattle.std.proofs.Common.{◌≡◌}
use Rattle.price_reader.specs.Outcome.{number_for}
use Rattle.price_reader.specs.inside.Checks.{Fits64}
use Rattle.price_reader.proofs.PaddedLaws.{padded_to}
use Rattle.price_reader.proofs.build.numbers.Given as goal

abbrev pub invariant-loop-place : goal.invariant-loop-place
invariant-loop-place g l = record {
  made : l.numbers ≡ padded_to g.row.N 0 (number_for l.entries) l.names l.place;
  fits : Fits64 l.numbers;
}

use Rattle.std.proofs.Common.{◌≡◌}
use Rattle.price_reader.specs.Outcome.{price}
use Rattle.price_reader.specs.inside.Checks.{Fits64}
use Rattle.price_reader.proofs.PaddedLaws.{padded_to}
use Rattle.price_reader.proofs.build.prices_from.Given as goal

abbrev pub invariant-loop-place : goal.invariant-loop-place
invariant-loop-place l = record {
  made : l.prices ≡ padded_to 16 0 (price l.default l.links l.from) l.subjects l.place;
  fits : Fits64 l.prices;
}

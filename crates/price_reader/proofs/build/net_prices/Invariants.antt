use Rattle.std.proofs.Common.{◌≡◌, replicate}
use Rattle.price_reader.specs.Outcome.{prices_from}
use Rattle.price_reader.specs.inside.Checks.{AllFit64}
use Rattle.price_reader.proofs.PaddedLaws.{padded_to}
use Rattle.price_reader.proofs.build.net_prices.Given as goal

abbrev pub invariant-loop-place : goal.invariant-loop-place
invariant-loop-place l = record {
  made : l.net ≡ padded_to 16 (replicate 16 0) (prices_from l.subjects l.default l.links) l.subjects l.place;
  fits : AllFit64 l.net;
}

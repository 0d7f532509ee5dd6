-- Longer stretches of calls on a shelf and a sink.
use Rattle.std.proofs.Common.{ℕ, ◌≤◌, ◌∙◌, arith}
use Rattle.outside_io.specs.Outside.{ShelfState, SinkState, Rose, Follows, SinkFollows}

-- a shelf that follows one that follows a first follows the first
pub Follows-trans : {first middle last : ShelfState} → Follows first middle → Follows middle last → Follows first last
Follows-trans f g = record {
  held = g.held ∙ f.held;
  steady = g.steady ∙ f.steady;
  rising = omega (arith, f.rising, g.rising);
}

-- and so does a sink
pub SinkFollows-trans : {first middle last : SinkState} → SinkFollows first middle → SinkFollows middle last → SinkFollows first last
SinkFollows-trans f g = record {
  steady = g.steady ∙ f.steady;
  rising = omega (arith, f.rising, g.rising);
}

-- a count that rose has risen over every longer stretch in which it never falls
pub Rose-longer : (first before after last : ℕ) → first ≤ before → before ≤ after → after ≤ last → Rose before after → Rose first last
Rose-longer first before after last low up high rose = grind (arith, rose)

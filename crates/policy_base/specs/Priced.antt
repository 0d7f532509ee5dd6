-- What holds of the prices that are read for a policy. docs/FORMATS.md, "Price file", says the limits.
use Rattle.std.specs.Prelude.{◌≡◌, ℕ, ◌^◌, ◌<◌, ◌≤◌, [], slice_index, slice_index_or}
use Rattle.policy_base.specs.declared.prices.Prices.{Prices}

-- each number is within 64 bits, sending to oneself is free, and each of so many attributes has a distinct value
pub record IsPriced (attributes : ℕ) (prices : Prices) : Type 0 where
  pub cpu_fits : (s : ℕ) → slice_index prices.cpu s < 2 ^ 64
  pub net_fits : (s t : ℕ) → slice_index (slice_index_or prices.net s []) t < 2 ^ 64
  pub rows_fit : (t : ℕ) → slice_index prices.rows t < 2 ^ 64
  pub distinct_fit : (a : ℕ) → slice_index prices.distinct a < 2 ^ 64
  pub own_way_free : (s : ℕ) → slice_index (slice_index_or prices.net s []) s ≡ 0
  pub some_distinct : (a : ℕ) → a < attributes → 1 ≤ slice_index prices.distinct a

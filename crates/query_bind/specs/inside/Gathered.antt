-- The attributes under functions as they are gathered one by one, and the first fault of a function or count behind them.
use Rattle.std.specs.Prelude.{ℕ, ◌==◌, Bool, List, [], ◌∷◌, ◌++◌, Option, None, if◌then◌else◌}
use Rattle.std.specs.Option.{option_or}
use Rattle.std.specs.List.{list_any}
use Rattle.mq_base.specs.declared.ids.AttrId.{AttrId}
use Rattle.mq_base.specs.declared.query.Agg.{Agg}
use Rattle.mq_base.specs.declared.refusal.Refusal.{Refusal}
use Rattle.mq_base.specs.declared.schema.Schema.{Schema}
use Rattle.sql_reader.specs.Syntax.{Item, Plain, Aggregate, Count}
use Rattle.query_bind.specs.Bound.{attribute}
use Rattle.query_bind.specs.Faults.{item_fault}
use Rattle.query_bind.specs.Lookup.{Use}

-- the attributes so far, with one more where it stands under none of their functions
abbrev pub is_listed : AttrId → List (AttrId × Agg) → Bool
is_listed a aggs = list_any (λ p. p.0.0 == a.0) aggs

abbrev pub with_aggregate : AttrId → Agg → List (AttrId × Agg) → List (AttrId × Agg)
with_aggregate a func aggs = if is_listed a aggs then aggs else aggs ++ (a, func) ∷ []

abbrev pub with_item : Schema → Item → List (AttrId × Agg) → List (AttrId × Agg)
with_item schema (Plain c) aggs = aggs
with_item schema (Aggregate func c at) aggs = with_aggregate (attribute schema c) func aggs
with_item schema (Count at) aggs = aggs

abbrev pub aggs_after : Schema → List (AttrId × Agg) → List Use → List (AttrId × Agg)
aggs_after schema aggs [] = aggs
aggs_after schema aggs (u ∷ rest) = aggs_after schema (with_item schema u.item aggs) rest

-- the first fault of the functions and counts, each behind the attributes that are gathered until then
abbrev pub gathered_fault : Schema → ℕ → List (AttrId × Agg) → List Use → Option Refusal
gathered_fault schema group aggs [] = None
gathered_fault schema group aggs (u ∷ rest) =
    option_or (item_fault schema group aggs u.item u.literal) (gathered_fault schema group (with_item schema u.item aggs) rest)

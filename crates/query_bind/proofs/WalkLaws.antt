-- Laws of the walks over a query: its columns and its conditions, part by part.
use Rattle.std.proofs.Common.{◌≡◌, ℕ, ◌+◌, ◌<◌, ◌≤◌, List, [], ◌∷◌, ◌++◌, map, length, get_or, drop, Some, None, refl}
use Rattle.std.specs.List.{flat_map}
use Rattle.std.specs.Option.{option_or}
use Rattle.std.proofs.lemmas.List.Concat.{flat_map_single}
use Rattle.base_laws.specs.Firsts.{first_of}
use Rattle.base_laws.proofs.FirstLaws.{first-append, one-more, one-stop, one-end, pieces-more, pieces-stop, pieces-end}
use Rattle.base_laws.proofs.ListLaws.{flat_map-map}
use Rattle.mq_base.specs.declared.refusal.Refusal.{Refusal}
use Rattle.mq_base.specs.declared.schema.Schema.{Schema}
use Rattle.sql_reader.specs.declared.raw.RawQuery.{RawQuery}
use Rattle.sql_reader.specs.declared.raw.RawSource.{RawSource}
use Rattle.sql_reader.specs.Syntax.{column_of, condition_of, having_of, item_of, query_of, source_of}
use Rattle.query_bind.specs.Faults.{column_fault, columns_fault, condition_fault, conditions_fault}
use Rattle.query_bind.specs.Lookup.{condition_columns, having_columns, item_columns, source_columns, source_conditions}

pub ruleset walks = (one-more, one-stop, one-end)

pub ruleset pieces = (pieces-more, pieces-stop, pieces-end)

-- the first fault of the conditions of sources
pub on-more : (schema : Schema) (sources : List RawSource) (i : ℕ) (d : RawSource) → i < length sources
    → first_of (map (condition_fault schema) (map condition_of (get_or sources i d).on)) ≡ None
    → first_of (map (condition_fault schema) (flat_map (λ s. map condition_of s.on) (drop i sources)))
    ≡ first_of (map (condition_fault schema) (flat_map (λ s. map condition_of s.on) (drop (i + 1) sources)))
on-more schema sources i d below passes = pieces-more (condition_fault schema) (λ s. map condition_of s.on) sources i d below passes

pub on-stop : (schema : Schema) (sources : List RawSource) (i : ℕ) (d : RawSource) (fault : Refusal) → i < length sources
    → first_of (map (condition_fault schema) (map condition_of (get_or sources i d).on)) ≡ Some fault
    → first_of (map (condition_fault schema) (flat_map (λ s. map condition_of s.on) (drop i sources))) ≡ Some fault
on-stop schema sources i d fault below found = pieces-stop (condition_fault schema) (λ s. map condition_of s.on) sources i d fault below found

pub on-end : (schema : Schema) (sources : List RawSource) (i : ℕ) → length sources ≤ i
    → first_of (map (condition_fault schema) (flat_map (λ s. map condition_of s.on) (drop i sources))) ≡ None
on-end schema sources i past = pieces-end (condition_fault schema) (λ s. map condition_of s.on) sources i past

pub ruleset conditions = (on-more, on-stop, on-end)

sources_same : (sources : List RawSource) → flat_map source_columns (map source_of sources)
    ≡ flat_map (λ s. flat_map (λ c. condition_columns (condition_of c)) s.on) sources
sources_same [] = refl
sources_same (s ∷ rest) = rw (flat_map-map condition_columns condition_of s.on, sources_same rest) refl

-- the first fault of the columns of a query
pub columns-parts : (schema : Schema) (tables : List ℕ) (raw : RawQuery) → columns_fault schema tables (query_of raw)
    ≡ option_or (first_of (map (column_fault schema tables) (flat_map (λ i. item_columns (item_of i)) raw.items)))
    (option_or (first_of (map (column_fault schema tables) (flat_map (λ s. flat_map (λ c. condition_columns (condition_of c)) s.on) raw.sources)))
    (option_or (first_of (map (column_fault schema tables) (flat_map (λ c. condition_columns (condition_of c)) raw.conds)))
    (option_or (first_of (map (column_fault schema tables) (flat_map (λ c. column_of c ∷ []) raw.group)))
    (first_of (map (column_fault schema tables) (flat_map (λ h. having_columns (having_of h)) raw.having))))))
unfolding columns_fault
columns-parts schema tables raw =
    let f = column_fault schema tables in
    let q = query_of raw in
    rw (
      first-append f (flat_map item_columns q.items) (flat_map source_columns q.sources
          ++ (flat_map condition_columns q.conds ++ (q.group ++ flat_map having_columns q.having))),
      first-append f (flat_map source_columns q.sources) (flat_map condition_columns q.conds ++ (q.group ++ flat_map having_columns q.having)),
      first-append f (flat_map condition_columns q.conds) (q.group ++ flat_map having_columns q.having),
      first-append f q.group (flat_map having_columns q.having),
      flat_map-map item_columns item_of raw.items,
      sources_same raw.sources,
      flat_map-map condition_columns condition_of raw.conds,
      flat_map_single column_of raw.group,
      flat_map-map having_columns having_of raw.having,
    ) refl

-- and that of its conditions
pub conditions-parts : (schema : Schema) (raw : RawQuery) → conditions_fault schema (query_of raw)
    ≡ option_or (first_of (map (condition_fault schema) (flat_map (λ s. map condition_of s.on) raw.sources)))
    (first_of (map (condition_fault schema) (map condition_of raw.conds)))
unfolding conditions_fault
conditions-parts schema raw =
    rw (
      first-append (condition_fault schema) (flat_map source_conditions (map source_of raw.sources)) (map condition_of raw.conds),
      flat_map-map source_conditions source_of raw.sources,
    ) refl

pub ruleset parts = (columns-parts, conditions-parts)

-- The tables of a query without a fault: each is one of the schema, and none stands twice.
use Rattle.std.proofs.Common.{◌≡◌, ◌≢◌, ℕ, ◌<◌, ◌==◌, true, false, ◌||◌, List, [], ◌∷◌, ◌++◌, length, map, All, Option, Some, None, is_none, unwrap_or, refl, ap, ◌∙◌}
use Rattle.std.specs.Prelude.{bytes_eq}
use Rattle.std.proofs.lemmas.Bool.{or_right, or_left, eq-eqb, both_ways}
use Rattle.std.proofs.lemmas.List.{map-append}
use Rattle.std.proofs.lemmas.List.Elements.{All-nil, All-cons}
use Rattle.std.proofs.lemmas.List.Folds.{list_any-append}
use Rattle.base_laws.specs.Firsts.{first_behind}
use Rattle.base_laws.proofs.FirstLaws.{none_left}
use Rattle.base_laws.proofs.ListLaws.{position-below}
use Rattle.mq_base.specs.declared.ids.TableId.{TableId}
use Rattle.mq_base.specs.declared.schema.Schema.{Schema}
use Rattle.mq_base.specs.declared.schema.TableInfo.{TableInfo}
use Rattle.mq_base.specs.BoundQuery.{AreDistinct}
use Rattle.sql_reader.specs.Syntax.{Source}
use Rattle.query_bind.specs.declared.refusal.BindCode.TheVariants.{UnknownTable, RepeatedTable}
use Rattle.query_bind.specs.Lookup.{table_named, source_table, source_tables, is_among}
use Rattle.query_bind.specs.Faults.{fault_if, source_behind}
use Rattle.query_bind.proofs.BoundParts.{passed}

-- tables as a bound query holds them
abbrev pub table_ids : List ℕ → List TableId
table_ids tables = map (λ t. record { 0 = t }) tables

known : (schema : Schema) (name : List ℕ) → is_none (table_named schema name) ≡ false
    → unwrap_or (table_named schema name) 0 < length schema.tables
known schema name some = by_place (table_named schema name) refl some
  where
    by_place : (o : Option ℕ) → table_named schema name ≡ o → is_none o ≡ false → unwrap_or o 0 < length schema.tables
    by_place None found there = cc
    by_place (Some t) found there = position-below (λ (info : TableInfo). bytes_eq info.name name) schema.tables t found

-- what a source passes
pub record SourcePasses (schema : Schema) (earlier : List Source) (s : Source) : Type 0 where
  pub known : source_table schema s < length schema.tables
  pub new : is_among (source_table schema s) (source_tables schema earlier) ≡ false

source_passes : (schema : Schema) (earlier : List Source) (s : Source) → source_behind schema earlier s ≡ None
    → SourcePasses schema earlier s
source_passes schema earlier s none =
    let parts = none_left (fault_if (is_none (table_named schema s.table)) UnknownTable s.at)
    (fault_if (is_among (source_table schema s) (source_tables schema earlier)) RepeatedTable s.at) none in
    record { known = known schema s.table (passed _ UnknownTable s.at parts.0); new = passed _ RepeatedTable s.at parts.1 }

pub tables_known : (schema : Schema) (earlier sources : List Source) → first_behind (source_behind schema) earlier sources ≡ None
    → All (λ t. t < length schema.tables) (source_tables schema sources)
tables_known schema earlier [] none = All-nil (λ t. t < length schema.tables)
tables_known schema earlier (s ∷ rest) none =
    let parts = none_left (source_behind schema earlier s) (first_behind (source_behind schema) (earlier ++ s ∷ []) rest) none in
    All-cons (λ t. t < length schema.tables) (source_table schema s) (source_tables schema rest)
    (source_passes schema earlier s parts.0).known (tables_known schema (earlier ++ s ∷ []) rest parts.1)

-- the tables so far, with one more
among_push : (schema : Schema) (t : ℕ) (earlier : List Source) (s : Source)
    → is_among t (source_tables schema (earlier ++ s ∷ [])) ≡ (is_among t (source_tables schema earlier) || ((source_table schema s == t) || false))
among_push schema t earlier s =
    rw (
      map-append (source_table schema) earlier (s ∷ []),
      list_any-append (λ other. other == t) (source_tables schema earlier) (source_table schema s ∷ []),
    ) refl

-- a table that stands earlier is none of the later ones
apart : (schema : Schema) (earlier sources : List Source) (t : ℕ) → first_behind (source_behind schema) earlier sources ≡ None
    → is_among t (source_tables schema earlier) ≡ true → All (λ y. t ≢ y) (source_tables schema sources)
apart schema earlier [] t none stands = All-nil (λ y. t ≢ y)
apart schema earlier (s ∷ rest) t none stands =
    let parts = none_left (source_behind schema earlier s) (first_behind (source_behind schema) (earlier ++ s ∷ []) rest) none in
    let new = (source_passes schema earlier s parts.0).new in
    All-cons (λ y. t ≢ y) (source_table schema s) (source_tables schema rest)
    (λ same. both_ways (is_among (source_table schema s) (source_tables schema earlier)) new (rw same at stands))
    (apart schema (earlier ++ s ∷ []) rest t parts.1 (among_push schema t earlier s
    ∙ or_left (is_among t (source_tables schema earlier)) ((source_table schema s == t) || false) stands))

pub tables_once : (schema : Schema) (earlier sources : List Source) → first_behind (source_behind schema) earlier sources ≡ None
    → AreDistinct (source_tables schema sources)
tables_once schema earlier [] none = tt
tables_once schema earlier (s ∷ rest) none =
    let parts = none_left (source_behind schema earlier s) (first_behind (source_behind schema) (earlier ++ s ∷ []) rest) none in
    let t = source_table schema s in (
      apart schema (earlier ++ s ∷ []) rest t parts.1 (among_push schema t earlier s
          ∙ or_right (is_among t (source_tables schema earlier)) ((t == t) || false) (or_left (t == t) false (eq-eqb t t refl))),
      tables_once schema (earlier ++ s ∷ []) rest parts.1,
    )

-- the tables as ids have the same numbers
pub numbers_of_ids : (tables : List ℕ) → map (λ (t : TableId). t.0) (table_ids tables) ≡ tables
numbers_of_ids [] = refl
numbers_of_ids (t ∷ rest) = ap (λ ts. t ∷ ts) (numbers_of_ids rest)

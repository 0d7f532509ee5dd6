-- Laws of the FROM list: each source is tested behind the tables of those before it.
use Rattle.std.proofs.Common.{◌≡◌, ℕ, ◌+◌, ◌<◌, ◌≤◌, List, [], ◌∷◌, ◌++◌, map, length, get_or, take, drop, Some, None, refl}
use Rattle.std.proofs.lemmas.List.{map-append, map_more, take_all}
use Rattle.base_laws.specs.Firsts.{first_behind}
use Rattle.base_laws.proofs.FirstLaws.{behind-more, behind-stop, behind-end}
use Rattle.mq_base.specs.declared.ids.TableId.{TableId}
use Rattle.mq_base.specs.declared.refusal.Refusal.{Refusal}
use Rattle.mq_base.specs.declared.schema.Schema.{Schema}
use Rattle.sql_reader.specs.declared.raw.RawSource.{RawSource}
use Rattle.sql_reader.specs.Syntax.{source_of}
use Rattle.query_bind.specs.Faults.{source_behind, source_fault}
use Rattle.query_bind.specs.Lookup.{source_table, source_tables}
use Rattle.query_bind.specs.inside.Results.{numbers}

-- the tables found are those of the sources before a place
abbrev pub AreOf : Schema → List TableId → List RawSource → ℕ → Type 0
AreOf schema tables sources i = numbers tables ≡ source_tables schema (map source_of (take i sources))

-- past a table that has no fault
pub sources-more : (schema : Schema) (tables : List TableId) (sources : List RawSource) (i : ℕ) (d : RawSource)
    → i < length sources → AreOf schema tables sources i → source_fault schema (numbers tables) (source_of (get_or sources i d)) ≡ None
    → first_behind (source_behind schema) (map source_of (take i sources)) (map source_of (drop i sources))
    ≡ first_behind (source_behind schema) (map source_of (take (i + 1) sources)) (map source_of (drop (i + 1) sources))
sources-more schema tables sources i d below are passes =
    behind-more (source_behind schema) source_of sources i d below (rw are at passes)

pub sources-stop : (schema : Schema) (tables : List TableId) (sources : List RawSource) (i : ℕ) (d : RawSource) (fault : Refusal)
    → i < length sources → AreOf schema tables sources i → source_fault schema (numbers tables) (source_of (get_or sources i d)) ≡ Some fault
    → first_behind (source_behind schema) (map source_of (take i sources)) (map source_of (drop i sources)) ≡ Some fault
sources-stop schema tables sources i d fault below are found =
    behind-stop (source_behind schema) source_of sources i d fault below (rw are at found)

pub sources-end : (schema : Schema) (sources : List RawSource) (i : ℕ) → length sources ≤ i
    → first_behind (source_behind schema) (map source_of (take i sources)) (map source_of (drop i sources)) ≡ None
sources-end schema sources i past = behind-end (source_behind schema) source_of sources i past

pub tables-more : (schema : Schema) (tables : List TableId) (found : TableId) (sources : List RawSource) (i : ℕ) (d : RawSource)
    → i < length sources → AreOf schema tables sources i → found.0 ≡ source_table schema (source_of (get_or sources i d))
    → AreOf schema (tables ++ found ∷ []) sources (i + 1)
tables-more schema tables found sources i d below are there =
    rw (map_more source_of sources i d below, map-append, map-append, are, there) refl

pub tables-end : (schema : Schema) (tables : List TableId) (sources : List RawSource) (i : ℕ) → length sources ≤ i
    → AreOf schema tables sources i → numbers tables ≡ source_tables schema (map source_of sources)
tables-end schema tables sources i past are = rw (take_all i sources past) at are

pub ruleset walks = (sources-stop, sources-end, tables-end)

-- Laws of the lists and the set that a bound query is built of.
use Rattle.std.proofs.Common.{◌≡◌, ℕ, ◌+◌, ◌<◌, ◌≤◌, List, ◌++◌, map, length, get_or, take, drop, refl, ◌∙◌}
use Rattle.std.specs.List.{flat_map}
use Rattle.std.proofs.lemmas.List.{drop_more, drop_all, flat_map_more, take_more}
use Rattle.base_laws.specs.Sets.{with_member, with_members}
use Rattle.mq_base.specs.declared.schema.Schema.{Schema}
use Rattle.sql_reader.specs.declared.raw.RawCol.{RawCol}
use Rattle.sql_reader.specs.Syntax.{column_of}
use Rattle.query_bind.specs.Lookup.{attribute_of}

-- past a part whose items stand at the end
pub bound-more : {X A : Type 0} (f : X → List A) (before now after : List A) (xs : List X) (i : ℕ) (d : X) → i < length xs
    → now ≡ before ++ flat_map f (take i xs) → after ≡ now ++ f (get_or xs i d) → after ≡ before ++ flat_map f (take (i + 1) xs)
bound-more f before now after xs i d below so_far made =
    rw (made, so_far, take_more xs i d below) (flat_map_more f before (take i xs) (get_or xs i d))

-- past a grouped column
pub group-more : (schema : Schema) (set : ℕ) (xs : List RawCol) (i : ℕ) (d : RawCol)
    → i < length xs → with_members set (map (attribute_of schema) (map column_of (drop i xs)))
    ≡ with_members (with_member set (attribute_of schema (column_of (get_or xs i d)))) (map (attribute_of schema) (map column_of (drop (i + 1) xs)))
group-more schema set xs i d below = rw (drop_more xs i d below) refl

pub group-end : (schema : Schema) (set : ℕ) (xs : List RawCol) (i : ℕ)
    → length xs ≤ i → with_members set (map (attribute_of schema) (map column_of (drop i xs))) ≡ set
group-end schema set xs i past = rw (drop_all i xs past) refl

pub group-step : (schema : Schema) (whole set a after : ℕ) (xs : List RawCol) (i : ℕ) (d : RawCol)
    → i < length xs → a ≡ attribute_of schema (column_of (get_or xs i d)) → after ≡ with_member set a
    → whole ≡ with_members set (map (attribute_of schema) (map column_of (drop i xs)))
    → whole ≡ with_members after (map (attribute_of schema) (map column_of (drop (i + 1) xs)))
group-step schema whole set a after xs i d below is made before = rw (made, is) (before ∙ group-more schema set xs i d below)

pub ruleset sets = (group-more, group-end)

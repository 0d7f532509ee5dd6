-- The grouped attributes of a query: each grouped column is one, and each of them is one of the query's tables.
use Rattle.std.proofs.Common.{◌≡◌, ◌≢◌, ℕ, ◌==◌, Bool, true, false, ◌||◌, List, [], ◌∷◌, map, All, refl, sym, ap, subst, ◌∙◌}
use Rattle.std.specs.List.{list_any}
use Rattle.std.proofs.lemmas.Bool.{or_right, or_left, eqb-true, eq-eqb, both_ways}
use Rattle.std.proofs.lemmas.List.Elements.{All-head, All-tail}
use Rattle.base_laws.specs.Sets.{has}
use Rattle.base_laws.proofs.SetLaws.{has-empty, has-with_members}
use Rattle.mq_base.specs.declared.ids.TableId.{TableId}
use Rattle.mq_base.specs.declared.schema.Schema.{Schema}
use Rattle.mq_base.specs.BoundQuery.{IsOfTables}
use Rattle.sql_reader.specs.Syntax.{Column}
use Rattle.query_bind.specs.Lookup.{attribute_of, is_some_column}
use Rattle.query_bind.specs.Bound.{attribute, group_set}

-- a group of some column is not empty
pub some_grouped : (schema : Schema) (group : List Column) → is_some_column group ≡ true → group_set schema group ≢ 0
some_grouped schema [] some = cc
some_grouped schema (c ∷ rest) some = λ empty.
    both_ways (has (group_set schema (c ∷ rest)) (attribute_of schema c))
    (ap (λ set. has set (attribute_of schema c)) empty ∙ has-empty (attribute_of schema c))
    (has-with_members 0 (map (attribute_of schema) (c ∷ rest)) (attribute_of schema c)
    ∙ or_right (has 0 (attribute_of schema c)) (list_any (λ k. k == attribute_of schema c) (map (attribute_of schema) (c ∷ rest)))
    (or_left (attribute_of schema c == attribute_of schema c)
    (list_any (λ k. k == attribute_of schema c) (map (attribute_of schema) rest))
    (eq-eqb (attribute_of schema c) (attribute_of schema c) refl)))

named_used : (schema : Schema) (tables : List TableId) (group : List Column) (a : ℕ)
    → All (λ c. IsOfTables schema tables (attribute schema c)) group → list_any (λ k. k == a) (map (attribute_of schema) group) ≡ true
    → IsOfTables schema tables (record { 0 = a })
named_used schema tables [] a used named = cc
named_used schema tables (c ∷ rest) a used named =
    by_head (attribute_of schema c == a) refl named
    (named_used schema tables rest a (All-tail (λ k. IsOfTables schema tables (attribute schema k)) c rest used))
  where
    by_head : (b : Bool) → (attribute_of schema c == a) ≡ b
        → (b || list_any (λ k. k == a) (map (attribute_of schema) rest)) ≡ true
        → (list_any (λ k. k == a) (map (attribute_of schema) rest) ≡ true → IsOfTables schema tables (record { 0 = a }))
        → IsOfTables schema tables (record { 0 = a })
    by_head true same either later =
        subst (λ k. IsOfTables schema tables (record { 0 = k })) (eqb-true (attribute_of schema c) a same)
        (All-head (λ k. IsOfTables schema tables (attribute schema k)) c rest used)
    by_head false other either later = later either

second_of_or : (a b : Bool) → a ≡ false → (a || b) ≡ true → b ≡ true
second_of_or true b no_first either = cc
second_of_or false b no_first either = either

pub grouped_used : (schema : Schema) (tables : List TableId) (group : List Column)
    → All (λ c. IsOfTables schema tables (attribute schema c)) group
    → (a : ℕ) → has (group_set schema group) a ≡ true → IsOfTables schema tables (record { 0 = a })
grouped_used schema tables group used a member =
    named_used schema tables group a used
    (second_of_or (has 0 a) (list_any (λ k. k == a) (map (attribute_of schema) group)) (has-empty a)
    (sym (has-with_members 0 (map (attribute_of schema) group) a) ∙ member))

-- Laws of the number of nodes: the tables before a place, the sets of attributes, and that ids are below 64.
use Rattle.std.proofs.Common.{◌≡◌, ℕ, ◌+◌, ◌<◌, ◌≤◌, cond, List, [], ◌∷◌, length, get_or, take, drop, Option, Some, None, refl, arith}
use Rattle.std.specs.Prelude.{bytes_eq, unwrap_or}
use Rattle.std.specs.List.{list_any}
use Rattle.std.proofs.lemmas.List.{drop_more, drop_all, take_more}
use Rattle.std.proofs.lemmas.List.Elements.{All-map}
use Rattle.base_laws.proofs.ListLaws.{position-below}
use Rattle.mq_base.specs.declared.ids.TableId.{TableId}
use Rattle.mq_base.specs.declared.query.Cond.{Cond}
use Rattle.mq_base.specs.declared.schema.AttrInfo.{AttrInfo}
use Rattle.mq_base.specs.declared.schema.Schema.{Schema}
use Rattle.mq_base.specs.Nodes.{joins, unjoined, unjoined_after}
use Rattle.mq_base.specs.Small.{HasSmallIds, IsSmallAgg, IsSmallCond, IsSmallItem}
use Rattle.sql_reader.specs.Syntax.{Column, Condition, Query, Side, Col, Lit}
use Rattle.sql_reader.specs.Syntax as raw
use Rattle.query_bind.specs.Bound.{attribute, bound_condition, bound_item, bound_query}
use Rattle.query_bind.specs.Bound as bound
use Rattle.query_bind.specs.Lookup.{all_conditions, all_uses, attribute_named, attribute_of}
use Rattle.query_bind.proofs.BoundUses.{ItemGives, aggs_all}

-- the tables after the first
pub unjoined-first : (schema : Schema) (conds : List Cond) (tables : List TableId)
    → unjoined schema conds tables ≡ unjoined_after schema conds (take 1 tables) (drop 1 tables)
unjoined-first schema conds [] = refl
unjoined-first schema conds (first ∷ rest) = refl

-- past a table
pub unjoined-more : (schema : Schema) (conds : List Cond) (tables : List TableId) (at : ℕ) (d : TableId) → at < length tables
    → unjoined_after schema conds (take at tables) (drop at tables)
    ≡ cond (list_any (joins schema (take at tables) (get_or tables at d)) conds) 0 1 + unjoined_after schema conds (take (at + 1) tables) (drop (at + 1) tables)
unjoined-more schema conds tables at d below = rw (drop_more tables at d below, take_more tables at d below) refl

pub unjoined-end : (schema : Schema) (conds : List Cond) (tables : List TableId) (at : ℕ) → length tables ≤ at
    → unjoined_after schema conds (take at tables) (drop at tables) ≡ 0
unjoined-end schema conds tables at past = rw (drop_all at tables past) refl

pub unjoined-step : (schema : Schema) (conds : List Cond) (tables : List TableId) (at : ℕ) (d : TableId) (whole count one : ℕ) → at < length tables
    → one ≡ cond (list_any (joins schema (take at tables) (get_or tables at d)) conds) 0 1
    → whole ≡ count + unjoined_after schema conds (take at tables) (drop at tables)
    → whole ≡ count + one + unjoined_after schema conds (take (at + 1) tables) (drop (at + 1) tables)
unjoined-step schema conds tables at d whole count one below is before =
    let more = unjoined-more schema conds tables at d below in
    rw is (omega (arith, more, before))

pub ruleset tables = (unjoined-first, unjoined-more, unjoined-end)

-- an attribute that a column names is below 64
attribute_small : (schema : Schema) (c : Column) → length schema.attrs ≤ 64 → attribute_of schema c < 64
attribute_small schema c few = by_place (attribute_named schema c.name) (λ place found. position-below (λ (info : AttrInfo). bytes_eq info.name c.name) schema.attrs place found)
  where
    by_place : (o : Option ℕ) → ((place : ℕ) → o ≡ Some place → place < length schema.attrs) → unwrap_or o 0 < 64
    by_place None below = omega arith
    by_place (Some place) below = let h = below place refl in omega (arith, h)

small_item : (schema : Schema) → length schema.attrs ≤ 64 → (i : raw.Item) → IsSmallItem (bound_item schema i)
small_item schema few (raw.Plain c) = attribute_small schema c few
small_item schema few (raw.Aggregate func c at) = attribute_small schema c few
small_item schema few (raw.Count at) = tt

small_cond : (schema : Schema) → length schema.attrs ≤ 64 → (c : Condition) → IsSmallCond (bound_condition schema c)
small_cond schema few c = by_side c.right
  where
    by_side : (s : Side) → IsSmallCond (bound.bound_side schema (attribute schema c.left) c.op s)
    by_side (Col other) = (attribute_small schema c.left few, attribute_small schema other few)
    by_side (Lit l) = attribute_small schema c.left few

small_function : (schema : Schema) → length schema.attrs ≤ 64 → (i : raw.Item) → ItemGives IsSmallAgg schema i
small_function schema few (raw.Plain c) = tt
small_function schema few (raw.Count at) = tt
small_function schema few (raw.Aggregate func c at) = attribute_small schema c few

-- each id of a bound query is below 64
pub bound-small : (schema : Schema) (q : Query) → length schema.attrs ≤ 64 → HasSmallIds (bound_query schema q)
unfolding bound_query
bound-small schema q few = record {
  items = All-map IsSmallItem (bound_item schema) q.items (λ k d below. small_item schema few (get_or q.items k d));
  conds = All-map IsSmallCond (bound_condition schema) (all_conditions q)
      (λ k d below. small_cond schema few (get_or (all_conditions q) k d));
  aggs = aggs_all IsSmallAgg schema (all_uses q) (λ k d below. small_function schema few (get_or (all_uses q) k d).item);
}

-- The attributes of a bound query's select list are below 64. These laws stand in plan_algebra too, where they are private.
use Rattle.std.proofs.Common.{◌≡◌, ℕ, ◌<◌, ◌==◌, Bool, true, false, List, [], ◌∷◌, Option, Some, None, length, All, ◌⊎◌, inl, inr, ◌∙◌, ap, arith, refl}
use Rattle.std.specs.Prelude.{slice_get}
use Rattle.std.proofs.lemmas.Bool.{eqb-true}
use Rattle.std.proofs.lemmas.Option.{slice_get_within}
use Rattle.std.proofs.lemmas.List.Elements.{All-weaker}
use Rattle.base_laws.specs.Sets.{has}
use Rattle.base_laws.proofs.PlaceLaws.{listed_at}
use Rattle.mq_base.specs.declared.ids.AttrId.{AttrId}
use Rattle.mq_base.specs.declared.ids.TableId.{TableId}
use Rattle.mq_base.specs.declared.query.Item.{Item}
use Rattle.mq_base.specs.declared.query.Item.TheVariants as item
use Rattle.mq_base.specs.declared.query.Query.{Query}
use Rattle.mq_base.specs.declared.schema.AttrInfo.{AttrInfo}
use Rattle.mq_base.specs.declared.schema.Schema.{Schema}
use Rattle.mq_base.specs.BoundQuery.{IsAggregated, IsBareItem, IsBareOrGrouped, IsBound, IsBoundAgg, IsGroupedItem, IsOfTables}
use Rattle.mq_base.specs.Nodes.{is_of, is_of_some}
use Rattle.mq_base.specs.Schema.{IsSchema, table_of}
use Rattle.mq_base.specs.Small.{IsSmallItem}

owned-within : (schema : Schema) (a t : ℕ) → table_of schema a ≡ Some t → a < length schema.attrs
owned-within schema a t owned = by_info (slice_get schema.attrs a) refl
  where
    by_info : (o : Option AttrInfo) → slice_get schema.attrs a ≡ o → a < length schema.attrs
    by_info None none = let h : None ≡ Some t = rw none at owned in cc
    by_info (Some info) got = slice_get_within schema.attrs a info got

is_of-owned : (schema : Schema) (t : ℕ) (a : AttrId) → is_of schema t a ≡ true → table_of schema a.0 ≡ Some t
is_of-owned schema t a holds = by_owner (table_of schema a.0) refl
  where
    by_owner : (o : Option ℕ) → table_of schema a.0 ≡ o → table_of schema a.0 ≡ Some t
    by_owner None none = let h : false ≡ true = rw none at holds in cc
    by_owner (Some owner) some =
        let h : (owner == t) ≡ true = rw some at holds in
        some ∙ ap Some (eqb-true owner t h)

is_of_some-within : (schema : Schema) (tables : List TableId) (a : AttrId) → is_of_some schema tables a ≡ true → a.0 < length schema.attrs
is_of_some-within schema [] a holds = cc
is_of_some-within schema (t ∷ rest) a holds = by_test (is_of schema t.0 a) refl (is_of_some-within schema rest a)
  where
    by_test : (b : Bool) → is_of schema t.0 a ≡ b → (is_of_some schema rest a ≡ true → a.0 < length schema.attrs) → a.0 < length schema.attrs
    by_test true first later = owned-within schema a.0 t.0 (is_of-owned schema t.0 a first)
    by_test false other later = later (rw other at holds)

is_of_some-small : (schema : Schema) (tables : List TableId) (a : AttrId) → IsSchema schema → is_of_some schema tables a ≡ true → a.0 < 64
is_of_some-small schema tables a ok holds = omega (arith, is_of_some-within schema tables a holds, ok.few_attributes)

agg-of : (schema : Schema) (q : Query) (a : AttrId) → All (IsBoundAgg schema q) q.aggs → IsAggregated q.aggs a → IsOfTables schema q.tables a
agg-of schema q a all (func, place, got) = (listed_at (IsBoundAgg schema q) q.aggs place (a, func) all got).used

bare_item : (schema : Schema) (q : Query) → IsSchema schema → (i : Item) → IsBareItem schema q i → IsSmallItem i
bare_item schema q ok (item.Attr a) bound = is_of_some-small schema q.tables a ok bound
bare_item schema q ok item.Count bound = tt

grouped_item : (schema : Schema) (q : Query) → IsSchema schema
    → ((a : ℕ) → has q.group.0 a ≡ true → IsOfTables schema q.tables (record { 0 = a })) → All (IsBoundAgg schema q) q.aggs
    → (i : Item) → IsGroupedItem q i → IsSmallItem i
grouped_item schema q ok group aggs (item.Attr a) bound = by_kind bound
  where
    by_kind : (has q.group.0 a.0 ≡ true) ⊎ IsAggregated q.aggs a → a.0 < 64
    by_kind (inl inside) = is_of_some-small schema q.tables a ok (group a.0 inside)
    by_kind (inr under) = is_of_some-small schema q.tables a ok (agg-of schema q a aggs under)
grouped_item schema q ok group aggs item.Count bound = tt

-- each attribute of the select list is below 64
pub items_small : (schema : Schema) (q : Query) → IsSchema schema → IsBound schema q → All IsSmallItem q.items
items_small schema q ok bound = by_kind q.grouped bound.selected
  where
    by_kind : (b : Bool) → IsBareOrGrouped b schema q → All IsSmallItem q.items
    by_kind false bare = All-weaker (IsBareItem schema q) IsSmallItem (bare_item schema q ok) q.items bare.items
    by_kind true grouped = All-weaker (IsGroupedItem q) IsSmallItem (grouped_item schema q ok grouped.group grouped.aggs) q.items grouped.items

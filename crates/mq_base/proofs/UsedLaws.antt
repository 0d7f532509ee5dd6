-- Laws of the sets of attributes that lists of a query name, one element on and at the end.
use Rattle.std.proofs.Common.{◌≡◌, ℕ, ◌+◌, ◌<◌, ◌≤◌, List, ◌∷◌, length, get_or, drop, refl}
use Rattle.std.specs.Prelude.{filter_map}
use Rattle.std.specs.List.{flat_map}
use Rattle.std.specs.Option.{option_map_or}
use Rattle.std.proofs.lemmas.List.{drop_more, drop_all}
use Rattle.base_laws.specs.Sets.{with_member, with_members}
use Rattle.mq_base.specs.declared.ids.AttrId.{AttrId}
use Rattle.mq_base.specs.declared.query.Agg.{Agg}
use Rattle.mq_base.specs.declared.query.Cond.{Cond}
use Rattle.mq_base.specs.declared.query.Cond.TheVariants as cond
use Rattle.mq_base.specs.declared.query.Item.{Item}
use Rattle.mq_base.specs.declared.query.Item.TheVariants as item
use Rattle.mq_base.specs.Nodes.{aggregated, cond_attributes, item_attribute}

-- past an item, a condition, and an attribute under a function
item_more : (i : Item) (set : ℕ) (rest : List Item)
    → with_members set (filter_map item_attribute (i ∷ rest)) ≡ with_members (option_map_or (with_member set) (item_attribute i) set) (filter_map item_attribute rest)
item_more (item.Attr a) set rest = refl
item_more item.Count set rest = refl

pub items-more : (set : ℕ) (items : List Item) (i : ℕ) (d : Item) → i < length items
    → with_members set (filter_map item_attribute (drop i items))
    ≡ with_members (option_map_or (with_member set) (item_attribute (get_or items i d)) set) (filter_map item_attribute (drop (i + 1) items))
items-more set items i d below = rw (drop_more items i d below) (item_more (get_or items i d) set (drop (i + 1) items))

pub items-end : (set : ℕ) (items : List Item) (i : ℕ) → length items ≤ i
    → with_members set (filter_map item_attribute (drop i items)) ≡ set
items-end set items i past = rw (drop_all i items past) refl

cond_more : (c : Cond) (set : ℕ) (rest : List Cond)
    → with_members set (flat_map cond_attributes (c ∷ rest)) ≡ with_members (with_members set (cond_attributes c)) (flat_map cond_attributes rest)
cond_more (cond.Const a op value) set rest = refl
cond_more (cond.Attrs a op b) set rest = refl

pub conds-more : (set : ℕ) (conds : List Cond) (i : ℕ) (d : Cond) → i < length conds
    → with_members set (flat_map cond_attributes (drop i conds))
    ≡ with_members (with_members set (cond_attributes (get_or conds i d))) (flat_map cond_attributes (drop (i + 1) conds))
conds-more set conds i d below = rw (drop_more conds i d below) (cond_more (get_or conds i d) set (drop (i + 1) conds))

pub conds-end : (set : ℕ) (conds : List Cond) (i : ℕ) → length conds ≤ i
    → with_members set (flat_map cond_attributes (drop i conds)) ≡ set
conds-end set conds i past = rw (drop_all i conds past) refl

pub aggs-more : (set : ℕ) (aggs : List (AttrId × Agg)) (i : ℕ) (d : AttrId × Agg) → i < length aggs
    → with_members set (aggregated (drop i aggs))
    ≡ with_members (with_member set (get_or aggs i d).0.0) (aggregated (drop (i + 1) aggs))
aggs-more set aggs i d below = rw (drop_more aggs i d below) refl

pub aggs-end : (set : ℕ) (aggs : List (AttrId × Agg)) (i : ℕ) → length aggs ≤ i
    → with_members set (aggregated (drop i aggs)) ≡ set
aggs-end set aggs i past = rw (drop_all i aggs past) refl

pub ruleset sets = (items-more, items-end, conds-more, conds-end, aggs-more, aggs-end)

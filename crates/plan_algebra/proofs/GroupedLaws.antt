-- The group, the conditions of HAVING and the projection stand on what they name, so the whole plan of a bound query is one.
use Rattle.std.proofs.Common.{◌≡◌, ℕ, Bool, true, false, List, [], ◌∷◌, ◌++◌, map, length, All, ◌⊎◌, inl, inr, refl, sym, ◌∙◌, ap, arith}
use Rattle.std.specs.Prelude.{filter_map, if◌then◌else◌}
use Rattle.std.proofs.lemmas.Bool.{or_left, or_right}
use Rattle.std.proofs.lemmas.List.Elements.{All-map, All-weaker}
use Rattle.base_laws.specs.Sets.{has}
use Rattle.base_laws.proofs.ListedLaws.{all_mapped, is_in}
use Rattle.base_laws.proofs.PlaceLaws.{listed_at}
use Rattle.base_laws.proofs.SetLaws.{has-bit_and, has-with_members}
use Rattle.mq_base.specs.declared.ids.AttrId.{AttrId}
use Rattle.mq_base.specs.declared.plan.PlanNode.{PlanNode}
use Rattle.mq_base.specs.declared.plan.PlanOp.{PlanOp}
use Rattle.mq_base.specs.declared.plan.PlanOp.TheVariants as op
use Rattle.mq_base.specs.declared.query.Agg.{Agg}
use Rattle.mq_base.specs.declared.query.Having.{Having}
use Rattle.mq_base.specs.declared.query.Having.TheVariants as having
use Rattle.mq_base.specs.declared.query.Item.{Item}
use Rattle.mq_base.specs.declared.query.Item.TheVariants as item
use Rattle.mq_base.specs.declared.query.Query.{Query}
use Rattle.mq_base.specs.declared.schema.Schema.{Schema}
use Rattle.mq_base.specs.BoundQuery.{IsAggregated, IsBare, IsBareItem, IsBareOrGrouped, IsBound, IsBoundAgg, IsBoundHaving, IsGrouped, IsGroupedItem}
use Rattle.mq_base.specs.Nodes.{aggregated, is_of_some, item_attribute, projects, selected_set}
use Rattle.mq_base.specs.Schema.{IsSchema}
use Rattle.plan_algebra.specs.Facts.{IsFormed, IsGroupOf, IsPlan, IsVisible, facts_of, group_set}
use Rattle.plan_algebra.specs.Nodes.{nodes_of, tree_of}
use Rattle.plan_algebra.specs.Plan.{grouping, joined, kept_by, over, plan_tree, projection}
use Rattle.plan_algebra.specs.Tree.{Tree, One}
use Rattle.plan_algebra.proofs.CountLaws.{plan-size}
use Rattle.plan_algebra.proofs.FormedLaws.{HasTables, IsSelectionOn, joined_of, over-formed}
use Rattle.plan_algebra.proofs.PlanLaws.{nodes-length}
use Rattle.plan_algebra.proofs.StandLaws.{tree_back}
use Rattle.plan_algebra.proofs.SmallLaws.{is_of_some-small}
use Rattle.plan_algebra.proofs.UsesLaws.{IsItemOf, all_items, all_used, selected-within, used-agg, used-group, used-item}

-- operations after others
over-append : (ops more : List PlanOp) (x : Tree) → over (ops ++ more) x ≡ over more (over ops x)
over-append [] more x = refl
over-append (first ∷ rest) more x = over-append rest more (One first x)

-- a tree on which the projection on the selected attributes may stand
record MayEnd (q : Query) (x : Tree) : Type 0 where
  pub formed : IsFormed x
  pub items : All (IsItemOf (facts_of x).visible.0) q.items

projected : (q : Query) (x : Tree) → MayEnd q x → IsFormed (over (projection q) x)
projected q x may = by_test (projects q)
  where
    by_test : (b : Bool) → IsFormed (over (if b then op.Project (record { 0 = selected_set q.items }) ∷ [] else []) x)
    by_test true = (may.formed, selected-within (facts_of x).visible.0 q.items may.items)
    by_test false = may.formed

-- without GROUP BY each item is a used attribute of the tables
bare_item : (schema : Schema) (q : Query) (x : Tree) → HasTables schema q (is_of_some schema q.tables) x → (i : Item) → IsBareItem schema q i
    → ((a : AttrId) → i ≡ item.Attr a → is_in (filter_map item_attribute q.items) a.0 ≡ true) → IsItemOf (facts_of x).visible.0 i
bare_item schema q x tables (item.Attr a) bound listed = tables.visible a ∙ rw (used-item q a.0 (listed a refl), bound) refl
bare_item schema q x tables item.Count bound listed = tt

bare_ends : (schema : Schema) (q : Query) (x : Tree) → HasTables schema q (is_of_some schema q.tables) x → IsBare schema q → MayEnd q x
bare_ends schema q x tables bare = record {
  formed = tables.formed;
  items = λ k d below. bare_item schema q x tables _ (bare.items k d below) (all_items q.items k d below);
}

-- the group
group_on : (schema : Schema) (q : Query) (x : Tree) → IsSchema schema → HasTables schema q (is_of_some schema q.tables) x → IsGrouped schema q
    → IsGroupOf (facts_of x) q.group q.aggs
group_on schema q x ok tables grouped = record {
  grouped = record { member = λ a inside. tables.visible (record { 0 = a }) ∙ rw (used-group q a inside, grouped.group a inside) refl };
  under = λ k d below. under_seen _ (grouped.aggs k d below) (all_mapped (λ (p : AttrId × Agg). p.0.0) q.aggs k d below);
  apart = All-weaker (IsBoundAgg schema q) (λ (p : AttrId × Agg). has q.group.0 p.0.0 ≡ false) (λ p bound. bound.ungrouped) q.aggs grouped.aggs;
  once = grouped.once;
}
  where
    under_seen : (p : AttrId × Agg) → IsBoundAgg schema q p → is_in (aggregated q.aggs) p.0.0 ≡ true → IsVisible (facts_of x) p.0
    under_seen p bound inside = record {
      small = is_of_some-small schema q.tables p.0 ok bound.used;
      visible = tables.visible p.0 ∙ rw (used-agg q p.0.0 inside, bound.used) refl;
    }

-- what the group leaves visible
abbrev the_group : Query → PlanOp
the_group q = op.Group q.group q.aggs q.count

in_group : (q : Query) (a : ℕ) → has q.group.0 a ≡ true → has (group_set q.group q.aggs) a ≡ true
in_group q a inside = has-with_members q.group.0 (aggregated q.aggs) a ∙ or_left _ _ inside

in_aggs : (q : Query) (a : ℕ) → is_in (aggregated q.aggs) a ≡ true → has (group_set q.group q.aggs) a ≡ true
in_aggs q a inside = has-with_members q.group.0 (aggregated q.aggs) a ∙ or_right _ _ inside

left_by : (q : Query) (x : Tree) (a : ℕ) → has (facts_of x).visible.0 a ≡ true → has (group_set q.group q.aggs) a ≡ true
    → has (facts_of (One (the_group q) x)).visible.0 a ≡ true
left_by q x a seen kept = has-bit_and (facts_of x).visible.0 (group_set q.group q.aggs) a ∙ rw (seen, kept) refl

group_left : (q : Query) (x : Tree) (a : ℕ) → IsGroupOf (facts_of x) q.group q.aggs → has q.group.0 a ≡ true
    → has (facts_of (One (the_group q) x)).visible.0 a ≡ true
group_left q x a on inside = left_by q x a (on.grouped.member a inside) (in_group q a inside)

agg_left : (q : Query) (x : Tree) (a : AttrId) → IsGroupOf (facts_of x) q.group q.aggs → IsAggregated q.aggs a
    → IsVisible (facts_of (One (the_group q) x)) a
agg_left q x a on (func, place, got) =
    let seen : IsVisible (facts_of x) a = listed_at (λ (p : AttrId × Agg). IsVisible (facts_of x) p.0) q.aggs place (a, func) on.under got in
    let inside : is_in (aggregated q.aggs) a.0 ≡ true =
    listed_at (λ (p : AttrId × Agg). is_in (aggregated q.aggs) p.0.0 ≡ true) q.aggs place (a, func)
    (all_mapped (λ (p : AttrId × Agg). p.0.0) q.aggs) got in
    record { small = seen.small; visible = left_by q x a.0 seen.visible (in_aggs q a.0 inside) }

-- the conditions of HAVING
having_on : (schema : Schema) (q : Query) (x : Tree) → IsGroupOf (facts_of x) q.group q.aggs → (h : Having) → IsBoundHaving schema q h
    → IsSelectionOn (facts_of (One (the_group q) x)) (kept_by h)
having_on schema q x on (having.Const a cmp v) bound = (tt, agg_left q x a on bound.0)
having_on schema q x on (having.Count cmp n) bound = (tt, bound)

grouped_item : (q : Query) (x : Tree) → IsGroupOf (facts_of x) q.group q.aggs → (i : Item) → IsGroupedItem q i
    → IsItemOf (facts_of (One (the_group q) x)).visible.0 i
grouped_item q x on (item.Attr a) bound = by_kind bound
  where
    by_kind : (has q.group.0 a.0 ≡ true) ⊎ IsAggregated q.aggs a → has (facts_of (One (the_group q) x)).visible.0 a.0 ≡ true
    by_kind (inl inside) = group_left q x a.0 on inside
    by_kind (inr under) = (agg_left q x a on under).visible
grouped_item q x on item.Count bound = tt

grouped_ends : (schema : Schema) (q : Query) (x : Tree) → IsSchema schema → HasTables schema q (is_of_some schema q.tables) x → IsGrouped schema q
    → MayEnd q (over (map kept_by q.having) (One (the_group q) x))
grouped_ends schema q x ok tables grouped =
    let on = group_on schema q x ok tables grouped in
    let g = One (the_group q) x in
    let kept : All (IsSelectionOn (facts_of g)) (map kept_by q.having) =
    All-map (IsSelectionOn (facts_of g)) kept_by q.having
    (All-weaker (IsBoundHaving schema q) (λ h. IsSelectionOn (facts_of g) (kept_by h)) (having_on schema q x on) q.having grouped.having) in
    let made = over-formed (map kept_by q.having) g (tables.formed, (on, tables.uncounted)) kept in
    record {
      formed = made.0;
      items = rw made.1.visible
          (All-weaker (IsGroupedItem q) (IsItemOf (facts_of g).visible.0) (grouped_item q x on) q.items grouped.items);
    }

ends : (schema : Schema) (q : Query) (x : Tree) → IsSchema schema → HasTables schema q (is_of_some schema q.tables) x
    → IsBareOrGrouped q.grouped schema q → MayEnd q (over (grouping q) x)
ends schema q x ok tables selected = by_kind q.grouped selected
  where
    by_kind : (b : Bool) → IsBareOrGrouped b schema q → MayEnd q (over (if b then the_group q ∷ map kept_by q.having else []) x)
    by_kind false bare = bare_ends schema q x tables bare
    by_kind true grouped = grouped_ends schema q x ok tables grouped

-- the plan of a bound query is one
pub plan-formed : (schema : Schema) (q : Query) → IsSchema schema → IsBound schema q → IsFormed (plan_tree schema q)
plan-formed schema q ok bound =
    let tables = joined_of schema q q.tables ok bound.some_table bound.once bound.tables (all_used schema q ok bound.conds) in
    rw (over-append (grouping q) (projection q) (joined schema q q.tables))
    (projected q (over (grouping q) (joined schema q q.tables)) (ends schema q (joined schema q q.tables) ok tables bound.selected))

pub plan-sound : (schema : Schema) (q : Query) → IsSchema schema → IsBound schema q → (nodes : List PlanNode)
    → nodes ≡ nodes_of 0 (plan_tree schema q) → IsPlan (record { nodes = nodes })
plan-sound schema q ok bound nodes listed =
    let tree : tree_of nodes ≡ plan_tree schema q = ap tree_of listed ∙ tree_back (plan_tree schema q) in
    record {
      listed = listed ∙ ap (nodes_of 0) (sym tree);
      formed = rw tree (plan-formed schema q ok bound);
      few = omega (arith, ap length listed, nodes-length 0 (plan_tree schema q), plan-size schema q bound, bound.few_nodes);
    }

-- The used attributes of a plan are those that the query names, and each is one of the query's tables.
use Rattle.std.proofs.Common.{◌≡◌, ℕ, suc, ◌+◌, Bool, true, false, ◌||◌, ◌&&◌, List, [], ◌∷◌, ◌++◌, map, length, All, inl, inr, refl, sym, ◌∙◌, ap, bit_or, append_assoc, arith}
use Rattle.std.specs.Prelude.{filter, filter_map}
use Rattle.std.specs.List.{flat_map}
use Rattle.std.specs.Int.Bits.{or_zero_l, or_zero_r}
use Rattle.std.proofs.lemmas.List.{append-nil, get_or_append_left, get_or_push, length-append}
use Rattle.std.proofs.lemmas.List.Elements.{All-cons, All-head, All-map, All-nil, All-tail, All-weaker}
use Rattle.base_laws.specs.Folds.{union_to}
use Rattle.base_laws.specs.Sets.{has}
use Rattle.base_laws.proofs.BoolLaws.{either}
use Rattle.base_laws.proofs.ListedLaws.{holds_of, is_in}
use Rattle.base_laws.proofs.SetLaws.{has-empty, same_members}
use Rattle.base_laws.proofs.UnionLaws.{union-assoc, union-same}
use Rattle.mq_base.specs.declared.ids.AttrId.{AttrId}
use Rattle.mq_base.specs.declared.ids.TableId.{TableId}
use Rattle.mq_base.specs.declared.plan.PlanNode.{PlanNode}
use Rattle.mq_base.specs.declared.plan.PlanOp.{PlanOp}
use Rattle.mq_base.specs.declared.plan.PlanOp.TheVariants as op
use Rattle.mq_base.specs.declared.query.Agg.{Agg}
use Rattle.mq_base.specs.declared.query.Cond.{Cond}
use Rattle.mq_base.specs.declared.query.Cond.TheVariants as cond
use Rattle.mq_base.specs.declared.query.Item.{Item}
use Rattle.mq_base.specs.declared.query.Item.TheVariants as item
use Rattle.mq_base.specs.declared.query.Query.{Query}
use Rattle.mq_base.specs.declared.schema.Schema.{Schema}
use Rattle.mq_base.specs.BoundQuery.{IsBareItem, IsBareOrGrouped, IsBound, IsBoundAgg, IsBoundCond, IsGroupedItem, IsOfTables}
use Rattle.mq_base.specs.Nodes.{aggregated, cond_attributes, is_of_some, item_attribute, joins, used_set}
use Rattle.mq_base.specs.Schema.{IsSchema}
use Rattle.plan_algebra.specs.declared.facts.NodeFacts.{NodeFacts}
use Rattle.plan_algebra.specs.Facts.{IsFormed, IsOneOn, IsTwoOn, facts_of, leaf_set, leaves_set, node_at, one_facts, two_facts}
use Rattle.plan_algebra.specs.Nodes.{last_of, leaf_node, nodes_of, one_node, two_node}
use Rattle.plan_algebra.specs.Plan.{attached, branch, grouping, is_about, join_by, joined, joined_after, over, plan_tree, projection, selection, used_of}
use Rattle.plan_algebra.specs.Tree.{Tree, Leaf, One, Two, size}
use Rattle.plan_algebra.specs.Uses.{UsesOf}
use Rattle.plan_algebra.proofs.FormedLaws.{joined_of}
use Rattle.plan_algebra.proofs.GroupedLaws.{plan-formed}
use Rattle.plan_algebra.proofs.SmallLaws.{agg-of, is_of_some-within}
use Rattle.plan_algebra.proofs.UsesLaws.{all_used, used-parts}

-- the attributes of a tree's leaves
abbrev leaves_of : Tree → ℕ
leaves_of (Leaf t used) = used.0
leaves_of (One o x) = leaves_of x
leaves_of (Two o x y) = bit_or (leaves_of x) (leaves_of y)

-- a set with the attributes of the leaves among these nodes
abbrev with_leaves : ℕ → List PlanNode → ℕ
with_leaves set [] = set
with_leaves set (node ∷ rest) = with_leaves (bit_or set (leaf_set node.op)) rest

with_leaves-append : (set : ℕ) (xs ys : List PlanNode) → with_leaves set (xs ++ ys) ≡ with_leaves (with_leaves set xs) ys
with_leaves-append set [] ys = refl
with_leaves-append set (x ∷ xs) ys = with_leaves-append (bit_or set (leaf_set x.op)) xs ys

leaves-push : (nodes : List PlanNode) (node : PlanNode) → leaves_set (nodes ++ node ∷ []) ≡ bit_or (leaves_set nodes) (leaf_set node.op)
leaves-push nodes node =
    let d : PlanNode = leaf_node (record { 0 = 0 }) (record { 0 = 0 }) in
    let long : length (nodes ++ node ∷ []) ≡ suc (length nodes) = simp length-append (omega arith) in
    ap (union_to (λ n. leaf_set (node_at (nodes ++ node ∷ []) n).op)) long
    ∙ ap (λ s. bit_or s (leaf_set (node_at (nodes ++ node ∷ []) (length nodes)).op))
    (union-same (λ n. leaf_set (node_at (nodes ++ node ∷ []) n).op) (λ n. leaf_set (node_at nodes n).op) (length nodes)
    (λ k below. ap (λ (m : PlanNode). leaf_set m.op) (get_or_append_left nodes (node ∷ []) d k below)))
    ∙ ap (λ (m : PlanNode). bit_or (leaves_set nodes) (leaf_set m.op)) (get_or_push nodes node d (length nodes) refl)

leaves-after : (rest done : List PlanNode) → leaves_set (done ++ rest) ≡ with_leaves (leaves_set done) rest
leaves-after [] done = ap leaves_set (append-nil done)
leaves-after (node ∷ rest) done =
    ap leaves_set (sym (append_assoc done (node ∷ []) rest)) ∙ leaves-after rest (done ++ node ∷ [])
    ∙ ap (λ s. with_leaves s rest) (leaves-push done node)

-- an operation with operands is no leaf
one_inner : (o : PlanOp) (f : NodeFacts) → IsOneOn o f → leaf_set o ≡ 0
one_inner (op.Base t used) f on = absurd on
one_inner _ f on = refl

two_inner : (o : PlanOp) (f g : NodeFacts) → IsTwoOn o f g → leaf_set o ≡ 0
two_inner (op.Base t used) f g on = absurd on
two_inner _ f g on = refl

inner_adds_none : (set : ℕ) (o : PlanOp) → leaf_set o ≡ 0 → bit_or set (leaf_set o) ≡ set
inner_adds_none set o none = ap (bit_or set) none ∙ or_zero_r set

tree-leaves : (x : Tree) (i set : ℕ) → IsFormed x → with_leaves set (nodes_of i x) ≡ bit_or set (leaves_of x)
tree-leaves (Leaf t used) i set formed = refl
tree-leaves (One o x) i set formed =
    with_leaves-append set (nodes_of i x) (one_node o (last_of i x) ∷ [])
    ∙ ap (λ s. bit_or s (leaf_set o)) (tree-leaves x i set formed.0)
    ∙ inner_adds_none (bit_or set (leaves_of x)) o (one_inner o (facts_of x) formed.1)
tree-leaves (Two o x y) i set formed =
    with_leaves-append set (nodes_of i x ++ nodes_of (i + size x) y) (two_node o (last_of i x) (last_of (i + size x) y) ∷ [])
    ∙ ap (λ s. bit_or s (leaf_set o))
    (with_leaves-append set (nodes_of i x) (nodes_of (i + size x) y)
    ∙ ap (λ s. with_leaves s (nodes_of (i + size x) y)) (tree-leaves x i set formed.0)
    ∙ tree-leaves y (i + size x) (bit_or set (leaves_of x)) formed.1
    ∙ union-assoc set (leaves_of x) (leaves_of y))
    ∙ inner_adds_none (bit_or set (bit_or (leaves_of x) (leaves_of y))) o (two_inner o (facts_of x) (facts_of y) formed.2)

nodes-leaves : (x : Tree) → IsFormed x → leaves_set (nodes_of 0 x) ≡ leaves_of x
nodes-leaves x formed = leaves-after (nodes_of 0 x) [] ∙ tree-leaves x 0 0 formed ∙ or_zero_l (leaves_of x)

over-leaves : (ops : List PlanOp) (x : Tree) → leaves_of (over ops x) ≡ leaves_of x
over-leaves [] x = refl
over-leaves (first ∷ rest) x = over-leaves rest (One first x)

-- a tree that has all attributes of its leaves, as one of tables and conditions does
abbrev IsWhole : Tree → Type 0
IsWhole x = (facts_of x).visible.0 ≡ leaves_of x

selection_sees : (c : Cond) (f : NodeFacts) → (one_facts (selection c) f).visible.0 ≡ f.visible.0
selection_sees (cond.Const a cmp v) f = refl
selection_sees (cond.Attrs a cmp b) f = refl

two_sees : (o : PlanOp) (f g : NodeFacts) → (two_facts o f g).visible.0 ≡ bit_or f.visible.0 g.visible.0
two_sees (op.Join a cmp b) f g = refl
two_sees _ f g = refl

conds-whole : (conds : List Cond) (x : Tree) → IsWhole x → IsWhole (over (map selection conds) x)
conds-whole [] x whole = whole
conds-whole (c ∷ rest) x whole = conds-whole rest (One (selection c) x) (selection_sees c (facts_of x) ∙ whole)

branch-whole : (schema : Schema) (q : Query) (t : TableId) → IsWhole (branch schema q t)
branch-whole schema q t = conds-whole (filter (is_about schema t) q.conds) (Leaf t (used_of schema q t)) refl

two-whole : (o : PlanOp) (x y : Tree) → IsWhole x → IsWhole y → IsWhole (Two o x y)
two-whole o x y left right = two_sees o (facts_of x) (facts_of y) ∙ rw (left, right) refl

attached-whole : (schema : Schema) (t : TableId) (links : List Cond) (x y : Tree) → IsWhole x → IsWhole y → IsWhole (attached schema t links x y)
attached-whole schema t [] x y left right = two-whole op.Product x y left right
attached-whole schema t (first ∷ rest) x y left right =
    conds-whole rest (Two (join_by schema t first) x y) (two-whole (join_by schema t first) x y left right)

joined_after-whole : (schema : Schema) (q : Query) (earlier rest : List TableId) (x : Tree) → IsWhole x
    → IsWhole (joined_after schema q earlier x rest)
joined_after-whole schema q earlier [] x whole = whole
joined_after-whole schema q earlier (t ∷ rest) x whole =
    joined_after-whole schema q (earlier ++ t ∷ []) rest (attached schema t (filter (joins schema earlier t) q.conds) x (branch schema q t))
    (attached-whole schema t (filter (joins schema earlier t) q.conds) x (branch schema q t) whole (branch-whole schema q t))

joined-whole : (schema : Schema) (q : Query) (tables : List TableId) → IsWhole (joined schema q tables)
joined-whole schema q [] = refl
joined-whole schema q (first ∷ rest) = joined_after-whole schema q (first ∷ []) rest (branch schema q first) (branch-whole schema q first)

-- the attributes that the parts of a bound query name are of the query's tables
abbrev IsOf : Schema → Query → ℕ → Type 0
IsOf schema q a = IsOfTables schema q.tables (record { 0 = a })

abbrev IsItemOfTables : Schema → Query → Item → Type 0
IsItemOfTables schema q (item.Attr a) = IsOfTables schema q.tables a
IsItemOfTables schema q item.Count = Unit {0}

items_of : (schema : Schema) (q : Query) (items : List Item) → All (IsItemOfTables schema q) items → All (IsOf schema q) (filter_map item_attribute items)
items_of schema q [] all = All-nil (IsOf schema q)
items_of schema q (item.Attr a ∷ rest) all =
    All-cons (IsOf schema q) a.0 (filter_map item_attribute rest) (All-head (IsItemOfTables schema q) (item.Attr a) rest all)
    (items_of schema q rest (All-tail (IsItemOfTables schema q) (item.Attr a) rest all))
items_of schema q (item.Count ∷ rest) all = items_of schema q rest (All-tail (IsItemOfTables schema q) item.Count rest all)

conds_of : (schema : Schema) (q : Query) (conds : List Cond) → All (IsBoundCond schema q.tables) conds
    → All (IsOf schema q) (flat_map cond_attributes conds)
conds_of schema q [] all = All-nil (IsOf schema q)
conds_of schema q (cond.Const a cmp v ∷ rest) all =
    All-cons (IsOf schema q) a.0 (flat_map cond_attributes rest) (All-head (IsBoundCond schema q.tables) (cond.Const a cmp v) rest all).0
    (conds_of schema q rest (All-tail (IsBoundCond schema q.tables) (cond.Const a cmp v) rest all))
conds_of schema q (cond.Attrs a cmp b ∷ rest) all =
    let here : IsBoundCond schema q.tables (cond.Attrs a cmp b) = All-head (IsBoundCond schema q.tables) (cond.Attrs a cmp b) rest all in
    All-cons (IsOf schema q) a.0 (b.0 ∷ flat_map cond_attributes rest) here.0
    (All-cons (IsOf schema q) b.0 (flat_map cond_attributes rest) here.1
    (conds_of schema q rest (All-tail (IsBoundCond schema q.tables) (cond.Attrs a cmp b) rest all)))

aggs_of : (schema : Schema) (q : Query) → All (IsBoundAgg schema q) q.aggs → All (IsOf schema q) (aggregated q.aggs)
aggs_of schema q all =
    All-map (IsOf schema q) (λ (p : AttrId × Agg). p.0.0) q.aggs
    (All-weaker (IsBoundAgg schema q) (λ (p : AttrId × Agg). IsOf schema q p.0.0) (λ p bound. bound.used) q.aggs all)

-- the parts of a query in which attributes are grouped, selected and under functions name attributes of its tables
record NamesOf (schema : Schema) (q : Query) : Type 0 where
  pub group : (a : ℕ) → has q.group.0 a ≡ true → IsOf schema q a
  pub items : All (IsItemOfTables schema q) q.items
  pub aggs : All (IsOf schema q) (aggregated q.aggs)

bare_item : (schema : Schema) (q : Query) (i : Item) → IsBareItem schema q i → IsItemOfTables schema q i
bare_item schema q (item.Attr a) bound = bound
bare_item schema q item.Count bound = tt

grouped_item : (schema : Schema) (q : Query) → ((a : ℕ) → has q.group.0 a ≡ true → IsOf schema q a) → All (IsBoundAgg schema q) q.aggs
    → (i : Item) → IsGroupedItem q i → IsItemOfTables schema q i
grouped_item schema q group aggs (item.Attr a) (inl inside) = group a.0 inside
grouped_item schema q group aggs (item.Attr a) (inr under) = agg-of schema q a aggs under
grouped_item schema q group aggs item.Count bound = tt

names_of : (schema : Schema) (q : Query) (b : Bool) → IsBareOrGrouped b schema q → NamesOf schema q
names_of schema q false bare = record {
  group = λ a inside. let h : has 0 a ≡ true = rw bare.group at inside in let none : has 0 a ≡ false = has-empty a in cc;
  items = All-weaker (IsBareItem schema q) (IsItemOfTables schema q) (bare_item schema q) q.items bare.items;
  aggs = rw bare.aggs (All-nil (IsOf schema q));
}
names_of schema q true grouped = record {
  group = grouped.group;
  items = All-weaker (IsGroupedItem q) (IsItemOfTables schema q) (grouped_item schema q grouped.group grouped.aggs) q.items grouped.items;
  aggs = aggs_of schema q grouped.aggs;
}

used_of_tables : (schema : Schema) (q : Query) (a : ℕ) → IsBound schema q → has (used_set q) a ≡ true → IsOf schema q a
used_of_tables schema q a bound inside =
    let names = names_of schema q q.grouped bound.selected in
    let items = is_in (filter_map item_attribute q.items) a in
    let conds = is_in (flat_map cond_attributes q.conds) a in
    let aggs = is_in (aggregated q.aggs) a in
    either ((has q.group.0 a || items) || conds) aggs (sym (used-parts q a) ∙ inside)
    (λ three. either (has q.group.0 a || items) conds three
    (λ two. either (has q.group.0 a) items two (names.group a)
    (holds_of (IsOf schema q) (filter_map item_attribute q.items) a (items_of schema q q.items names.items)))
    (holds_of (IsOf schema q) (flat_map cond_attributes q.conds) a (conds_of schema q q.conds bound.conds)))
    (holds_of (IsOf schema q) (aggregated q.aggs) a names.aggs)

-- so the tables of the plan have all used attributes
joined-used : (schema : Schema) (q : Query) → IsSchema schema → IsBound schema q → (facts_of (joined schema q q.tables)).visible.0 ≡ used_set q
joined-used schema q ok bound =
    let tables = joined_of schema q q.tables ok bound.some_table bound.once bound.tables (all_used schema q ok bound.conds) in
    same_members (facts_of (joined schema q q.tables)).visible.0 (used_set q) (λ i.
    tables.visible (record { 0 = i })
    ∙ kept_by (has (used_set q) i) (is_of_some schema q.tables (record { 0 = i })) (used_of_tables schema q i bound))
  where
    kept_by : (used of : Bool) → (used ≡ true → of ≡ true) → (used && of) ≡ used
    kept_by true of inside = inside refl
    kept_by false of inside = refl

pub plan-uses : (schema : Schema) (q : Query) → IsSchema schema → IsBound schema q → (nodes : List PlanNode)
    → nodes ≡ nodes_of 0 (plan_tree schema q) → UsesOf schema q (record { nodes = nodes })
plan-uses schema q ok bound nodes listed =
    let named : leaves_set nodes ≡ used_set q =
    ap leaves_set listed ∙ nodes-leaves (plan_tree schema q) (plan-formed schema q ok bound)
    ∙ over-leaves (grouping q ++ projection q) (joined schema q q.tables)
    ∙ sym (joined-whole schema q q.tables) ∙ joined-used schema q ok bound in
    let of_tables : (a : ℕ) → has (leaves_set nodes) a ≡ true → IsOf schema q a =
    λ a inside. used_of_tables schema q a bound (sym (ap (λ s. has s a) named) ∙ inside) in
    record {
      named = named;
      of_tables = of_tables;
      of_schema = λ a inside. is_of_some-within schema q.tables (record { 0 = a }) (of_tables a inside);
    }

-- The table of a leaf: the columns of its table's attributes, and the rows that they stand for.
use Rattle.std.proofs.Common.{◌≡◌, ◌↔◌, ◌⊎◌, inl, inr, refl, sym, ◌∙◌, ap, subst, ℕ, zero, suc, ◌+◌, ◌<◌, ◌≤◌, ◌==◌, Bool, true, false, not, ◌&&◌, cond, IsTrue, List, [], ◌∷◌, ◌++◌, length, map, filter, find, take, set, replicate, bit_and, All, Option, Some, None, IfSome, option_map, slice_get, arith}
use Rattle.std.specs.Prelude.{if◌then◌else◌, option_and_then, zip}
use Rattle.std.specs.List.{AllByRecursion, range_with_len}
use Rattle.std.specs.Option.{option_map_or}
use Rattle.std.proofs.lemmas.Bool.{cases_lt, eq-eqb, eqb-true, le-leb}
use Rattle.std.proofs.lemmas.List.{get_or_default, get_or_past, get_or-set_other, get_or-set_same, length-map, length-set, map-set}
use Rattle.std.proofs.lemmas.List.Elements.{All-weaker, recursion_from_All}
use Rattle.std.proofs.lemmas.List.Quantifiers.{position-Some}
use Rattle.std.proofs.lemmas.Option.{same_Some, slice_get_within, slice_get-map}
use Rattle.base_laws.proofs.FilterLaws.{each_append}
use Rattle.base_laws.proofs.BoolLaws.{both}
use Rattle.base_laws.proofs.SetLaws.{has-bit_and, has-empty, has-without}
use Rattle.base_laws.specs.Sets.{has, without}
use Rattle.extended_plan.specs.Setting.{Setting, is_base, kind_at, known_at, leaf_of, op_at}
use Rattle.extended_plan.specs.Validity.{used_at}
use Rattle.extended_plan.specs.Ready.{IsReady}
use Rattle.extended_plan.proofs.JobLaws.{found_is}
use Rattle.mq_base.specs.declared.ids.TableId.{TableId}
use Rattle.mq_base.specs.declared.plan.PlanNode.{PlanNode}
use Rattle.mq_base.specs.declared.plan.PlanOp.{PlanOp}
use Rattle.mq_base.specs.declared.plan.PlanOp.TheVariants as op
use Rattle.mq_base.specs.declared.query.Cond.{Cond}
use Rattle.mq_base.specs.declared.query.Cond.TheVariants as cond
use Rattle.mq_base.specs.declared.query.Having.{Having}
use Rattle.mq_base.specs.declared.query.Having.TheVariants as having
use Rattle.mq_base.specs.declared.query.Query.{Query}
use Rattle.mq_base.specs.declared.schema.AttrInfo.{AttrInfo}
use Rattle.mq_base.specs.declared.schema.Schema.{Schema}
use Rattle.mq_base.specs.declared.schema.TableInfo.{TableInfo}
use Rattle.mq_base.specs.declared.table.PlainTable.{PlainTable}
use Rattle.mq_base.specs.declared.table.Scheme.{Scheme}
use Rattle.mq_base.specs.declared.value.Value.{Value}
use Rattle.mq_base.specs.declared.value.Value.TheVariants.{Int, Text}
use Rattle.mq_base.specs.declared.value.ValueType.{ValueType}
use Rattle.mq_base.specs.declared.value.ValueType.TheVariants as type
use Rattle.mq_base.specs.BoundQuery.{type_at}
use Rattle.mq_base.specs.Nodes.{is_of, joins, projects, selected_set, used_set}
use Rattle.mq_base.specs.Schema.{IsSchema, columns_of, is_column_of, table_of}
use Rattle.mq_base.specs.Table.{HasForm, IsColumn}
use Rattle.mq_base.specs.Value.{IsCell}
use Rattle.plan_algebra.specs.Plan.{attached, branch, columns_set, grouping, is_about, join_by, joined, joined_after, kept_by, plan_tree, projection, selection, turned, used_of}
use Rattle.plan_algebra.specs.Tree.{Tree, Leaf, Two}
use Rattle.plan_algebra.specs.declared.facts.NodeFacts.{NodeFacts}
use Rattle.plan_algebra.specs.declared.kind.Kind.{Kind}
use Rattle.plan_algebra.specs.declared.kind.Kind.TheVariants as kind
use Rattle.plan_algebra.specs.Facts.{IsNodeAt, leaf_set}
use Rattle.plan_algebra.specs.Nodes.{leaf_node, nodes_of}
use Rattle.sealed_column.proofs.CellLaws.{Together, together_at}
use Rattle.provider_engine.proofs.LeafLaws.{column_of as info_of}
use Rattle.provider_engine.proofs.BoundLaws.{EachOp, at_place, each_node, each_over}
use Rattle.sealed_column.specs.declared.column.AnyColumn.{AnyColumn}
use Rattle.column_table.specs.Columns as columns_shown
use Rattle.column_table.specs.Columns.{Shown, column_at, has_rows, rows_in, shown_columns}
use Rattle.column_table.specs.Cells.{Cell, Plain, Seals}
use Rattle.provider_engine.specs.OfJob.{IsColumnAt, IsColumnOpened, StandsFor}
use Rattle.provider_engine.specs.Opening.{listed_key, seals_of}
use Rattle.provider_engine.specs.Run.{plain_row, sealed_cell, sealed_row, sealed_rows}
use Rattle.provider_engine.proofs.CellLaws.{cell_typed}
use Rattle.provider_engine.proofs.SealRows.{alike, locked_cells, locked_length, numbered, twice, unchanged}
use Rattle.provider_engine.specs.inside.Leaves.{AreOwn, HasValues, IsLockedOf, IsMovedAt, IsPlainOf, IsRestAt, place_of}
use Rattle.provider_engine.specs.inside.Sealing.{IsLocked, plain_column, with_column}
use Rattle.key_clusters.specs.Keys.{scheme_at}
use Rattle.relation_profile.specs.declared.view.View.{View}
use Rattle.row_algebra.specs.Contents.{column_of, owns, row_at, table_rows}
use Rattle.row_algebra.specs.Rows.{RowOf, cut}
use Rattle.sealed_column.specs.Cells.{OpenTo}
use Rattle.sealed_column.specs.Seal.{IsValueOf}

-- ---- the used attributes of a leaf are its table's own

-- a leaf has attributes of its table alone
abbrev IsOwnLeaf : Schema → PlanOp → Type 0
IsOwnLeaf schema (op.Base t used) = AreOwn schema t.0 used.0
IsOwnLeaf schema _ = Unit {0}

set_own : (schema : Schema) → IsSchema schema → (t : TableId) (a : ℕ) → has (columns_set schema t) a ≡ true → owns schema t.0 a ≡ true
set_own schema sound t a inside = by_info (slice_get schema.tables t.0) (sound.listed t.0) inside
  where
    same_test : (i : ℕ) → (i == i) ≡ true
    same_test i = grind arith

    by_info : (o : Option TableInfo)
        → IfSome o (λ info. (b : ℕ) → (has info.attrs.0 b ≡ true) ↔ (table_of schema b ≡ Some t.0))
        → has (option_map_or (λ (info : TableInfo). info.attrs.0) o 0) a ≡ true → owns schema t.0 a ≡ true
    by_info None listed held = let bad : true ≡ false = sym held ∙ has-empty a in cc
    by_info (Some info) listed held =
        ap (λ (o : Option ℕ). option_map_or (λ owner. owner == t.0) o false) ((listed a).0 held) ∙ same_test t.0

branch_own : (schema : Schema) → IsSchema schema → (q : Query) (t : TableId) → AreOwn schema t.0 (used_of schema q t).0
branch_own schema sound q t = record {
  owned = λ a inside. set_own schema sound t a
      (both (has (used_set q) a) (has (columns_set schema t) a)
      (sym (has-bit_and (used_set q) (columns_set schema t) a) ∙ inside)).1;
}

selection_own : (schema : Schema) (c : Cond) → IsOwnLeaf schema (selection c)
selection_own schema (cond.Const a cmp x) = tt
selection_own schema (cond.Attrs a cmp b) = tt

selections_own : (schema : Schema) (conds : List Cond) → AllByRecursion (IsOwnLeaf schema) (map selection conds)
selections_own schema [] = tt
selections_own schema (c ∷ rest) = (selection_own schema c, selections_own schema rest)

join_own : (schema : Schema) (t : TableId) (c : Cond) → IsOwnLeaf schema (join_by schema t c)
join_own schema t (cond.Const a cmp x) = tt
join_own schema t (cond.Attrs a cmp b) = by_side (is_of schema t.0 b)
  where
    by_side : (side : Bool) → IsOwnLeaf schema (if side then op.Join a cmp b else op.Join b (turned cmp) a)
    by_side true = tt
    by_side false = tt

tree_own : (schema : Schema) → IsSchema schema → (q : Query) (t : TableId) → EachOp (IsOwnLeaf schema) (branch schema q t)
tree_own schema sound q t =
    each_over (IsOwnLeaf schema) (map selection (filter (is_about schema t) q.conds)) (Leaf t (used_of schema q t))
    (selections_own schema (filter (is_about schema t) q.conds)) (branch_own schema sound q t)

attached_own : (schema : Schema) (t : TableId) (conds : List Cond) (x y : Tree) → EachOp (IsOwnLeaf schema) x
    → EachOp (IsOwnLeaf schema) y → EachOp (IsOwnLeaf schema) (attached schema t conds x y)
attached_own schema t [] x y left right = (left, right, tt)
attached_own schema t (c ∷ rest) x y left right =
    each_over (IsOwnLeaf schema) (map selection rest) (Two (join_by schema t c) x y) (selections_own schema rest)
    (left, right, join_own schema t c)

joined_own_after : (schema : Schema) → IsSchema schema → (q : Query) (tables earlier : List TableId) (x : Tree)
    → EachOp (IsOwnLeaf schema) x → EachOp (IsOwnLeaf schema) (joined_after schema q earlier x tables)
joined_own_after schema sound q [] earlier x below = below
joined_own_after schema sound q (t ∷ rest) earlier x below =
    joined_own_after schema sound q rest (earlier ++ t ∷ [])
    (attached schema t (filter (joins schema earlier t) q.conds) x (branch schema q t))
    (attached_own schema t (filter (joins schema earlier t) q.conds) x (branch schema q t) below (tree_own schema sound q t))

joined_own : (schema : Schema) → IsSchema schema → (q : Query) (tables : List TableId) → EachOp (IsOwnLeaf schema) (joined schema q tables)
joined_own schema sound q [] = record { owned = λ a inside. let bad : true ≡ false = sym inside ∙ has-empty a in cc }
joined_own schema sound q (t ∷ rest) = joined_own_after schema sound q rest (t ∷ []) (branch schema q t) (tree_own schema sound q t)

kept_own : (schema : Schema) (h : Having) → IsOwnLeaf schema (kept_by h)
kept_own schema (having.Const a cmp x) = tt
kept_own schema (having.Count cmp n) = tt

each_kept_own : (schema : Schema) (hs : List Having) → AllByRecursion (IsOwnLeaf schema) (map kept_by hs)
each_kept_own schema [] = tt
each_kept_own schema (h ∷ rest) = (kept_own schema h, each_kept_own schema rest)

grouping_own : (schema : Schema) (q : Query) → AllByRecursion (IsOwnLeaf schema) (grouping q)
grouping_own schema q = by_test q.grouped
  where
    by_test : (b : Bool) → AllByRecursion (IsOwnLeaf schema) (if b then op.Group q.group q.aggs q.count ∷ map kept_by q.having else [])
    by_test true = (tt, each_kept_own schema q.having)
    by_test false = tt

projection_own : (schema : Schema) (q : Query) → AllByRecursion (IsOwnLeaf schema) (projection q)
projection_own schema q = by_test (projects q)
  where
    by_test : (b : Bool) → AllByRecursion (IsOwnLeaf schema) (if b then op.Project (record { 0 = selected_set q.items }) ∷ [] else [])
    by_test true = (tt, tt)
    by_test false = tt

nodes_own : (schema : Schema) → IsSchema schema → (q : Query)
    → AllByRecursion (λ (node : PlanNode). IsOwnLeaf schema node.op) (nodes_of 0 (plan_tree schema q))
nodes_own schema sound q =
    each_node (IsOwnLeaf schema) (plan_tree schema q) 0
    (each_over (IsOwnLeaf schema) (grouping q ++ projection q) (joined schema q q.tables)
    (each_append (IsOwnLeaf schema) (grouping q) (projection q) (grouping_own schema q) (projection_own schema q))
    (joined_own schema sound q q.tables))

leaf_own : (schema : Schema) (o : PlanOp) (t : TableId) → is_base t o ≡ true → IsOwnLeaf schema o → AreOwn schema t.0 (leaf_set o)
leaf_own schema (op.Base u used) t base own = subst (λ i. AreOwn schema i used.0) (eqb-true u.0 t.0 base) own
leaf_own schema _ t base own = cc

-- ---- the values of a type that a table's cell may hold

cell_value : (ty : ValueType) (v : Value) → IsCell ty v → IsValueOf ty v
cell_value type.Int (Int x) cell = refl
cell_value type.Text (Text t) cell = le-leb (length t) 120 cell
cell_value type.Int (Text t) cell = absurd cell
cell_value type.Text (Int x) cell = absurd cell

pub cells_are_values : (ty : ValueType) (values : List Value) → All (IsCell ty) values → All (IsValueOf ty) values
cells_are_values ty values cells = All-weaker (IsCell ty) (IsValueOf ty) (cell_value ty) values cells

-- ---- the leaf of a table

pub used_is : (s : Setting) (n : ℕ) (t : TableId) → IsReady s → leaf_of s t ≡ Some n → (known_at s n).visible.0 ≡ used_at s t
used_is s n t ready found =
    sym (ap (λ (o : Option ℕ). option_map_or (λ m. leaf_set (op_at s m)) o 0) found ∙ (found_is s n t ready found).used)

pub used_own : (s : Setting) (q : Query) (n : ℕ) (t : TableId) → IsReady s → IsSchema s.policy.schema
    → s.basis.nodes ≡ nodes_of 0 (plan_tree s.policy.schema q) → leaf_of s t ≡ Some n
    → AreOwn s.policy.schema t.0 (known_at s n).visible.0
used_own s q n t ready sound planned found =
    let d : PlanNode = leaf_node (record { 0 = 0 }) (record { 0 = 0 }) in
    let place = position-Some (λ (node : PlanNode). is_base t node.op) s.basis.nodes n d found in
    let all = subst (AllByRecursion (λ (node : PlanNode). IsOwnLeaf s.policy.schema node.op)) (sym planned) (nodes_own s.policy.schema sound q) in
    subst (AreOwn s.policy.schema t.0) (found_is s n t ready found).used
    (leaf_own s.policy.schema (op_at s n) t place.1
    (at_place (λ (node : PlanNode). IsOwnLeaf s.policy.schema node.op) s.basis.nodes n d all place.0))

uncounted : (facts : ℕ → NodeFacts) (n : ℕ) (o : PlanOp) (k : Kind) → k ≡ kind.Leaf → IsNodeAt facts n o k → (facts n).count ≡ false
uncounted facts n (op.Base t used) kind.Leaf same at = ap (λ (f : NodeFacts). f.count) at
uncounted facts n _ kind.Leaf same at = absurd at
uncounted facts n o _ same at = cc

-- a leaf has no count
pub leaf_uncounted : (s : Setting) (n : ℕ) (t : TableId) → IsReady s → leaf_of s t ≡ Some n → (known_at s n).count ≡ false
leaf_uncounted s n t ready found =
    let is = found_is s n t ready found in
    uncounted (known_at s) n (op_at s n) (kind_at s n) is.kind (ready.facts.node n is.below)

-- what a set has in common with another is a table's own where the set is, and so is what it has beyond the other
pub own_common : (schema : Schema) (t used other members : ℕ) → AreOwn schema t used → members ≡ bit_and used other → AreOwn schema t members
own_common schema t used other members own is = record {
  owned = λ a inside. own.owned a (both (has used a) (has other a)
      (sym (has-bit_and used other a) ∙ sym (ap (λ m. has m a) is) ∙ inside)).0;
}

pub own_less : (schema : Schema) (t used other members : ℕ) → AreOwn schema t used → members ≡ without used other → AreOwn schema t members
own_less schema t used other members own is = record {
  owned = λ a inside. own.owned a (both (has used a) (not (has other a))
      (sym (has-without used other a) ∙ sym (ap (λ m. has m a) is) ∙ inside)).0;
}

-- ---- the places of a table's attributes

module _ {X : Type 0} (p : X → Bool) where
  counts_more : (xs : List X) (a : ℕ)
      → length (filter p (take (suc a) xs)) ≡ length (filter p (take a xs)) + (if option_map_or p (slice_get xs a) false then 1 else 0)
  counts_more [] zero = refl
  counts_more [] (suc a) = refl
  counts_more (x ∷ xs) zero = by_test (p x)
    where
      by_test : (b : Bool) → length (cond b (x ∷ filter p (take 0 xs)) (filter p (take 0 xs))) ≡ 0 + (if b then 1 else 0)
      by_test true = refl
      by_test false = refl
  counts_more (x ∷ xs) (suc a) = by_test (p x) (counts_more xs a)
    where
      by_test : (b : Bool)
          → length (filter p (take (suc a) xs)) ≡ length (filter p (take a xs)) + (if option_map_or p (slice_get xs a) false then 1 else 0)
          → length (cond b (x ∷ filter p (take (suc a) xs)) (filter p (take (suc a) xs)))
          ≡ length (cond b (x ∷ filter p (take a xs)) (filter p (take a xs))) + (if option_map_or p (slice_get xs a) false then 1 else 0)
      by_test true rest = omega (arith, rest)
      by_test false rest = rest

  -- one that passes stands, among those that pass, after as many as pass before it
  kept_at : (xs : List X) (a : ℕ) (x : X) → slice_get xs a ≡ Some x → p x ≡ true
      → slice_get (filter p xs) (length (filter p (take a xs))) ≡ Some x
  kept_at [] a x found passes = cc
  kept_at (y ∷ xs) zero x found passes =
      let same : y ≡ x = cc in
      let first : p y ≡ true = ap p same ∙ passes in
      rw first (ap (λ z. Some z) same)
  kept_at (y ∷ xs) (suc a) x found passes = by_test (p y) (kept_at xs a x found passes)
    where
      by_test : (b : Bool) → slice_get (filter p xs) (length (filter p (take a xs))) ≡ Some x
          → slice_get (cond b (y ∷ filter p xs) (filter p xs)) (length (cond b (y ∷ filter p (take a xs)) (filter p (take a xs)))) ≡ Some x
      by_test true rest = rest
      by_test false rest = rest

  kept_few : (xs : List X) (a : ℕ) → length (filter p (take a xs)) ≤ a
  kept_few [] zero = omega arith
  kept_few [] (suc a) = omega arith
  kept_few (x ∷ xs) zero = omega arith
  kept_few (x ∷ xs) (suc a) = by_test (p x) (kept_few xs a)
    where
      by_test : (b : Bool) → length (filter p (take a xs)) ≤ a → length (cond b (x ∷ filter p (take a xs)) (filter p (take a xs))) ≤ suc a
      by_test true few = omega (arith, few)
      by_test false few = omega (arith, few)

-- the place of an attribute is not after the attribute
pub place_few : (schema : Schema) (t a : ℕ) → place_of schema t a ≤ a
place_few schema t a = kept_few (is_column_of t) schema.attrs a

owns_is : (schema : Schema) (t a : ℕ) → owns schema t a ≡ option_map_or (is_column_of t) (slice_get schema.attrs a) false
owns_is schema t a = by_info (slice_get schema.attrs a)
  where
    by_info : (o : Option AttrInfo) → option_map_or (λ owner. owner == t) (option_map (λ (info : AttrInfo). info.table.0) o) false
        ≡ option_map_or (is_column_of t) o false
    by_info None = refl
    by_info (Some info) = refl

place_step : (schema : Schema) (t a : ℕ) (b : Bool) → owns schema t a ≡ b → place_of schema t (a + 1) ≡ place_of schema t a + (if b then 1 else 0)
place_step schema t a b is =
    let next : a + 1 ≡ suc a = omega arith in
    ap (λ k. place_of schema t k) next ∙ counts_more (is_column_of t) schema.attrs a
    ∙ ap (λ (c : Bool). place_of schema t a + (if c then 1 else 0)) (sym (owns_is schema t a) ∙ is)

-- the place of the attribute after this one
pub place_after_own : (schema : Schema) (t a at : ℕ) → at ≡ place_of schema t a → owns schema t a ≡ true → at + 1 ≡ place_of schema t (a + 1)
place_after_own schema t a at is own = ap (λ k. k + 1) is ∙ sym (place_step schema t a true own)

pub place_after_other : (schema : Schema) (t a at : ℕ) → at ≡ place_of schema t a → owns schema t a ≡ false → at ≡ place_of schema t (a + 1)
place_after_other schema t a at is other = is ∙ omega (arith, place_step schema t a false other)

-- ---- the column of an attribute

found_at : (p : AttrInfo → Bool) (test : ℕ → Bool) (infos : List AttrInfo) (k a j : ℕ) (columns : List (List Value)) (info : AttrInfo)
    → k + a ≡ j → ((i m : ℕ) → k + i ≡ m → test m ≡ option_map_or p (slice_get infos i) false) → slice_get infos a ≡ Some info → p info ≡ true
    → option_map (λ (q : ℕ × List Value). q.1) (find (λ (q : ℕ × List Value). q.0 == j) (zip (filter test (range_with_len k (length infos))) columns))
    ≡ slice_get columns (length (filter p (take a infos)))
found_at p test [] k a j columns info sum tests found passes = cc
found_at p test (other ∷ infos) k zero j columns info sum tests found passes = by_columns columns
  where
    kept : test k ≡ true
    kept = tests 0 k (omega arith) ∙ (let same : other ≡ info = cc in ap p same ∙ passes)

    here : (k == j) ≡ true
    here = grind (arith, sum)

    by_columns : (cs : List (List Value))
        → option_map (λ (q : ℕ × List Value). q.1) (find (λ (q : ℕ × List Value). q.0 == j)
        (zip (cond (test k) (k ∷ filter test (range_with_len (k + 1) (length infos))) (filter test (range_with_len (k + 1) (length infos)))) cs))
        ≡ slice_get cs 0
    by_columns [] = rw kept refl
    by_columns (c ∷ cs) = rw (kept, here) refl
found_at p test (other ∷ infos) k (suc a) j columns info sum tests found passes =
    by_test (p other) (tests 0 k (omega arith)) columns
    (λ cs. found_at p test infos (k + 1) a j cs info (omega (arith, sum)) (λ i m at. tests (suc i) m (omega (arith, at))) found passes)
  where
    Later : List (List Value) → Type 0
    Later cs =
        option_map (λ (q : ℕ × List Value). q.1) (find (λ (q : ℕ × List Value). q.0 == j)
        (zip (filter test (range_with_len (k + 1) (length infos))) cs))
        ≡ slice_get cs (length (filter p (take a infos)))

    there : (k == j) ≡ false
    there = grind (arith, sum)

    by_test : (b : Bool) → test k ≡ b → (cs : List (List Value)) → ((ds : List (List Value)) → Later ds)
        → option_map (λ (q : ℕ × List Value). q.1) (find (λ (q : ℕ × List Value). q.0 == j)
        (zip (cond (test k) (k ∷ filter test (range_with_len (k + 1) (length infos))) (filter test (range_with_len (k + 1) (length infos)))) cs))
        ≡ slice_get cs (length (cond b (other ∷ filter p (take a infos)) (filter p (take a infos))))
    by_test true kept [] later = rw kept refl
    by_test true kept (c ∷ cs) later = rw (kept, there) (later cs)
    by_test false left_out cs later = rw left_out (later cs)

-- the column of an attribute of a table
pub record OwnColumn (schema : Schema) (table : PlainTable) (a : ℕ) : Type 0 where
  pub info : AttrInfo
  pub found : slice_get schema.attrs a ≡ Some info
  pub values : List Value
  pub read : slice_get table.columns (place_of schema table.table.0 a) ≡ Some values
  pub there : column_of schema table a ≡ Some values
  pub form : IsColumn table.rows info values

pub own_column : (schema : Schema) (table : PlainTable) (a : ℕ) → HasForm schema table → owns schema table.table.0 a ≡ true
    → OwnColumn schema table a
own_column schema table a form own =
    let t = table.table.0 in
    let is = info_of schema t a own in
    let listed : slice_get (columns_of schema t) (place_of schema t a) ≡ Some is.info =
    kept_at (is_column_of t) schema.attrs a is.info is.found (of_table is.info.table.0 t is.table) in
    let beside = subst (λ o. Together (IsColumn table.rows) o (slice_get table.columns (place_of schema t a))) listed
    (together_at (IsColumn table.rows) (columns_of schema t) table.columns form.columns (place_of schema t a)) in
    by_column is.info is.found (of_table is.info.table.0 t is.table) (slice_get table.columns (place_of schema t a)) refl beside
  where
    of_table : (i t : ℕ) → i ≡ t → (i == t) ≡ true
    of_table i t same = grind (arith, same)

    by_column : (info : AttrInfo) → slice_get schema.attrs a ≡ Some info → is_column_of table.table.0 info ≡ true → (o : Option (List Value))
        → slice_get table.columns (place_of schema table.table.0 a) ≡ o → Together (IsColumn table.rows) (Some info) o
        → OwnColumn schema table a
    by_column info found passes None read beside = absurd beside
    by_column info found passes (Some values) read beside = record {
      info = info;
      found = found;
      values = values;
      read = read;
      there = found_at (is_column_of table.table.0) (owns schema table.table.0) schema.attrs 0 a a table.columns info (omega arith)
          (λ i m at. owns_is schema table.table.0 m
          ∙ ap (λ k. option_map_or (is_column_of table.table.0) (slice_get schema.attrs k) false) (omega (arith, at))) found passes ∙ read;
      form = beside;
    }

-- what is read at the place of an attribute
pub record OwnValues (schema : Schema) (table : PlainTable) (a : ℕ) (ty : ValueType) (values : List Value) : Type 0 where
  pub of : HasValues schema table a ty values
  pub filled : length values ≡ table.rows
  pub cells : All (IsCell ty) values

own_typed : (schema : Schema) (table : PlainTable) (a : ℕ) (ty : ValueType) (values : List Value) → (own : OwnColumn schema table a)
    → type_at schema a ≡ Some ty → own.values ≡ values → OwnValues schema table a ty values
own_typed schema table a ty values own typed same =
    let type_is : own.info.ty ≡ ty =
    same_Some own.info.ty ty (sym (ap (λ (o : Option AttrInfo). option_map (λ (i : AttrInfo). i.ty) o) own.found) ∙ typed) in
    subst (OwnValues schema table a ty) same (record {
      of = record { typed = typed; there = own.there };
      filled = own.form.filled;
      cells = subst (λ t. All (IsCell t) own.values) type_is own.form.cells;
    })

pub own_values : (schema : Schema) (table : PlainTable) (a at : ℕ) (ty : ValueType) (values : List Value) → HasForm schema table
    → owns schema table.table.0 a ≡ true → at ≡ place_of schema table.table.0 a → type_at schema a ≡ Some ty
    → slice_get table.columns at ≡ Some values → OwnValues schema table a ty values
own_values schema table a at ty values form own is typed read =
    let column = own_column schema table a form own in
    own_typed schema table a ty values column typed
    (same_Some column.values values (sym column.read ∙ ap (slice_get table.columns) (sym is) ∙ read))

pub own_within : (schema : Schema) (table : PlainTable) (a at : ℕ) → HasForm schema table → owns schema table.table.0 a ≡ true
    → at ≡ place_of schema table.table.0 a → at < length table.columns
own_within schema table a at form own is =
    let column = own_column schema table a form own in
    slice_get_within table.columns at column.values (ap (slice_get table.columns) is ∙ column.read)

-- the values of an attribute, whatever they are found by
pub values_own : (schema : Schema) (table : PlainTable) (a : ℕ) (ty : ValueType) (values : List Value) → HasForm schema table
    → owns schema table.table.0 a ≡ true → HasValues schema table a ty values → OwnValues schema table a ty values
values_own schema table a ty values form own of =
    let column = own_column schema table a form own in
    own_typed schema table a ty values column of.typed (same_Some column.values values (sym column.there ∙ of.there))

-- ---- columns filled one by one

-- the columns of the attributes so far are as asked, and the later ones are as they were
pub record IsFilledTo (P : ℕ → Option Shown → Option Shown → Type 0) (before columns : List (Option Shown)) (a : ℕ) : Type 0 where
  pub long : length columns ≡ 64
  pub done : (b : ℕ) → b < a → P b (column_at before b) (column_at columns b)
  pub rest : (b : ℕ) → a ≤ b → column_at columns b ≡ column_at before b

up_to : (a b : ℕ) → b < a + 1 → (b < a) ⊎ (b ≡ a)
up_to a b below = grind (arith, below)

-- one that stays as it was
pub filled_same : (P : ℕ → Option Shown → Option Shown → Type 0) (before columns : List (Option Shown)) (a : ℕ)
    → IsFilledTo P before columns a → P a (column_at before a) (column_at before a) → IsFilledTo P before columns (a + 1)
filled_same P before columns a so_far one = record {
  long = so_far.long;
  done = λ b below. by_place b (up_to a b below);
  rest = λ b above. so_far.rest b (omega (arith, above));
}
  where
    at_place : P a (column_at before a) (column_at columns a)
    at_place = subst (P a (column_at before a)) (sym (so_far.rest a (omega arith))) one

    by_place : (b : ℕ) → (b < a) ⊎ (b ≡ a) → P b (column_at before b) (column_at columns b)
    by_place b (inl below) = so_far.done b below
    by_place b (inr same) = subst (λ i. P i (column_at before i) (column_at columns i)) (sym same) at_place

-- one that is put there
pub filled_put : (P : ℕ → Option Shown → Option Shown → Type 0) (before columns : List (Option Shown)) (a : ℕ) (o : Option Shown) → a < 64
    → IsFilledTo P before columns a → P a (column_at before a) o → IsFilledTo P before (set columns a o) (a + 1)
filled_put P before columns a o small so_far one = record {
  long = length-set columns a o ∙ so_far.long;
  done = λ b below. by_place b (up_to a b below);
  rest = λ b above. get_or-set_other columns a b o None (λ same. omega (arith, above, same)) ∙ so_far.rest b (omega (arith, above));
}
  where
    at_place : P a (column_at before a) (column_at (set columns a o) a)
    at_place = subst (P a (column_at before a))
        (sym (get_or-set_same columns a o None (subst (λ n. a < n) (sym so_far.long) small))) one

    by_place : (b : ℕ) → (b < a) ⊎ (b ≡ a) → P b (column_at before b) (column_at (set columns a o) b)
    by_place b (inl below) =
        subst (P b (column_at before b)) (sym (get_or-set_other columns a b o None (λ same. omega (arith, below, same)))) (so_far.done b below)
    by_place b (inr same) = subst (λ i. P i (column_at before i) (column_at (set columns a o) i)) (sym same) at_place

-- ---- the columns that are sealed at rest

pub locked_by : (scheme other : Scheme) (key same : List ℕ) (place : ℕ) (ty : ValueType) (values : List Value) (c : Shown) → scheme ≡ other
    → key ≡ same → IsLocked scheme key place ty values c → IsLocked other same place ty values c
locked_by scheme other key same place ty values c scheme_is key_is locked =
    subst (λ k. IsLocked other k place ty values c) key_is (subst (λ s. IsLocked s key place ty values c) scheme_is locked)

-- an attribute that is not a table's own is not asked for
not_asked : (schema : Schema) (t members a : ℕ) → AreOwn schema t members → owns schema t a ≡ false → has members a ≡ false
not_asked schema t members a own other = by_test (has members a) refl
  where
    by_test : (b : Bool) → has members a ≡ b → has members a ≡ false
    by_test true inside = let bad : true ≡ false = sym (own.owned a inside) ∙ other in cc
    by_test false outside = outside

none_there : (n b : ℕ) → column_at (replicate n None) b ≡ None
none_there zero b = refl
none_there (suc n) zero = refl
none_there (suc n) (suc b) = none_there n b

-- what the loop over the attributes keeps, at an attribute that is not the table's own
pub rest_other : (s : Setting) (keys : List (List ℕ)) (place : ℕ) (table : PlainTable) (sealed a : ℕ) (columns now : List (Option AnyColumn))
    → now ≡ columns → AreOwn s.policy.schema table.table.0 sealed → owns s.policy.schema table.table.0 a ≡ false
    → IsFilledTo (λ b before o. IsRestAt s keys place table b (has sealed b) o) (replicate 64 None) (shown_columns columns) a
    → IsFilledTo (λ b before o. IsRestAt s keys place table b (has sealed b) o) (replicate 64 None) (shown_columns now) (a + 1)
rest_other s keys place table sealed a columns now kept own other so_far =
    subst (λ cs. IsFilledTo (λ b before o. IsRestAt s keys place table b (has sealed b) o) (replicate 64 None) (shown_columns cs) (a + 1))
    (sym kept)
    (filled_same (λ b before o. IsRestAt s keys place table b (has sealed b) o) (replicate 64 None) (shown_columns columns) a so_far
    (subst (λ o. IsRestAt s keys place table a (has sealed a) o) (sym (none_there 64 a))
    (subst (λ t. IsRestAt s keys place table a t None) (sym (not_asked s.policy.schema table.table.0 sealed a own other)) refl)))

-- at the table's own one
pub rest_own : (s : Setting) (keys : List (List ℕ)) (place : ℕ) (table : PlainTable) (sealed a i : ℕ) (asked : Bool)
    (columns now : List (Option AnyColumn)) (made : Option AnyColumn) → now ≡ set columns i made → i ≡ a → a < 64 → asked ≡ has sealed a
    → IsRestAt s keys place table a asked (option_map columns_shown.shown made)
    → IsFilledTo (λ b before o. IsRestAt s keys place table b (has sealed b) o) (replicate 64 None) (shown_columns columns) a
    → IsFilledTo (λ b before o. IsRestAt s keys place table b (has sealed b) o) (replicate 64 None) (shown_columns now) (a + 1)
rest_own s keys place table sealed a i asked columns now made put at small is one so_far =
    subst (λ cs. IsFilledTo (λ b before o. IsRestAt s keys place table b (has sealed b) o) (replicate 64 None) cs (a + 1))
    (sym (ap shown_columns put ∙ map-set (option_map columns_shown.shown) columns i made
    ∙ ap (λ k. set (shown_columns columns) k (option_map columns_shown.shown made)) at))
    (filled_put (λ b before o. IsRestAt s keys place table b (has sealed b) o) (replicate 64 None) (shown_columns columns) a
    (option_map columns_shown.shown made) small so_far
    (subst (λ t. IsRestAt s keys place table a t (option_map columns_shown.shown made)) is one))

-- and what moving keeps there
pub moved_other : (schema : Schema) (table : PlainTable) (plain a : ℕ) (before columns now : List (Option Shown)) → now ≡ columns
    → AreOwn schema table.table.0 plain → owns schema table.table.0 a ≡ false
    → IsFilledTo (λ b old o. IsMovedAt schema table b (has plain b) old o) before columns a
    → IsFilledTo (λ b old o. IsMovedAt schema table b (has plain b) old o) before now (a + 1)
moved_other schema table plain a before columns now kept own other so_far =
    subst (λ cs. IsFilledTo (λ b old o. IsMovedAt schema table b (has plain b) old o) before cs (a + 1)) (sym kept)
    (filled_same (λ b old o. IsMovedAt schema table b (has plain b) old o) before columns a so_far
    (subst (λ t. IsMovedAt schema table a t (column_at before a) (column_at before a))
    (sym (not_asked schema table.table.0 plain a own other)) refl))

pub moved_own : (schema : Schema) (table : PlainTable) (plain a at : ℕ) (ty : ValueType) (before columns new : List (Option Shown))
    → HasForm schema table → owns schema table.table.0 a ≡ true → at ≡ place_of schema table.table.0 a → type_at schema a ≡ Some ty → a < 64
    → ((column : List Value) → slice_get table.columns at ≡ Some column → has plain a ≡ true → new ≡ with_column columns a (plain_column ty column))
    → (has plain a ≡ false → new ≡ columns)
    → IsFilledTo (λ b old o. IsMovedAt schema table b (has plain b) old o) before columns a
    → IsFilledTo (λ b old o. IsMovedAt schema table b (has plain b) old o) before new (a + 1)
moved_own schema table plain a at ty before columns new form own is typed small moved kept so_far = by_test (has plain a) refl
  where
    P : ℕ → Option Shown → Option Shown → Type 0
    P = λ b old o. IsMovedAt schema table b (has plain b) old o

    column : OwnColumn schema table a
    column = own_column schema table a form own

    values : OwnValues schema table a ty column.values
    values = own_values schema table a at ty column.values form own is typed (ap (slice_get table.columns) is ∙ column.read)

    by_test : (b : Bool) → has plain a ≡ b → IsFilledTo P before new (a + 1)
    by_test true asked =
        subst (λ cs. IsFilledTo P before cs (a + 1)) (sym (moved column.values (ap (slice_get table.columns) is ∙ column.read) asked))
        (filled_put P before columns a (Some (plain_column ty column.values)) small so_far
        (subst (λ t. IsMovedAt schema table a t (column_at before a) (Some (plain_column ty column.values))) (sym asked)
        (record { ty = ty; values = column.values; of = values.of; plain = refl })))
    by_test false other =
        subst (λ cs. IsFilledTo P before cs (a + 1)) (sym (kept other))
        (filled_same P before columns a so_far
        (subst (λ t. IsMovedAt schema table a t (column_at before a) (column_at before a)) (sym other) refl))

-- a column that was moved to the place of its attribute
pub moved_put : (columns : List (Option AnyColumn)) (i a : ℕ) (made : AnyColumn) (ty : ValueType) (column : List Value) → i ≡ a
    → columns_shown.shown made ≡ plain_column ty column
    → shown_columns (set columns i (Some made)) ≡ with_column (shown_columns columns) a (plain_column ty column)
moved_put columns i a made ty column at is =
    map-set (option_map columns_shown.shown) columns i (Some made) ∙ (λ j. set (shown_columns columns) (at j) (Some (is j)))

-- ---- the columns of a leaf

-- the column of an attribute of a leaf: not there where the attribute is not used, sealed where it is sealed at rest, and else plain
abbrev pub IsLeafAt : Setting → List (List ℕ) → ℕ → PlainTable → ℕ → Bool → Bool → Option Shown → Type 0
IsLeafAt s keys place table a false at_rest o = o ≡ None
IsLeafAt s keys place table a true true None = ⊥
IsLeafAt s keys place table a true true (Some c) = IsLockedOf s keys place table a c
IsLeafAt s keys place table a true false None = ⊥
IsLeafAt s keys place table a true false (Some c) = IsPlainOf s.policy.schema table a c

leaf_at : (s : Setting) (keys : List (List ℕ)) (place : ℕ) (table : PlainTable) (a : ℕ) (used at_rest : Bool) (old o : Option Shown)
    → IsRestAt s keys place table a (used && at_rest) old → IsMovedAt s.policy.schema table a (used && not at_rest) old o
    → IsLeafAt s keys place table a used at_rest o
leaf_at s keys place table a false at_rest old o rest moved = moved ∙ rest
leaf_at s keys place table a true true None o rest moved = absurd rest
leaf_at s keys place table a true true (Some c) o rest moved = subst (IsLeafAt s keys place table a true true) (sym moved) rest
leaf_at s keys place table a true false old None rest moved = absurd moved
leaf_at s keys place table a true false old (Some c) rest moved = moved

-- an attribute of a table is one below 64
pub own_small : (schema : Schema) (t a : ℕ) → IsSchema schema → owns schema t a ≡ true → a < 64
own_small schema t a sound own =
    let is = info_of schema t a own in
    let few = sound.few_attributes in
    let below : a < length schema.attrs = slice_get_within schema.attrs a is.info is.found in
    omega (arith, few, below)

-- the columns of a leaf, one for each used attribute
pub record AreLeaf (s : Setting) (keys : List (List ℕ)) (place : ℕ) (table : PlainTable) (used : ℕ) (columns : List (Option Shown)) : Type 0
  where
    pub long : length columns ≡ 64
    pub own : AreOwn s.policy.schema table.table.0 used
    pub form : HasForm s.policy.schema table
    pub at : (a : ℕ) → IsLeafAt s keys place table a (has used a) (has s.policy.rest.0 a) (column_at columns a)

pub are_leaf : (s : Setting) (keys : List (List ℕ)) (place : ℕ) (table : PlainTable) (used sealed plain : ℕ) (old columns : List (Option Shown))
    → IsSchema s.policy.schema → HasForm s.policy.schema table → AreOwn s.policy.schema table.table.0 used
    → sealed ≡ bit_and used s.policy.rest.0 → plain ≡ without used s.policy.rest.0 → length columns ≡ 64
    → ((a : ℕ) → a < 64 → IsRestAt s keys place table a (has sealed a) (column_at old a))
    → ((a : ℕ) → a < 64 → IsMovedAt s.policy.schema table a (has plain a) (column_at old a) (column_at columns a))
    → AreLeaf s keys place table used columns
are_leaf s keys place table used sealed plain old columns sound form own sealed_is plain_is long rest moved = record {
  long = long;
  own = own;
  form = form;
  at = λ a. by_order a (cases_lt a 64);
}
  where
    outside : (a : ℕ) → 64 ≤ a → (b : Bool) → has used a ≡ b → IsLeafAt s keys place table a b (has s.policy.rest.0 a) (column_at columns a)
    outside a above true inside =
        absurd (let below : a < 64 = own_small s.policy.schema table.table.0 a sound (own.owned a inside) in omega (arith, below, above))
    outside a above false hidden = get_or_past columns a None (subst (λ n. n ≤ a) (sym long) above)

    by_order : (a : ℕ) → (a < 64) ⊎ (64 ≤ a)
        → IsLeafAt s keys place table a (has used a) (has s.policy.rest.0 a) (column_at columns a)
    by_order a (inl below) =
        leaf_at s keys place table a (has used a) (has s.policy.rest.0 a) (column_at old a) (column_at columns a)
        (subst (λ t. IsRestAt s keys place table a t (column_at old a))
        (ap (λ m. has m a) sealed_is ∙ has-bit_and used s.policy.rest.0 a) (rest a below))
        (subst (λ t. IsMovedAt s.policy.schema table a t (column_at old a) (column_at columns a))
        (ap (λ m. has m a) plain_is ∙ has-without used s.policy.rest.0 a) (moved a below))
    by_order a (inr above) = outside a above (has used a) refl

-- ---- what there is of each column

filled_at_leaf : (s : Setting) (keys : List (List ℕ)) (place : ℕ) (table : PlainTable) (a : ℕ) → HasForm s.policy.schema table
    → (used at_rest : Bool) → (used ≡ true → owns s.policy.schema table.table.0 a ≡ true) → (o : Option Shown)
    → IsLeafAt s keys place table a used at_rest o → IsTrue (has_rows table.rows o)
filled_at_leaf s keys place table a form false at_rest own o at = subst (λ x. IsTrue (has_rows table.rows x)) (sym at) refl
filled_at_leaf s keys place table a form true true own None at = absurd at
filled_at_leaf s keys place table a form true true own (Some c) at =
    eq-eqb (length c.cells) table.rows
    (ap (λ (d : Shown). length d.cells) at.locked.sealed
    ∙ locked_length at.values (scheme_at s.basis.clusters a) (listed_key keys a) place 0
    ∙ (values_own s.policy.schema table a at.ty at.values form (own refl) at.of).filled)
filled_at_leaf s keys place table a form true false own None at = absurd at
filled_at_leaf s keys place table a form true false own (Some c) at =
    eq-eqb (length c.cells) table.rows
    (ap (λ (d : Shown). length d.cells) at.plain ∙ length-map at.values Plain
    ∙ (values_own s.policy.schema table a at.ty at.values form (own refl) at.of).filled)

pub leaf_filled : (s : Setting) (keys : List (List ℕ)) (place : ℕ) (table : PlainTable) (used : ℕ) (columns : List (Option Shown))
    → AreLeaf s keys place table used columns → All (λ o. IsTrue (has_rows table.rows o)) columns
leaf_filled s keys place table used columns are k d below =
    subst (λ o. IsTrue (has_rows table.rows o)) (get_or_default columns k None d below)
    (filled_at_leaf s keys place table k are.form (has used k) (has s.policy.rest.0 k) (are.own.owned k) (column_at columns k) (are.at k))

column_at_leaf : (s : Setting) (keys : List (List ℕ)) (place : ℕ) (table : PlainTable) (n a : ℕ) (view : View) (used at_rest : Bool)
    → has (known_at s n).visible.0 a ≡ used → has view.enc.0 a ≡ (used && at_rest) → (o : Option Shown)
    → IsLeafAt s keys place table a used at_rest o → IsColumnAt s n view a o
column_at_leaf s keys place table n a view false at_rest seen sealed o at = subst (IsColumnAt s n view a) (sym at) seen
column_at_leaf s keys place table n a view true true seen sealed None at = absurd at
column_at_leaf s keys place table n a view true true seen sealed (Some c) at = record {
  visible = seen;
  typed = at.of.typed ∙ ap (λ (d : Shown). Some d.ty) (sym at.locked.sealed);
  sealed = ap (λ (d : Shown). d.scheme) at.locked.sealed
      ∙ ap (λ (b : Bool). if b then Some (scheme_at s.basis.clusters a) else None) (sym sealed);
}
column_at_leaf s keys place table n a view true false seen sealed None at = absurd at
column_at_leaf s keys place table n a view true false seen sealed (Some c) at = record {
  visible = seen;
  typed = at.of.typed ∙ ap (λ (d : Shown). Some d.ty) (sym at.plain);
  sealed = ap (λ (d : Shown). d.scheme) at.plain
      ∙ ap (λ (b : Bool). if b then Some (scheme_at s.basis.clusters a) else None) (sym sealed);
}

pub leaf_columns : (s : Setting) (keys : List (List ℕ)) (place : ℕ) (table : PlainTable) (used n : ℕ) (view : View)
    (columns : List (Option Shown)) → AreLeaf s keys place table used columns → used ≡ (known_at s n).visible.0
    → view.enc.0 ≡ bit_and used s.policy.rest.0 → (a : ℕ) → a < 64 → IsColumnAt s n view a (column_at columns a)
leaf_columns s keys place table used n view columns are seen sealed a below =
    column_at_leaf s keys place table n a view (has used a) (has s.policy.rest.0 a) (ap (λ m. has m a) (sym seen))
    (ap (λ m. has m a) sealed ∙ has-bit_and used s.policy.rest.0 a) (column_at columns a) (are.at a)

values_open : (ty : ValueType) (key : List ℕ) (values : List Value) → AllByRecursion (IsCell ty) values
    → OpenTo (StandsFor None key) ty (map Plain values) values
values_open ty key [] all = tt
values_open ty key (v ∷ values) all =
    (record { typed = cell_typed ty v all.0; opened = refl }, values_open ty key values all.1)

opened_at_leaf : (s : Setting) (keys : List (List ℕ)) (place : ℕ) (table : PlainTable) (n a : ℕ) → HasForm s.policy.schema table
    → (used at_rest : Bool) → (used ≡ true → owns s.policy.schema table.table.0 a ≡ true) → (o : Option Shown)
    → IsLeafAt s keys place table a used at_rest o → IfSome o (IsColumnOpened s keys n a)
opened_at_leaf s keys place table n a form false at_rest own o at = subst (λ x. IfSome x (IsColumnOpened s keys n a)) (sym at) tt
opened_at_leaf s keys place table n a form true true own None at = absurd at
opened_at_leaf s keys place table n a form true true own (Some c) at = record {
  values = at.values;
  opens = at.locked.opens;
  small = λ before. subst (λ (d : Shown). All (IsCell d.ty) at.values) (sym at.locked.sealed)
      (values_own s.policy.schema table a at.ty at.values form (own refl) at.of).cells;
}
opened_at_leaf s keys place table n a form true false own None at = absurd at
opened_at_leaf s keys place table n a form true false own (Some c) at =
    subst (IsColumnOpened s keys n a) (sym at.plain) (record {
      values = at.values;
      opens = values_open at.ty (listed_key keys a) at.values (recursion_from_All (IsCell at.ty) at.values
          (values_own s.policy.schema table a at.ty at.values form (own refl) at.of).cells);
      small = λ before. (values_own s.policy.schema table a at.ty at.values form (own refl) at.of).cells;
    })

pub leaf_opened : (s : Setting) (keys : List (List ℕ)) (place : ℕ) (table : PlainTable) (used n : ℕ) (columns : List (Option Shown))
    → AreLeaf s keys place table used columns → (a : ℕ) → a < 64 → IfSome (column_at columns a) (IsColumnOpened s keys n a)
leaf_opened s keys place table used n columns are a below =
    opened_at_leaf s keys place table n a are.form (has used a) (has s.policy.rest.0 a) (are.own.owned a) (column_at columns a) (are.at a)

-- ---- the rows of a leaf

cell_at_leaf : (s : Setting) (keys : List (List ℕ)) (place : ℕ) (table : PlainTable) (i a : ℕ) (used at_rest : Bool) (o : Option Shown)
    → IsLeafAt s keys place table a used at_rest o
    → option_and_then (λ (c : Shown). slice_get c.cells i) o
    ≡ option_map (λ c. if at_rest then sealed_cell (seals_of s.basis.clusters keys) place i a c else c)
    (option_map Plain (if used then option_and_then (λ column. slice_get column i) (column_of s.policy.schema table a) else None))
cell_at_leaf s keys place table i a false at_rest o at = ap (option_and_then (λ (c : Shown). slice_get c.cells i)) at
cell_at_leaf s keys place table i a true true None at = absurd at
cell_at_leaf s keys place table i a true true (Some c) at =
    ap (λ (d : Shown). slice_get d.cells i) at.locked.sealed ∙ locked_cells s.basis.clusters keys place a at.ty at.values i
    ∙ ap (option_map (sealed_cell (seals_of s.basis.clusters keys) place i a)) (slice_get-map Plain at.values i
    ∙ ap (λ (o : Option (List Value)). option_map Plain (option_and_then (λ column. slice_get column i) o)) (sym at.of.there))
cell_at_leaf s keys place table i a true false None at = absurd at
cell_at_leaf s keys place table i a true false (Some c) at =
    ap (λ (d : Shown). slice_get d.cells i) at.plain ∙ slice_get-map Plain at.values i
    ∙ ap (λ (o : Option (List Value)). option_map Plain (option_and_then (λ column. slice_get column i) o)) (sym at.of.there)
    ∙ unchanged (option_map Plain (option_and_then (λ column. slice_get column i) (column_of s.policy.schema table a)))

pub leaf_rows : (s : Setting) (keys : List (List ℕ)) (place : ℕ) (table : PlainTable) (used : ℕ) (columns : List (Option Shown))
    → AreLeaf s keys place table used columns
    → rows_in columns None table.rows ≡ sealed_rows (seals_of s.basis.clusters keys) s.policy.rest.0 place
    (map (λ r. plain_row (cut used r)) (table_rows s.policy.schema table))
unfolding rows_in
leaf_rows s keys place table used columns are =
    alike (columns_shown.row_at columns None) (λ i. sealed_row seals s.policy.rest.0 place i (made i))
    (λ i j. record {
      cell = λ a. cell_at_leaf s keys place table i a (has used a) (has s.policy.rest.0 a) (column_at columns a) (are.at a) j;
      count = None;
    }) table.rows 0
    ∙ sym (numbered (λ i r. sealed_row seals s.policy.rest.0 place i r) made table.rows 0)
    ∙ ap (sealed_rows seals s.policy.rest.0 place) (sym (twice (λ r. plain_row (cut used r)) (row_at s.policy.schema table) table.rows 0))
  where
    seals : Seals
    seals = seals_of s.basis.clusters keys

    made : ℕ → RowOf Cell
    made i = plain_row (cut used (row_at s.policy.schema table i))

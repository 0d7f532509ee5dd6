-- The plan of a bound query is typed: its conditions compare values of one type, and it groups once at most.
use Rattle.std.proofs.Common.{◌≡◌, ℕ, zero, suc, ◌+◌, ◌<◌, ◌≤◌, Bool, true, false, cond, if◌then◌else◌, List, [], ◌∷◌, ◌++◌, length, map, filter, get_or, All, refl, ap, arith}
use Rattle.std.proofs.lemmas.List.{length-append}
use Rattle.std.proofs.lemmas.List.Elements.{filter-append}
use Rattle.std.specs.List.{AllByRecursion}
use Rattle.base_laws.proofs.FilterLaws.{each_append, each_filter, each_leads, each_map}
use Rattle.mq_base.specs.declared.ids.AttrId.{AttrId}
use Rattle.mq_base.specs.declared.ids.TableId.{TableId}
use Rattle.mq_base.specs.declared.plan.PlanNode.{PlanNode}
use Rattle.mq_base.specs.declared.plan.PlanOp.{PlanOp}
use Rattle.mq_base.specs.declared.plan.PlanOp.TheVariants as op
use Rattle.mq_base.specs.declared.query.Cond.{Cond}
use Rattle.mq_base.specs.declared.query.Cond.TheVariants as cond
use Rattle.mq_base.specs.declared.query.Having.{Having}
use Rattle.mq_base.specs.declared.query.Having.TheVariants as having
use Rattle.mq_base.specs.declared.query.Query.{Query}
use Rattle.mq_base.specs.declared.schema.Schema.{Schema}
use Rattle.mq_base.specs.BoundQuery.{HaveOneType, IsBoundCond, IsBareOrGrouped, IsBoundHaving, IsGrouped}
use Rattle.mq_base.specs.Nodes.{is_of, joins, projects, selected_set}
use Rattle.plan_algebra.specs.Nodes.{last_of, nodes_of, one_node, two_node}
use Rattle.plan_algebra.specs.Plan.{attached, branch, is_about, join_by, joined, joined_after, kept_by, over, projection, selection, turned, used_of}
use Rattle.plan_algebra.specs.Tree.{Tree, Leaf, One, Two, size}
use Rattle.provider_engine.proofs.OperationLaws.{each_of}
use Rattle.provider_engine.specs.Typed.{AreTyped, HasByteBound, HasByteConstant, IsTypedOp, PlansAreTyped, groups}

-- ---- what holds of each operation of a tree

abbrev pub EachOp : (PlanOp → Type 0) → Tree → Type 0
EachOp P (Leaf t used) = P (op.Base t used)
EachOp P (One o x) = EachOp P x × P o
EachOp P (Two o x y) = EachOp P x × EachOp P y × P o

pub each_node : (P : PlanOp → Type 0) (x : Tree) (i : ℕ) → EachOp P x → AllByRecursion (λ (node : PlanNode). P node.op) (nodes_of i x)
each_node P (Leaf t used) i all = (all, tt)
each_node P (One o x) i all =
    each_append (λ (node : PlanNode). P node.op) (nodes_of i x) (one_node o (last_of i x) ∷ []) (each_node P x i all.0) (all.1, tt)
each_node P (Two o x y) i all =
    each_append (λ (node : PlanNode). P node.op) (nodes_of i x ++ nodes_of (i + size x) y)
    (two_node o (last_of i x) (last_of (i + size x) y) ∷ [])
    (each_append (λ (node : PlanNode). P node.op) (nodes_of i x) (nodes_of (i + size x) y) (each_node P x i all.0)
    (each_node P y (i + size x) all.1))
    (all.2, tt)

pub each_over : (P : PlanOp → Type 0) (ops : List PlanOp) (x : Tree) → AllByRecursion P ops → EachOp P x → EachOp P (over ops x)
each_over P [] x all below = below
each_over P (o ∷ rest) x all below = each_over P rest (One o x) all.1 (below, all.0)

pub at_place : {X : Type 0} (P : X → Type 0) (xs : List X) (n : ℕ) (d : X) → AllByRecursion P xs → n < length xs → P (get_or xs n d)
at_place P [] n d all inside = absurd (omega (arith, inside))
at_place P (x ∷ xs) zero d all inside = all.0
at_place P (x ∷ xs) (suc n) d all inside = at_place P xs n d all.1 (omega (arith, inside))

-- ---- conditions

-- an operation that compares values of one type and does not group
abbrev IsPlainOp : Schema → PlanOp → Type 0
IsPlainOp schema o = IsTypedOp schema o × (groups o ≡ false)

-- a condition of which a selection is made, or a join
record IsGood (schema : Schema) (c : Cond) : Type 0 where
  selects : IsPlainOp schema (selection c)
  links : (t : TableId) → IsPlainOp schema (join_by schema t c)

turned_type : (schema : Schema) (a b : AttrId) → HaveOneType schema a b → HaveOneType schema b a
turned_type schema a b one = record { ty = one.ty; left = one.right; right = one.left }

good : (schema : Schema) (tables : List TableId) (c : Cond) → IsBoundCond schema tables c → HasByteConstant c → IsGood schema c
good schema tables (cond.Const a cmp x) bound bytes = record {
  selects = (record { held = bound.1; bytes = bytes }, refl);
  links = λ t. (tt, refl);
}
good schema tables (cond.Attrs a cmp b) bound bytes = record {
  selects = (bound.3, refl);
  links = λ t. by_side (is_of schema t.0 b);
}
  where
    by_side : (side : Bool) → IsPlainOp schema (if side then op.Join a cmp b else op.Join b (turned cmp) a)
    by_side true = (bound.3, refl)
    by_side false = (turned_type schema a b bound.3, refl)

each_good : (schema : Schema) (tables : List TableId) (conds : List Cond) → AllByRecursion (IsBoundCond schema tables) conds
    → AllByRecursion HasByteConstant conds → AllByRecursion (IsGood schema) conds
each_good schema tables [] bound bytes = tt
each_good schema tables (c ∷ rest) bound bytes = (good schema tables c bound.0 bytes.0, each_good schema tables rest bound.1 bytes.1)

selections_plain : (schema : Schema) (conds : List Cond) → AllByRecursion (IsGood schema) conds
    → AllByRecursion (IsPlainOp schema) (map selection conds)
selections_plain schema conds all =
    each_map (IsPlainOp schema) selection conds (each_leads (IsGood schema) (λ c. IsPlainOp schema (selection c)) (λ c is. is.selects) conds all)

-- ---- the joined tables

branch_plain : (schema : Schema) (q : Query) (t : TableId) → AllByRecursion (IsGood schema) q.conds
    → EachOp (IsPlainOp schema) (branch schema q t)
branch_plain schema q t all =
    each_over (IsPlainOp schema) (map selection (filter (is_about schema t) q.conds)) (Leaf t (used_of schema q t))
    (selections_plain schema (filter (is_about schema t) q.conds) (each_filter (IsGood schema) (is_about schema t) q.conds all)) (tt, refl)

attached_plain : (schema : Schema) (t : TableId) (conds : List Cond) (x y : Tree) → AllByRecursion (IsGood schema) conds
    → EachOp (IsPlainOp schema) x → EachOp (IsPlainOp schema) y → EachOp (IsPlainOp schema) (attached schema t conds x y)
attached_plain schema t [] x y all left right = (left, right, (tt, refl))
attached_plain schema t (c ∷ rest) x y all left right =
    each_over (IsPlainOp schema) (map selection rest) (Two (join_by schema t c) x y) (selections_plain schema rest all.1)
    (left, right, all.0.links t)

joined_plain_after : (schema : Schema) (q : Query) → AllByRecursion (IsGood schema) q.conds → (tables earlier : List TableId) (x : Tree)
    → EachOp (IsPlainOp schema) x → EachOp (IsPlainOp schema) (joined_after schema q earlier x tables)
joined_plain_after schema q all [] earlier x below = below
joined_plain_after schema q all (t ∷ rest) earlier x below =
    joined_plain_after schema q all rest (earlier ++ t ∷ []) (attached schema t (filter (joins schema earlier t) q.conds) x (branch schema q t))
    (attached_plain schema t (filter (joins schema earlier t) q.conds) x (branch schema q t)
    (each_filter (IsGood schema) (joins schema earlier t) q.conds all) below (branch_plain schema q t all))

joined_plain : (schema : Schema) (q : Query) → AllByRecursion (IsGood schema) q.conds → (tables : List TableId)
    → EachOp (IsPlainOp schema) (joined schema q tables)
joined_plain schema q all [] = (tt, refl)
joined_plain schema q all (t ∷ rest) = joined_plain_after schema q all rest (t ∷ []) (branch schema q t) (branch_plain schema q t all)

-- ---- group, conditions of HAVING, and projection

having_plain : (schema : Schema) (q : Query) (h : Having) → IsBoundHaving schema q h → HasByteBound h → IsPlainOp schema (kept_by h)
having_plain schema q (having.Const a cmp x) bound bytes = (record { held = bound.1; bytes = bytes }, refl)
having_plain schema q (having.Count cmp n) bound bytes = (tt, refl)

each_having_plain : (schema : Schema) (q : Query) (hs : List Having) → AllByRecursion (IsBoundHaving schema q) hs
    → AllByRecursion HasByteBound hs → AllByRecursion (IsPlainOp schema) (map kept_by hs)
each_having_plain schema q [] bound bytes = tt
each_having_plain schema q (h ∷ rest) bound bytes =
    (having_plain schema q h bound.0 bytes.0, each_having_plain schema q rest bound.1 bytes.1)

projection_plain : (schema : Schema) (q : Query) → AllByRecursion (IsPlainOp schema) (projection q)
projection_plain schema q = by_test (projects q)
  where
    by_test : (b : Bool) → AllByRecursion (IsPlainOp schema) (if b then op.Project (record { 0 = selected_set q.items }) ∷ [] else [])
    by_test true = ((tt, refl), tt)
    by_test false = tt

-- ---- one group at most

abbrev groups_at : PlanNode → Bool
groups_at node = groups node.op

none_pass : {X : Type 0} (p : X → Bool) (xs : List X) → AllByRecursion (λ x. p x ≡ false) xs → length (filter p xs) ≡ 0
none_pass p [] all = refl
none_pass p (x ∷ xs) all = rw all.0 (none_pass p xs all.1)

some_pass : {X : Type 0} (p : X → Bool) (xs : List X) (n : ℕ) (d : X) → n < length xs → p (get_or xs n d) ≡ true → 1 ≤ length (filter p xs)
some_pass p [] n d inside passes = absurd (omega (arith, inside))
some_pass p (x ∷ xs) zero d inside passes = rw passes (omega arith)
some_pass p (x ∷ xs) (suc n) d inside passes = by_test (p x) (some_pass p xs n d (omega (arith, inside)) passes)
  where
    by_test : (b : Bool) → 1 ≤ length (filter p xs) → 1 ≤ length (cond b (x ∷ filter p xs) (filter p xs))
    by_test true some = omega arith
    by_test false some = some

one_passes : {X : Type 0} (p : X → Bool) (xs : List X) (m n : ℕ) (d : X) → length (filter p xs) ≤ 1 → m < length xs → n < length xs
    → p (get_or xs m d) ≡ true → p (get_or xs n d) ≡ true → m ≡ n
one_passes p [] m n d few inside also first second = absurd (omega (arith, inside))
one_passes p (x ∷ xs) zero zero d few inside also first second = refl
one_passes p (x ∷ xs) zero (suc n) d few inside also first second =
    let most : length (x ∷ filter p xs) ≤ 1 = rw first at few in
    absurd (omega (arith, most, some_pass p xs n d (omega (arith, also)) second))
one_passes p (x ∷ xs) (suc m) zero d few inside also first second =
    let most : length (x ∷ filter p xs) ≤ 1 = rw second at few in
    absurd (omega (arith, most, some_pass p xs m d (omega (arith, inside)) first))
one_passes p (x ∷ xs) (suc m) (suc n) d few inside also first second =
    ap suc (one_passes p xs m n d (by_test (p x) few) (omega (arith, inside)) (omega (arith, also)) first second)
  where
    by_test : (b : Bool) → length (cond b (x ∷ filter p xs) (filter p xs)) ≤ 1 → length (filter p xs) ≤ 1
    by_test true few = omega (arith, few)
    by_test false few = few

-- operations over a tree, after its nodes
over_few : (schema : Schema) (ops : List PlanOp) (x : Tree) (i most : ℕ) → AllByRecursion (IsPlainOp schema) ops
    → length (filter groups_at (nodes_of i x)) ≤ most → length (filter groups_at (nodes_of i (over ops x))) ≤ most
over_few schema [] x i most all few = few
over_few schema (o ∷ rest) x i most all few =
    over_few schema rest (One o x) i most all.1
    (omega (
      arith,
      ap length (filter-append groups_at (nodes_of i x) (one_node o (last_of i x) ∷ [])),
      length-append (filter groups_at (nodes_of i x)) (filter groups_at (one_node o (last_of i x) ∷ [])),
      none_pass groups_at (one_node o (last_of i x) ∷ []) (all.0.1, tt),
      few,
    ))

group_few : (o : PlanOp) (x : Tree) (i : ℕ) → length (filter groups_at (nodes_of i x)) ≡ 0
    → length (filter groups_at (nodes_of i (One o x))) ≤ 1
group_few o x i none =
    omega (
      arith,
      ap length (filter-append groups_at (nodes_of i x) (one_node o (last_of i x) ∷ [])),
      length-append (filter groups_at (nodes_of i x)) (filter groups_at (one_node o (last_of i x) ∷ [])),
      at_most_one (groups o),
      none,
    )
  where
    at_most_one : (b : Bool) → length (cond b (one_node o (last_of i x) ∷ []) []) ≤ 1
    at_most_one true = omega arith
    at_most_one false = omega arith

-- ---- the plan

each_op_leads : (P Q : PlanOp → Type 0) → ((o : PlanOp) → P o → Q o) → (x : Tree) → EachOp P x → EachOp Q x
each_op_leads P Q leads (Leaf t used) all = leads (op.Base t used) all
each_op_leads P Q leads (One o x) all = (each_op_leads P Q leads x all.0, leads o all.1)
each_op_leads P Q leads (Two o x y) all = (each_op_leads P Q leads x all.0, each_op_leads P Q leads y all.1, leads o all.2)

no_group : (schema : Schema) (x : Tree) (i : ℕ) → EachOp (IsPlainOp schema) x → length (filter groups_at (nodes_of i x)) ≡ 0
no_group schema x i all =
    none_pass groups_at (nodes_of i x)
    (each_node (λ o. groups o ≡ false) x i (each_op_leads (IsPlainOp schema) (λ o. groups o ≡ false) (λ o plain. plain.1) x all))

-- a tree of typed operations of which one at most groups
typed_tree : (schema : Schema) (x : Tree) → EachOp (IsTypedOp schema) x → length (filter groups_at (nodes_of 0 x)) ≤ 1
    → AreTyped schema (nodes_of 0 x)
typed_tree schema x all few = record {
  typed = λ n inside. at_place (λ (node : PlanNode). IsTypedOp schema node.op) (nodes_of 0 x) n _ (each_node (IsTypedOp schema) x 0 all) inside;
  one_group = λ m n inside also first second. one_passes groups_at (nodes_of 0 x) m n _ few inside also first second;
}

plain_typed : (schema : Schema) (ops : List PlanOp) → AllByRecursion (IsPlainOp schema) ops → AllByRecursion (IsTypedOp schema) ops
plain_typed schema ops all = each_leads (IsPlainOp schema) (IsTypedOp schema) (λ o plain. plain.0) ops all

bare_plan : (schema : Schema) (q : Query) (x : Tree) → EachOp (IsPlainOp schema) x → AreTyped schema (nodes_of 0 (over (projection q) x))
bare_plan schema q x all =
    typed_tree schema (over (projection q) x)
    (each_over (IsTypedOp schema) (projection q) x (plain_typed schema (projection q) (projection_plain schema q))
    (each_op_leads (IsPlainOp schema) (IsTypedOp schema) (λ o plain. plain.0) x all))
    (over_few schema (projection q) x 0 1 (projection_plain schema q) (omega (arith, no_group schema x 0 all)))

grouped_plan : (schema : Schema) (q : Query) (x : Tree) → IsGrouped schema q → All HasByteBound q.having → EachOp (IsPlainOp schema) x
    → AreTyped schema (nodes_of 0 (over (map kept_by q.having ++ projection q) (One (op.Group q.group q.aggs q.count) x)))
grouped_plan schema q x is bytes all =
    typed_tree schema (over later grouped)
    (each_over (IsTypedOp schema) later grouped (plain_typed schema later plain)
    (each_op_leads (IsPlainOp schema) (IsTypedOp schema) (λ o plain. plain.0) x all, λ k d inside. (is.aggs k d inside).summable))
    (over_few schema later grouped 0 1 plain (group_few (op.Group q.group q.aggs q.count) x 0 (no_group schema x 0 all)))
  where
    grouped : Tree
    grouped = One (op.Group q.group q.aggs q.count) x

    later : List PlanOp
    later = map kept_by q.having ++ projection q

    plain : AllByRecursion (IsPlainOp schema) later
    plain = each_append (IsPlainOp schema) (map kept_by q.having) (projection q)
        (each_having_plain schema q q.having (each_of (IsBoundHaving schema q) q.having is.having) (each_of HasByteBound q.having bytes))
        (projection_plain schema q)

-- the plan of a bound query is typed
pub plans_are_typed : PlansAreTyped
plans_are_typed schema q bound bytes =
    by_kind q.grouped bound.selected
  where
    tables : EachOp (IsPlainOp schema) (joined schema q q.tables)
    tables = joined_plain schema q
        (each_good schema q.tables q.conds (each_of (IsBoundCond schema q.tables) q.conds bound.conds) (each_of HasByteConstant q.conds bytes.conds))
        q.tables

    by_kind : (b : Bool) → IsBareOrGrouped b schema q
        → AreTyped schema (nodes_of 0 (over ((if b then op.Group q.group q.aggs q.count ∷ map kept_by q.having else []) ++ projection q)
        (joined schema q q.tables)))
    by_kind false is = bare_plan schema q (joined schema q q.tables) tables
    by_kind true is = grouped_plan schema q (joined schema q q.tables) is bytes.having tables

-- The plan has as many nodes as binding counts: each condition is on one table alone, or links one further table with the earlier ones.
use Rattle.std.proofs.Common.{◌≡◌, ◌≢◌, ◌+◌, ◌≤◌, Bool, true, false, ◌||◌, ◌&&◌, cond, List, [], ◌∷◌, ◌++◌, map, length, get_or, All, refl, ◌∙◌, ap, arith, append_assoc}
use Rattle.std.specs.Prelude.{filter, if◌then◌else◌}
use Rattle.std.specs.List.{list_any}
use Rattle.std.proofs.lemmas.List.{length-append, length-map, append-nil}
use Rattle.std.proofs.lemmas.List.Elements.{All-cons, All-head, All-nil, All-push, All-tail, filter_agree}
use Rattle.base_laws.proofs.ListLaws.{All-unmapped}
use Rattle.mq_base.specs.declared.ids.AttrId.{AttrId}
use Rattle.mq_base.specs.declared.ids.TableId.{TableId}
use Rattle.mq_base.specs.declared.plan.PlanOp.{PlanOp}
use Rattle.mq_base.specs.declared.plan.PlanOp.TheVariants as op
use Rattle.mq_base.specs.declared.query.Cond.{Cond}
use Rattle.mq_base.specs.declared.query.Cond.TheVariants as cond
use Rattle.mq_base.specs.declared.query.Query.{Query}
use Rattle.mq_base.specs.declared.schema.Schema.{Schema}
use Rattle.mq_base.specs.BoundQuery.{AreDistinct, IsBareOrGrouped, IsBound, IsBoundCond}
use Rattle.mq_base.specs.Nodes.{is_of, is_of_some, joins, node_count, one_if, projects, selected_set, unjoined, unjoined_after}
use Rattle.plan_algebra.specs.Plan.{attached, branch, grouping, is_about, join_by, joined, joined_after, kept_by, over, plan_tree, projection, selection, used_of}
use Rattle.plan_algebra.specs.Tree.{Tree, Leaf, One, Two, size}
use Rattle.plan_algebra.specs.inside.Building.{plan_nodes}
use Rattle.plan_algebra.proofs.PlanLaws.{nodes-length, plan-tree}
use Rattle.plan_algebra.proofs.SmallLaws.{is_of-owned}

-- whether all attributes of a condition are of these tables
abbrev pub is_within_tables : Schema → List TableId → Cond → Bool
is_within_tables schema tables (cond.Const a op x) = is_of_some schema tables a
is_within_tables schema tables (cond.Attrs a op b) = is_of_some schema tables a && is_of_some schema tables b

-- no attribute is of this table and of one of these
abbrev pub IsNew : Schema → List TableId → TableId → Type 0
IsNew schema earlier t = (a : AttrId) → (is_of_some schema earlier a && is_of schema t.0 a) ≡ false

-- each table is new beside those before it
abbrev pub AreNew : Schema → List TableId → List TableId → Type 0
AreNew schema earlier [] = Unit {0}
AreNew schema earlier (t ∷ rest) = IsNew schema earlier t × AreNew schema (earlier ++ t ∷ []) rest

pub of_some-append : (schema : Schema) (earlier more : List TableId) (a : AttrId)
    → is_of_some schema (earlier ++ more) a ≡ (is_of_some schema earlier a || is_of_some schema more a)
of_some-append schema [] more a = refl
of_some-append schema (t ∷ rest) more a = rw (of_some-append schema rest more a) (either (is_of schema t.0 a) _ _)
  where
    either : (x y z : Bool) → (x || (y || z)) ≡ ((x || y) || z)
    either true y z = refl
    either false y z = refl

pub of_some-more : (schema : Schema) (earlier : List TableId) (t : TableId) (a : AttrId)
    → is_of_some schema (earlier ++ t ∷ []) a ≡ (is_of_some schema earlier a || is_of schema t.0 a)
of_some-more schema earlier t a = rw (of_some-append schema earlier (t ∷ []) a) (last_one (is_of_some schema earlier a) (is_of schema t.0 a))
  where
    last_one : (x y : Bool) → (x || (y || false)) ≡ (x || y)
    last_one x true = refl
    last_one x false = refl

-- of two attributes, by the tables that each is of
two_parts : (ea ta eb tb : Bool) → (ea && ta) ≡ false → (eb && tb) ≡ false
    → one_if ((ea || ta) && (eb || tb)) ≡ one_if (ea && eb) + one_if (ta && tb) + one_if ((ea && tb) || (ta && eb))
two_parts true true eb tb p q = cc
two_parts ea ta true true p q = cc
two_parts true false true false p q = refl
two_parts true false false true p q = refl
two_parts true false false false p q = refl
two_parts false true true false p q = refl
two_parts false true false true p q = refl
two_parts false true false false p q = refl
two_parts false false true false p q = refl
two_parts false false false true p q = refl
two_parts false false false false p q = refl

one_part : (e t : Bool) → (e && t) ≡ false → one_if (e || t) ≡ one_if e + one_if t + 0
one_part true true p = cc
one_part true false p = refl
one_part false true p = refl
one_part false false p = refl

-- a condition within some tables and one more is within those, or on that one alone, or links the two
cond_parts : (schema : Schema) (earlier : List TableId) (t : TableId) → IsNew schema earlier t → (c : Cond)
    → one_if (is_within_tables schema (earlier ++ t ∷ []) c)
    ≡ one_if (is_within_tables schema earlier c) + one_if (is_about schema t c) + one_if (joins schema earlier t c)
cond_parts schema earlier t new (cond.Const a op x) =
    rw (of_some-more schema earlier t a) (one_part (is_of_some schema earlier a) (is_of schema t.0 a) (new a))
cond_parts schema earlier t new (cond.Attrs a op b) =
    rw (of_some-more schema earlier t a, of_some-more schema earlier t b)
    (two_parts (is_of_some schema earlier a) (is_of schema t.0 a) (is_of_some schema earlier b) (is_of schema t.0 b) (new a) (new b))

-- how many pass a test
passing : (test : Cond → Bool) (c : Cond) (rest : List Cond) → length (filter test (c ∷ rest)) ≡ one_if (test c) + length (filter test rest)
passing test c rest = by_test (test c) refl
  where
    by_test : (b : Bool) → test c ≡ b → length (filter test (c ∷ rest)) ≡ one_if b + length (filter test rest)
    by_test true passes = rw passes (omega arith)
    by_test false fails = rw fails (omega arith)

conds_parts : (schema : Schema) (earlier : List TableId) (t : TableId) → IsNew schema earlier t → (conds : List Cond)
    → length (filter (is_within_tables schema (earlier ++ t ∷ [])) conds)
    ≡ length (filter (is_within_tables schema earlier) conds) + length (filter (is_about schema t) conds) + length (filter (joins schema earlier t) conds)
conds_parts schema earlier t new [] = refl
conds_parts schema earlier t new (c ∷ rest) =
    let more = conds_parts schema earlier t new rest in
    let here = cond_parts schema earlier t new c in
    omega (
      arith,
      more,
      here,
      passing (is_within_tables schema (earlier ++ t ∷ [])) c rest,
      passing (is_within_tables schema earlier) c rest,
      passing (is_about schema t) c rest,
      passing (joins schema earlier t) c rest,
    )

-- sizes
pub over-size : (ops : List PlanOp) (x : Tree) → size (over ops x) ≡ size x + length ops
over-size [] x = omega arith
over-size (first ∷ rest) x = let more = over-size rest (One first x) in omega (arith, more)

branch-size : (schema : Schema) (q : Query) (t : TableId) → size (branch schema q t) ≡ 1 + length (filter (is_about schema t) q.conds)
branch-size schema q t =
    over-size (map selection (filter (is_about schema t) q.conds)) (Leaf t (used_of schema q t)) ∙ rw length-map refl

any_kept : (test : Cond → Bool) (conds : List Cond) → list_any test conds ≡ list_any (λ c. true) (filter test conds)
any_kept test [] = refl
any_kept test (c ∷ rest) = by_test (test c) refl (any_kept test rest)
  where
    by_test : (b : Bool) → test c ≡ b → list_any test rest ≡ list_any (λ d. true) (filter test rest)
        → (b || list_any test rest) ≡ list_any (λ d. true) (filter test (c ∷ rest))
    by_test true passes more = rw passes refl
    by_test false fails more = rw fails more

attached-size : (schema : Schema) (t : TableId) (test : Cond → Bool) (conds : List Cond) (x y : Tree)
    → size (attached schema t (filter test conds) x y)
    ≡ size x + size y + length (filter test conds) + cond (list_any test conds) 0 1
attached-size schema t test conds x y = rw (any_kept test conds) (by_links (filter test conds))
  where
    by_links : (links : List Cond) → size (attached schema t links x y) ≡ size x + size y + length links + cond (list_any (λ c. true) links) 0 1
    by_links [] = omega arith
    by_links (first ∷ rest) =
        let more = over-size (map selection rest) (Two (join_by schema t first) x y) in
        omega (arith, more, length-map {A = Cond} rest selection)

-- the tables in turn
joined_after-size : (schema : Schema) (q : Query) (earlier rest : List TableId) (x : Tree) → AreNew schema earlier rest
    → size (joined_after schema q earlier x rest) + length (filter (is_within_tables schema earlier) q.conds)
    ≡ size x + length rest + length (filter (is_within_tables schema (earlier ++ rest)) q.conds) + unjoined_after schema q.conds earlier rest
joined_after-size schema q earlier [] x new = rw (append-nil earlier) (omega arith)
joined_after-size schema q earlier (t ∷ rest) x new =
    let y = attached schema t (filter (joins schema earlier t) q.conds) x (branch schema q t) in
    let more : size (joined_after schema q (earlier ++ t ∷ []) y rest) + length (filter (is_within_tables schema (earlier ++ t ∷ [])) q.conds)
    ≡ size y + length rest + length (filter (is_within_tables schema (earlier ++ t ∷ rest)) q.conds) + unjoined_after schema q.conds (earlier ++ t ∷ []) rest =
    rw append_assoc at (joined_after-size schema q (earlier ++ t ∷ []) rest y new.1) in
    let here = attached-size schema t (joins schema earlier t) q.conds x (branch schema q t) in
    let parts = conds_parts schema earlier t new.0 q.conds in
    omega (arith, more, here, parts, branch-size schema q t)

-- a table is new where its number is none of the earlier ones'
new_one : (schema : Schema) (e t : TableId) (a : AttrId) → e.0 ≢ t.0 → (is_of schema e.0 a && is_of schema t.0 a) ≡ false
new_one schema e t a other = by_tests (is_of schema e.0 a) (is_of schema t.0 a) refl refl
  where
    by_tests : (x y : Bool) → is_of schema e.0 a ≡ x → is_of schema t.0 a ≡ y → (x && y) ≡ false
    by_tests true true p q =
        let left = is_of-owned schema e.0 a p in
        let right = is_of-owned schema t.0 a q in
        absurd (other (cc (left, right)))
    by_tests true false p q = refl
    by_tests false y p q = refl

pub new_among : (schema : Schema) (earlier : List TableId) (t : TableId) → All (λ (e : TableId). e.0 ≢ t.0) earlier → IsNew schema earlier t
new_among schema [] t others a = refl
new_among schema (e ∷ rest) t others a =
    by_test (is_of schema e.0 a) (is_of_some schema rest a) (is_of schema t.0 a) (new_one schema e t a (All-head (λ (x : TableId). x.0 ≢ t.0) e rest others))
    (new_among schema rest t (All-tail (λ (x : TableId). x.0 ≢ t.0) e rest others) a)
  where
    by_test : (x y z : Bool) → (x && z) ≡ false → (y && z) ≡ false → ((x || y) && z) ≡ false
    by_test true y z p q = p
    by_test false y z p q = q

-- distinct tables are new in turn
others_after : (t : TableId) (rest : List TableId) → All (λ n. t.0 ≢ n) (map (λ (u : TableId). u.0) rest) → All (λ (u : TableId). t.0 ≢ u.0) rest
others_after t rest all = All-unmapped (λ n. t.0 ≢ n) (λ (u : TableId). u.0) rest all

are_new : (schema : Schema) (earlier rest : List TableId) → AreDistinct (map (λ (u : TableId). u.0) rest)
    → All (λ (u : TableId). All (λ (e : TableId). e.0 ≢ u.0) earlier) rest → AreNew schema earlier rest
are_new schema earlier [] distinct others = tt
are_new schema earlier (t ∷ rest) distinct others = (
  new_among schema earlier t (All-head (λ (u : TableId). All (λ (e : TableId). e.0 ≢ u.0) earlier) t rest others),
  are_new schema (earlier ++ t ∷ []) rest distinct.1 (λ k d below. All-push (λ (e : TableId). e.0 ≢ (get_or rest k d).0) earlier t
      (All-tail (λ (u : TableId). All (λ (e : TableId). e.0 ≢ u.0) earlier) t rest others k d below) (others_after t rest distinct.0 k d below)),
)

pub tables_new : (schema : Schema) (first : TableId) (rest : List TableId) → AreDistinct (map (λ (u : TableId). u.0) (first ∷ rest))
    → AreNew schema (first ∷ []) rest
tables_new schema first rest distinct =
    are_new schema (first ∷ []) rest distinct.1
    (λ k d below. All-cons (λ (e : TableId). e.0 ≢ (get_or rest k d).0) first [] (others_after first rest distinct.0 k d below) (All-nil (λ (e : TableId). e.0 ≢ (get_or rest k d).0)))

-- each condition of a bound query is within its tables
bound_within : (schema : Schema) (tables : List TableId) (c : Cond) → IsBoundCond schema tables c → is_within_tables schema tables c ≡ true
bound_within schema tables (cond.Const a op x) bound = bound.0
bound_within schema tables (cond.Attrs a op b) bound = rw (bound.0, bound.1) refl

all_within : (schema : Schema) (tables : List TableId) (conds : List Cond) → All (IsBoundCond schema tables) conds
    → length (filter (is_within_tables schema tables) conds) ≡ length conds
all_within schema tables [] bound = refl
all_within schema tables (c ∷ rest) bound =
    let more = all_within schema tables rest (All-tail (IsBoundCond schema tables) c rest bound) in
    rw (bound_within schema tables c (All-head (IsBoundCond schema tables) c rest bound)) (omega (arith, more))

first_within : (schema : Schema) (t : TableId) (c : Cond) → is_within_tables schema (t ∷ []) c ≡ is_about schema t c
first_within schema t (cond.Const a op x) = or_none (is_of schema t.0 a)
  where
    or_none : (x : Bool) → (x || false) ≡ x
    or_none true = refl
    or_none false = refl
first_within schema t (cond.Attrs a op b) = both (is_of schema t.0 a) (is_of schema t.0 b)
  where
    both : (x y : Bool) → ((x || false) && (y || false)) ≡ (x && y)
    both true true = refl
    both true false = refl
    both false y = refl

joined-size : (schema : Schema) (q : Query) (tables : List TableId) → 1 ≤ length tables → AreDistinct (map (λ (u : TableId). u.0) tables)
    → All (IsBoundCond schema tables) q.conds
    → size (joined schema q tables) ≡ length tables + length q.conds + unjoined schema q.conds tables
joined-size schema q [] some distinct bound = absurd (omega arith)
joined-size schema q (first ∷ rest) some distinct bound =
    let whole = joined_after-size schema q (first ∷ []) rest (branch schema q first) (tables_new schema first rest distinct) in
    let all = all_within schema (first ∷ rest) q.conds bound in
    let begin : filter (is_within_tables schema (first ∷ [])) q.conds ≡ filter (is_about schema first) q.conds =
    filter_agree (is_within_tables schema (first ∷ [])) (is_about schema first) (first_within schema first) q.conds in
    omega (arith, whole, all, ap length begin, branch-size schema q first)

ends-size : (schema : Schema) (q : Query) → IsBareOrGrouped q.grouped schema q
    → length (grouping q ++ projection q) ≡ one_if q.grouped + length q.having + one_if (projects q)
ends-size schema q selected =
    rw (length-append) (omega (arith, group_size q.grouped selected, projection_size (projects q)))
  where
    group_size : (b : Bool) → IsBareOrGrouped b schema q
        → length (if b then op.Group q.group q.aggs q.count ∷ map kept_by q.having else []) ≡ one_if b + length q.having
    group_size false bare = rw bare.having refl
    group_size true grouped = omega (arith, length-map q.having kept_by)

    projection_size : (b : Bool) → length (if b then op.Project (record { 0 = selected_set q.items }) ∷ [] else []) ≡ one_if b
    projection_size true = refl
    projection_size false = refl

-- the plan of a bound query has as many nodes as binding counts
pub plan-size : (schema : Schema) (q : Query) → IsBound schema q → size (plan_tree schema q) ≡ node_count schema q
unfolding node_count
plan-size schema q bound =
    let tables = joined-size schema q q.tables bound.some_table bound.once bound.conds in
    let ends = ends-size schema q bound.selected in
    omega (arith, over-size (grouping q ++ projection q) (joined schema q q.tables), tables, ends)

-- and so has its list, which is small
pub plan-count : (schema : Schema) (q : Query) → IsBound schema q → length (plan_nodes schema q) ≡ node_count schema q
plan-count schema q bound =
    ap length (plan-tree schema q) ∙ nodes-length 0 (plan_tree schema q) ∙ plan-size schema q bound

pub plan-few : (schema : Schema) (q : Query) → IsBound schema q → length (plan_nodes schema q) ≤ 64
plan-few schema q bound = omega (arith, plan-count schema q bound, bound.few_nodes)

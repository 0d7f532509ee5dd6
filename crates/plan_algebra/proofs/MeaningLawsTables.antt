-- The tree of the tables means their product, kept by all conditions: conditions pushed to branches, joins where a
-- condition links a table with earlier ones.
use Rattle.std.proofs.Common.{◌≡◌, ◌≢◌, refl, sym, ◌∙◌, ap, ℕ, Bool, true, false, cond as choice, ◌&&◌, ◌||◌, List, [], ◌∷◌, ◌++◌, map, filter, fold, All, Option, Some, None, ◌==◌}
use Rattle.std.specs.List.{AllByRecursion}
use Rattle.std.specs.Option.{option_map_or}
use Rattle.std.proofs.lemmas.Bool.{eqb-true}
use Rattle.std.proofs.lemmas.List.{append-nil, append_assoc}
use Rattle.std.proofs.lemmas.List.Elements.{All-head, All-tail, filter_agree}
use Rattle.base_laws.proofs.FilterLaws.{each_leads, each_append, each_map, each_filter, each_passes, each_always, filter_whole, filter_and}
use Rattle.mq_base.specs.declared.ids.TableId.{TableId}
use Rattle.mq_base.specs.declared.plan.PlanOp.{PlanOp}
use Rattle.mq_base.specs.declared.plan.PlanOp.TheVariants as op
use Rattle.mq_base.specs.declared.query.CmpOp.{CmpOp}
use Rattle.mq_base.specs.declared.query.Cond.{Cond}
use Rattle.mq_base.specs.declared.query.Cond.TheVariants as cond
use Rattle.mq_base.specs.declared.query.Query.{Query}
use Rattle.mq_base.specs.declared.schema.Schema.{Schema}
use Rattle.mq_base.specs.BoundQuery.{AreDistinct}
use Rattle.mq_base.specs.Nodes.{is_of, joins}
use Rattle.mq_base.specs.Schema.{table_of}
use Rattle.row_algebra.specs.Contents.{owns, some_owns, HaveOwnCells}
use Rattle.row_algebra.specs.Laws.{names_only, AreApart}
use Rattle.row_algebra.specs.Rows.{RowOf, IsOf, cut, product}
use Rattle.row_algebra.specs.Tests.{Tests, both_pass, passes_pair, meets, meets_all}
use Rattle.row_algebra.proofs.ContentLaws.{some_owns_push}
use Rattle.row_algebra.proofs.RowLaws.{conditions_left, conditions_right, filter_parted, product_is_of, cut_stays_of}
use Rattle.plan_algebra.specs.Meaning.{TurnsRound}
use Rattle.plan_algebra.specs.Plan.{attached, branch, is_about, join_by, joined_after, over, selection, turned, used_of}
use Rattle.plan_algebra.specs.Tree.{Tree, Leaf, One, Two, apply_one, apply_two, sem}

-- the rows of operations one after the other
abbrev pub applied : {C : Type 0} → Tests C → List PlanOp → List (RowOf C) → List (RowOf C)
applied tests ops rows = fold (λ us op. apply_one tests op us) rows ops

pub over_means : {C : Type 0} (tests : Tests C) (rows : ℕ → List (RowOf C)) (ops : List PlanOp) (x : Tree)
    → sem tests rows (over ops x) ≡ applied tests ops (sem tests rows x)
over_means tests rows [] x = refl
over_means tests rows (first ∷ rest) x = over_means tests rows rest (One first x)

selection_means : {C : Type 0} (tests : Tests C) (c : Cond) (us : List (RowOf C))
    → apply_one tests (selection c) us ≡ filter (λ r. meets tests r c) us
selection_means tests (cond.Const a op value) us = refl
selection_means tests (cond.Attrs a op b) us = refl

-- a selection for each condition keeps what meets all
pub selections_mean : {C : Type 0} (tests : Tests C) (conds : List Cond) (us : List (RowOf C))
    → applied tests (map selection conds) us ≡ filter (meets_all tests conds) us
selections_mean {C = C} tests [] us = sym (filter_whole (λ r. true) us (each_always (λ r. true ≡ true) (λ r. refl) us))
selections_mean tests (c ∷ rest) us =
    selections_mean tests rest (apply_one tests (selection c) us)
    ∙ ap (filter (meets_all tests rest)) (selection_means tests c us)
    ∙ filter_and (meets_all tests rest) (λ r. meets tests r c) us

-- the rows of a table's leaf
abbrev pub leaf_rows : {C : Type 0} → Schema → Query → (ℕ → List (RowOf C)) → TableId → List (RowOf C)
leaf_rows schema q rows t = map (cut (used_of schema q t).0) (rows t.0)

branch_means : {C : Type 0} (tests : Tests C) (rows : ℕ → List (RowOf C)) (schema : Schema) (q : Query) (t : TableId)
    → sem tests rows (branch schema q t) ≡ filter (meets_all tests (filter (is_about schema t) q.conds)) (leaf_rows schema q rows t)
branch_means tests rows schema q t =
    over_means tests rows (map selection (filter (is_about schema t) q.conds)) (Leaf t (used_of schema q t))
    ∙ selections_mean tests (filter (is_about schema t) q.conds) (leaf_rows schema q rows t)

-- a comparison turned round
pair_turned : {C : Type 0} (tests : Tests C) → TurnsRound tests → (op : CmpOp) (c d : Option C)
    → both_pass (tests.pair (turned op)) d c ≡ both_pass (tests.pair op) c d
pair_turned tests turns op None None = refl
pair_turned tests turns op None (Some d) = refl
pair_turned tests turns op (Some c) None = refl
pair_turned tests turns op (Some c) (Some d) = turns op c d

-- the join by a condition that links two operands keeps what meets it
join_means : {C : Type 0} (tests : Tests C) → TurnsRound tests → (schema : Schema) (earlier : List TableId) (t : TableId)
    (c : Cond) → joins schema earlier t c ≡ true → (us vs : List (RowOf C))
    → apply_two tests (join_by schema t c) us vs ≡ filter (λ r. meets tests r c) (product us vs)
join_means tests turns schema earlier t (cond.Const a cmp value) links us vs = cc
join_means tests turns schema earlier t (cond.Attrs a cmp b) links us vs = by_side (is_of schema t.0 b)
  where
    by_side : (side : Bool) → apply_two tests (choice side (op.Join a cmp b) (op.Join b (turned cmp) a)) us vs
        ≡ filter (λ r. meets tests r (cond.Attrs a cmp b)) (product us vs)
    by_side true = refl
    by_side false =
        filter_agree (passes_pair tests b.0 (turned cmp) a.0) (passes_pair tests a.0 cmp b.0)
        (λ r. pair_turned tests turns cmp (r.cell a.0) (r.cell b.0)) (product us vs)

attached_means : {C : Type 0} (tests : Tests C) → TurnsRound tests → (rows : ℕ → List (RowOf C)) (schema : Schema)
    (earlier : List TableId) (t : TableId) (links : List Cond) → AllByRecursion (λ c. joins schema earlier t c ≡ true) links
    → (x y : Tree) → sem tests rows (attached schema t links x y)
    ≡ filter (meets_all tests links) (product (sem tests rows x) (sem tests rows y))
attached_means tests turns rows schema earlier t [] all x y =
    let us = product (sem tests rows x) (sem tests rows y) in
    sym (filter_whole (λ r. true) us (each_always (λ r. true ≡ true) (λ r. refl) us))
attached_means tests turns rows schema earlier t (c ∷ rest) all x y =
    over_means tests rows (map selection rest) (Two (join_by schema t c) x y)
    ∙ selections_mean tests rest (apply_two tests (join_by schema t c) (sem tests rows x) (sem tests rows y))
    ∙ ap (filter (meets_all tests rest))
    (join_means tests turns schema earlier t c all.0 (sem tests rows x) (sem tests rows y))
    ∙ filter_and (meets_all tests rest) (λ r. meets tests r c) (product (sem tests rows x) (sem tests rows y))

-- conditions by the tables that they name

about_is : (schema : Schema) (t : TableId) (c : Cond) → is_about schema t c ≡ names_only (owns schema t.0) c
about_is schema t (cond.Const a op value) = and_true (is_of schema t.0 a)
  where
    and_true : (b : Bool) → b ≡ (b && true)
    and_true true = refl
    and_true false = refl
about_is schema t (cond.Attrs a op b) = and_true (is_of schema t.0 a) (is_of schema t.0 b)
  where
    and_true : (b c : Bool) → (b && c) ≡ (b && (c && true))
    and_true true true = refl
    and_true true false = refl
    and_true false c = refl

named_one : (e t : Bool) → ((e || t) && true) ≡ ((t || (e && true)) || false)
named_one true true = refl
named_one true false = refl
named_one false true = refl
named_one false false = refl

named_two : (e t f u : Bool)
    → ((e || t) && ((f || u) && true)) ≡ (((t && u) || (e && (f && true))) || ((e && u) || (t && f)))
named_two true true true true = refl
named_two true true true false = refl
named_two true true false true = refl
named_two true true false false = refl
named_two true false true true = refl
named_two true false true false = refl
named_two true false false true = refl
named_two true false false false = refl
named_two false true true true = refl
named_two false true true false = refl
named_two false true false true = refl
named_two false true false false = refl
named_two false false true true = refl
named_two false false true false = refl
named_two false false false true = refl
named_two false false false false = refl

-- a condition on these tables and one more is on the one, on these, or links them
named_push : (schema : Schema) (earlier : List TableId) (t : TableId) (c : Cond)
    → names_only (some_owns schema (earlier ++ t ∷ [])) c
    ≡ ((is_about schema t c || names_only (some_owns schema earlier) c) || joins schema earlier t c)
named_push schema earlier t (cond.Const a op value) =
    rw (some_owns_push schema earlier t a.0) (named_one (some_owns schema earlier a.0) (owns schema t.0 a.0))
named_push schema earlier t (cond.Attrs a op b) =
    rw (some_owns_push schema earlier t a.0, some_owns_push schema earlier t b.0)
    (named_two (some_owns schema earlier a.0) (owns schema t.0 a.0) (some_owns schema earlier b.0) (owns schema t.0 b.0))

-- tables apart

owner_apart : (schema : Schema) (s t a : ℕ) → s ≢ t → owns schema s a ≡ true → owns schema t a ≡ false
owner_apart schema s t a other = by_owner (table_of schema a)
  where
    not_both : (o : ℕ) (b : Bool) → (o == t) ≡ b → o ≡ s → b ≡ false
    not_both o true same is_s = absurd (other (sym is_s ∙ eqb-true o t same))
    not_both o false same is_s = refl

    by_owner : (owner : Option ℕ) → option_map_or (λ o. o == s) owner false ≡ true
        → option_map_or (λ o. o == t) owner false ≡ false
    by_owner None held = refl
    by_owner (Some o) held = not_both o (o == t) refl (eqb-true o s held)

some_apart : (schema : Schema) (earlier : List TableId) (t : ℕ) → AllByRecursion (λ (e : TableId). e.0 ≢ t) earlier
    → AreApart (some_owns schema earlier) (owns schema t)
some_apart schema [] t all a held = cc
some_apart schema (e ∷ rest) t all a held = by_first (owns schema e.0 a) refl held (some_apart schema rest t all.1 a)
  where
    by_first : (b : Bool) → owns schema e.0 a ≡ b → (b || some_owns schema rest a) ≡ true
        → (some_owns schema rest a ≡ true → owns schema t a ≡ false) → owns schema t a ≡ false
    by_first true own held others = owner_apart schema e.0 t a all.0 own
    by_first false own held others = others held

-- each further table is apart from all before it
abbrev pub AreApartAfter : Schema → List TableId → List TableId → Type 0
AreApartAfter schema earlier [] = Unit {0}
AreApartAfter schema earlier (t ∷ rest) =
    AreApart (some_owns schema earlier) (owns schema t.0) × AreApartAfter schema (earlier ++ t ∷ []) rest

abbrev pub numbers : List TableId → List ℕ
numbers tables = map (λ (t : TableId). t.0) tables

pub apart_after : (schema : Schema) (earlier rest : List TableId)
    → AllByRecursion (λ (e : TableId). All (λ y. e.0 ≢ y) (numbers rest)) earlier → AreDistinct (numbers rest)
    → AreApartAfter schema earlier rest
apart_after schema earlier [] all once = tt
apart_after schema earlier (t ∷ rest) all once = (
  some_apart schema earlier t.0 (each_leads (λ (e : TableId). All (λ y. e.0 ≢ y) (numbers (t ∷ rest))) (λ (e : TableId). e.0 ≢ t.0)
      (λ e others. All-head (λ y. e.0 ≢ y) t.0 (numbers rest) others) earlier all),
  apart_after schema (earlier ++ t ∷ []) rest
      (each_append (λ (e : TableId). All (λ y. e.0 ≢ y) (numbers rest)) earlier (t ∷ [])
      (each_leads (λ (e : TableId). All (λ y. e.0 ≢ y) (numbers (t ∷ rest))) (λ (e : TableId). All (λ y. e.0 ≢ y) (numbers rest))
      (λ e others. All-tail (λ y. e.0 ≢ y) t.0 (numbers rest) others) earlier all) (once.0, tt)) once.1,
)

other_way : (left right : ℕ → Bool) → AreApart left right → AreApart right left
other_way left right apart a held = by_test (left a) refl
  where
    by_test : (b : Bool) → left a ≡ b → b ≡ false
    by_test true inside = sym held ∙ apart a inside
    by_test false outside = refl

-- one table more

leaf_is_of : {C : Type 0} (schema : Schema) (q : Query) (rows : ℕ → List (RowOf C)) (t : TableId)
    → AllByRecursion (IsOf (owns schema t.0)) (rows t.0) → AllByRecursion (IsOf (owns schema t.0)) (leaf_rows schema q rows t)
leaf_is_of schema q rows t own =
    each_map (IsOf (owns schema t.0)) (cut (used_of schema q t).0) (rows t.0)
    (each_leads (IsOf (owns schema t.0)) (λ r. IsOf (owns schema t.0) (cut (used_of schema q t).0 r))
    (λ r of_table. cut_stays_of (used_of schema q t).0 (owns schema t.0) r of_table) (rows t.0) own)

-- the conditions on some of these tables alone
abbrev pub conds_on : Schema → Query → List TableId → List Cond
conds_on schema q tables = filter (names_only (some_owns schema tables)) q.conds

-- selections above a product, by both operands' conditions and by the links, are one filter by the conditions on all
kept_product : {C : Type 0} (tests : Tests C) (schema : Schema) (q : Query) (earlier : List TableId) (t : TableId)
    → AreApart (some_owns schema earlier) (owns schema t.0) → (us vs : List (RowOf C))
    → AllByRecursion (IsOf (some_owns schema earlier)) us → AllByRecursion (IsOf (owns schema t.0)) vs
    → filter (meets_all tests (filter (joins schema earlier t) q.conds))
    (product (filter (meets_all tests (conds_on schema q earlier)) us)
    (filter (meets_all tests (filter (is_about schema t) q.conds)) vs))
    ≡ filter (meets_all tests (conds_on schema q (earlier ++ t ∷ []))) (product us vs)
kept_product {C = C} tests schema q earlier t apart us vs of_earlier of_table =
    ap (filter (meets_all tests (filter (joins schema earlier t) q.conds))) inner
    ∙ filter_parted tests both about_or_earlier (joins schema earlier t) (λ c. named_push schema earlier t c) q.conds
    (product us vs)
  where
    both : Cond → Bool
    both = names_only (some_owns schema (earlier ++ t ∷ []))

    about_or_earlier : Cond → Bool
    about_or_earlier c = is_about schema t c || names_only (some_owns schema earlier) c

    inner : product (filter (meets_all tests (conds_on schema q earlier)) us)
        (filter (meets_all tests (filter (is_about schema t) q.conds)) vs)
        ≡ filter (meets_all tests (filter about_or_earlier q.conds)) (product us vs)
    inner =
        sym (conditions_left tests (some_owns schema earlier) (owns schema t.0) apart (conds_on schema q earlier)
        (each_passes (names_only (some_owns schema earlier)) q.conds) us
        (filter (meets_all tests (filter (is_about schema t) q.conds)) vs)
        (each_filter (IsOf (owns schema t.0)) (meets_all tests (filter (is_about schema t) q.conds)) vs of_table))
        ∙ ap (filter (meets_all tests (conds_on schema q earlier)))
        (sym (conditions_right tests (some_owns schema earlier) (owns schema t.0)
        (other_way (some_owns schema earlier) (owns schema t.0) apart) (filter (is_about schema t) q.conds)
        (each_leads (λ c. is_about schema t c ≡ true) (λ c. names_only (owns schema t.0) c ≡ true)
        (λ c about. sym (about_is schema t c) ∙ about) (filter (is_about schema t) q.conds)
        (each_passes (is_about schema t) q.conds)) us vs of_earlier))
        ∙ filter_parted tests about_or_earlier (is_about schema t) (names_only (some_owns schema earlier)) (λ c. refl) q.conds
        (product us vs)

table_means : {C : Type 0} (tests : Tests C) → TurnsRound tests → (rows : ℕ → List (RowOf C)) (schema : Schema) (q : Query)
    (earlier : List TableId) (t : TableId) (x : Tree) (before : List (RowOf C))
    → AreApart (some_owns schema earlier) (owns schema t.0) → AllByRecursion (IsOf (some_owns schema earlier)) before
    → AllByRecursion (IsOf (owns schema t.0)) (rows t.0)
    → sem tests rows x ≡ filter (meets_all tests (conds_on schema q earlier)) before
    → sem tests rows (attached schema t (filter (joins schema earlier t) q.conds) x (branch schema q t))
    ≡ filter (meets_all tests (conds_on schema q (earlier ++ t ∷ []))) (product before (leaf_rows schema q rows t))
table_means tests turns rows schema q earlier t x before apart of_earlier of_table means =
    attached_means tests turns rows schema earlier t (filter (joins schema earlier t) q.conds)
    (each_passes (joins schema earlier t) q.conds) x (branch schema q t)
    ∙ ap (filter (meets_all tests (filter (joins schema earlier t) q.conds)))
    (rw (means, branch_means tests rows schema q t) refl)
    ∙ kept_product tests schema q earlier t apart before (leaf_rows schema q rows t) of_earlier
    (leaf_is_of schema q rows t of_table)

-- the product of tables after rows so far
abbrev pub product_after : {C : Type 0} → (TableId → List (RowOf C)) → List (RowOf C) → List TableId → List (RowOf C)
product_after leaf before rest = fold (λ us t. product us (leaf t)) before rest

joined_after_means : {C : Type 0} (tests : Tests C) → TurnsRound tests → (rows : ℕ → List (RowOf C)) (schema : Schema)
    (q : Query) → HaveOwnCells schema rows → (rest earlier : List TableId) (x : Tree) (before : List (RowOf C))
    → AreApartAfter schema earlier rest → AllByRecursion (IsOf (some_owns schema earlier)) before
    → sem tests rows x ≡ filter (meets_all tests (conds_on schema q earlier)) before
    → sem tests rows (joined_after schema q earlier x rest)
    ≡ filter (meets_all tests (conds_on schema q (earlier ++ rest))) (product_after (leaf_rows schema q rows) before rest)
joined_after_means tests turns rows schema q own [] earlier x before apart of_earlier means =
    rw (append-nil earlier) means
joined_after_means tests turns rows schema q own (t ∷ rest) earlier x before apart of_earlier means =
    joined_after_means tests turns rows schema q own rest (earlier ++ t ∷ [])
    (attached schema t (filter (joins schema earlier t) q.conds) x (branch schema q t))
    (product before (leaf_rows schema q rows t)) apart.1
    (product_is_of (some_owns schema earlier) (owns schema t.0) (some_owns schema (earlier ++ t ∷ []))
    (some_owns_push schema earlier t) before (leaf_rows schema q rows t) of_earlier
    (leaf_is_of schema q rows t (own t.0)))
    (table_means tests turns rows schema q earlier t x before apart.0 of_earlier (own t.0) means)
    ∙ ap (λ tables. filter (meets_all tests (conds_on schema q tables))
    (product_after (leaf_rows schema q rows) (product before (leaf_rows schema q rows t)) rest))
    (append_assoc earlier (t ∷ []) rest)

one_owns : (schema : Schema) (t : TableId) (a : ℕ) → some_owns schema (t ∷ []) a ≡ owns schema t.0 a
one_owns schema t a = or_false (owns schema t.0 a)
  where
    or_false : (b : Bool) → (b || false) ≡ b
    or_false true = refl
    or_false false = refl

-- the tree of the tables means their product, kept by the conditions on them
pub joined_means : {C : Type 0} (tests : Tests C) → TurnsRound tests → (rows : ℕ → List (RowOf C)) (schema : Schema)
    (q : Query) → HaveOwnCells schema rows → (first : TableId) (rest : List TableId) → AreDistinct (numbers (first ∷ rest))
    → sem tests rows (joined_after schema q (first ∷ []) (branch schema q first) rest)
    ≡ filter (meets_all tests (conds_on schema q (first ∷ rest)))
    (product_after (leaf_rows schema q rows) (leaf_rows schema q rows first) rest)
joined_means tests turns rows schema q own first rest once =
    joined_after_means tests turns rows schema q own rest (first ∷ []) (branch schema q first) (leaf_rows schema q rows first)
    (apart_after schema (first ∷ []) rest (once.0, tt) once.1)
    (each_leads (IsOf (owns schema first.0)) (IsOf (some_owns schema (first ∷ [])))
    (λ r of_first a outside. of_first a (sym (one_owns schema first a) ∙ outside)) (leaf_rows schema q rows first)
    (leaf_is_of schema q rows first (own first.0)))
    (branch_means tests rows schema q first
    ∙ ap (λ conds. filter (meets_all tests conds) (leaf_rows schema q rows first))
    (filter_agree (is_about schema first) (names_only (some_owns schema (first ∷ []))) first_alone q.conds))
  where
    first_alone : (c : Cond) → is_about schema first c ≡ names_only (some_owns schema (first ∷ [])) c
    first_alone (cond.Const a op value) = about_is schema first (cond.Const a op value) ∙ rw (one_owns schema first a.0) refl
    first_alone (cond.Attrs a op b) =
        about_is schema first (cond.Attrs a op b) ∙ rw (one_owns schema first a.0, one_owns schema first b.0) refl

-- Each operation of a bound query's plan stands on as many operands as it takes, and names what they have.
use Rattle.std.proofs.Common.{◌≡◌, ℕ, ◌<◌, ◌≤◌, Bool, true, false, ◌||◌, ◌&&◌, cond, List, [], ◌∷◌, ◌++◌, map, length, get_or, All, Option, Some, None, refl, sym, ◌∙◌, ap, eq-eqb, bit_and, append_assoc, arith}
use Rattle.std.specs.Prelude.{◌↔◌, IfSome, filter, slice_get}
use Rattle.std.specs.Option.{option_map_or}
use Rattle.std.proofs.lemmas.Bool.{and_parts}
use Rattle.std.proofs.lemmas.List.Elements.{All-filter, All-head, All-map, All-nil, All-tail, All-weaker, filter_passes}
use Rattle.std.proofs.lemmas.List.{append-nil}
use Rattle.std.proofs.lemmas.Option.{slice_get-get_or}
use Rattle.base_laws.specs.Sets.{has, IsWithin}
use Rattle.base_laws.proofs.SetLaws.{empty_from_none, has-bit_and, has-bit_or}
use Rattle.mq_base.specs.declared.attr_set.AttrSet.{AttrSet}
use Rattle.mq_base.specs.declared.ids.AttrId.{AttrId}
use Rattle.mq_base.specs.declared.ids.TableId.{TableId}
use Rattle.mq_base.specs.declared.plan.PlanOp.{PlanOp}
use Rattle.mq_base.specs.declared.plan.PlanOp.TheVariants as op
use Rattle.mq_base.specs.declared.query.Cond.{Cond}
use Rattle.mq_base.specs.declared.query.Cond.TheVariants as cond
use Rattle.mq_base.specs.declared.query.Query.{Query}
use Rattle.mq_base.specs.declared.schema.Schema.{Schema}
use Rattle.mq_base.specs.declared.schema.TableInfo.{TableInfo}
use Rattle.mq_base.specs.BoundQuery.{AreDistinct}
use Rattle.mq_base.specs.Nodes.{is_of, is_of_some, joins, used_set}
use Rattle.mq_base.specs.Schema.{IsSchema, table_of}
use Rattle.plan_algebra.specs.declared.facts.NodeFacts.{NodeFacts}
use Rattle.plan_algebra.specs.Facts.{AreApart, IsFamilyVisible, IsFormed, IsOneOn, IsTwoOn, IsVisible, facts_of, one_facts, product_facts, two_facts}
use Rattle.plan_algebra.specs.Plan.{attached, branch, columns_set, is_about, join_by, joined, joined_after, over, selection, turned, used_of}
use Rattle.plan_algebra.specs.Tree.{Tree, Leaf, One, Two}
use Rattle.plan_algebra.proofs.ClassLaws.{one-visible, two-visible}
use Rattle.plan_algebra.proofs.CountLaws.{AreNew, IsNew, of_some-more, tables_new}
use Rattle.plan_algebra.proofs.SmallLaws.{is_of-owned}
use Rattle.plan_algebra.proofs.UsesLaws.{IsUsed, IsUsedCond}

-- a selection, which leaves all attributes and the count
abbrev pub IsSelection : PlanOp → Type 0
IsSelection (op.SelConst a cmp x) = Unit {0}
IsSelection (op.SelCount cmp n) = Unit {0}
IsSelection (op.SelAttr a cmp b) = Unit {0}
IsSelection _ = ⊥

-- facts with the same attributes and the same count
pub record AreLike (f g : NodeFacts) : Type 0 where
  pub visible : f.visible ≡ g.visible
  pub count : f.count ≡ g.count

pub selection-like : (o : PlanOp) (f : NodeFacts) → IsSelection o → AreLike (one_facts o f) f
selection-like (op.SelConst a cmp x) f s = record { visible = refl; count = refl }
selection-like (op.SelCount cmp n) f s = record { visible = refl; count = refl }
selection-like (op.SelAttr a cmp b) f s = record { visible = refl; count = refl }
selection-like _ f s = absurd s

visible_moves : (f g : NodeFacts) (a : AttrId) → AreLike f g → IsVisible g a → IsVisible f a
visible_moves f g a like seen = record { small = seen.small; visible = rw like.visible seen.visible }

selection_moves : (o : PlanOp) (f g : NodeFacts) → AreLike f g → IsSelection o → IsOneOn o g → IsOneOn o f
selection_moves (op.SelConst a cmp x) f g like s on = visible_moves f g a like on
selection_moves (op.SelCount cmp n) f g like s on = like.count ∙ on
selection_moves (op.SelAttr a cmp b) f g like s on = (visible_moves f g a like on.0, visible_moves f g b like on.1, on.2)
selection_moves _ f g like s on = absurd s

-- selections that stand on a tree
abbrev pub IsSelectionOn : NodeFacts → PlanOp → Type 0
IsSelectionOn f o = IsSelection o × IsOneOn o f

like_chain : (f g h : NodeFacts) → AreLike f g → AreLike g h → AreLike f h
like_chain f g h p q = record { visible = p.visible ∙ q.visible; count = p.count ∙ q.count }

pub over-formed : (ops : List PlanOp) (x : Tree) → IsFormed x → All (IsSelectionOn (facts_of x)) ops
    → IsFormed (over ops x) × AreLike (facts_of (over ops x)) (facts_of x)
    × (IsFamilyVisible (facts_of x) → IsFamilyVisible (facts_of (over ops x)))
over-formed [] x formed on = (formed, record { visible = refl; count = refl }, λ kept. kept)
over-formed (first ∷ rest) x formed on =
    let here : IsSelectionOn (facts_of x) first = All-head (IsSelectionOn (facts_of x)) first rest on in
    let like = selection-like first (facts_of x) here.0 in
    let more = over-formed rest (One first x) (formed, here.1)
    (All-weaker (IsSelectionOn (facts_of x)) (IsSelectionOn (one_facts first (facts_of x)))
    (λ o s. (s.0, selection_moves o (one_facts first (facts_of x)) (facts_of x) like s.0 s.1)) rest
    (All-tail (IsSelectionOn (facts_of x)) first rest on)) in (
      more.0,
      like_chain (facts_of (over rest (One first x))) (one_facts first (facts_of x)) (facts_of x) more.1 like,
      λ kept. more.2 (one-visible first (facts_of x) here.1 like.visible kept),
    )

-- a tree of some tables: it is formed, it has their used attributes, and it does not count
pub record HasTables (schema : Schema) (q : Query) (of : AttrId → Bool) (x : Tree) : Type 0 where
  pub formed : IsFormed x
  pub visible : (a : AttrId) → has (facts_of x).visible.0 a.0 ≡ (has (used_set q) a.0 && of a)
  pub uncounted : (facts_of x).count ≡ false
  pub within : IsFamilyVisible (facts_of x)

sees : (schema : Schema) (q : Query) (of : AttrId → Bool) (x : Tree) (a : AttrId) → HasTables schema q of x → IsUsed q a → of a ≡ true
    → IsVisible (facts_of x) a
sees schema q of x a tables used inside = record { small = used.small; visible = tables.visible a ∙ rw (used.used, inside) refl }

-- the attributes of a condition are of these
abbrev IsOfCond : (AttrId → Bool) → Cond → Type 0
IsOfCond of (cond.Const a cmp v) = of a ≡ true
IsOfCond of (cond.Attrs a cmp b) = (of a ≡ true) × (of b ≡ true)

cond_on : (schema : Schema) (q : Query) (of : AttrId → Bool) (x : Tree) → HasTables schema q of x → (c : Cond) → IsUsedCond q c
    → ((a : AttrId) → IsUsed q a → of a ≡ true → IsVisible (facts_of x) a) → IsOfCond of c → IsSelectionOn (facts_of x) (selection c)
cond_on schema q of x tables (cond.Const a cmp v) used see inside = (tt, see a used inside)
cond_on schema q of x tables (cond.Attrs a cmp b) used see inside = (tt, (see a used.0 inside.0, see b used.1 inside.1, used.2))

-- conditions over a tree of tables that have their attributes
conds_over : (schema : Schema) (q : Query) (of : AttrId → Bool) (x : Tree) (conds : List Cond) → HasTables schema q of x
    → All (IsUsedCond q) conds → All (IsOfCond of) conds → HasTables schema q of (over (map selection conds) x)
conds_over schema q of x conds tables used inside =
    let on : All (IsSelectionOn (facts_of x)) (map selection conds) =
    All-map (IsSelectionOn (facts_of x)) selection conds
    (λ k d below. cond_on schema q of x tables _ (used k d below) (λ a u i. sees schema q of x a tables u i) (inside k d below)) in
    let made = over-formed (map selection conds) x tables.formed on in
    record {
      formed = made.0;
      visible = λ a. ap (λ (s : AttrSet). has s.0 a.0) made.1.visible ∙ tables.visible a;
      uncounted = made.1.count ∙ tables.uncounted;
      within = made.2 tables.within;
    }

same_tests : (x y : Bool) → (x ≡ true → y ≡ true) → (y ≡ true → x ≡ true) → x ≡ y
same_tests true true forth back = refl
same_tests true false forth back = sym (forth refl)
same_tests false true forth back = back refl
same_tests false false forth back = refl

owned_is : (schema : Schema) (t : ℕ) (a : AttrId) → table_of schema a.0 ≡ Some t → is_of schema t a ≡ true
owned_is schema t a owned = rw owned (eq-eqb t t refl)

nowhere : TableInfo
nowhere = record { name = []; owner = record { 0 = 0 }; attrs = record { 0 = 0 } }

-- the columns of a table
columns_is : (schema : Schema) (t : TableId) (a : AttrId) → IsSchema schema → t.0 < length schema.tables
    → has (columns_set schema t) a.0 ≡ is_of schema t.0 a
columns_is schema t a ok below = by_info (slice_get schema.tables t.0) (ok.listed t.0) refl
  where
    by_info : (o : Option TableInfo) → IfSome o (λ info. (i : ℕ) → (has info.attrs.0 i ≡ true) ↔ (table_of schema i ≡ Some t.0))
        → slice_get schema.tables t.0 ≡ o
        → has (option_map_or (λ (info : TableInfo). info.attrs.0) o 0) a.0 ≡ is_of schema t.0 a
    by_info (Some info) listed got =
        same_tests (has info.attrs.0 a.0) (is_of schema t.0 a)
        (λ inside. owned_is schema t.0 a ((listed a.0).0 inside)) (λ of. (listed a.0).1 (is_of-owned schema t.0 a of))
    by_info None listed none =
        let some : slice_get schema.tables t.0 ≡ Some (get_or schema.tables t.0 nowhere) = slice_get-get_or schema.tables t.0 nowhere below in cc

about_inside : (schema : Schema) (t : TableId) (c : Cond) → is_about schema t c ≡ true → IsOfCond (is_of schema t.0) c
about_inside schema t (cond.Const a cmp v) holds = holds
about_inside schema t (cond.Attrs a cmp b) holds = and_parts _ _ holds

branch_of : (schema : Schema) (q : Query) (t : TableId) → IsSchema schema → t.0 < length schema.tables → All (IsUsedCond q) q.conds
    → HasTables schema q (is_of schema t.0) (branch schema q t)
branch_of schema q t ok below used =
    conds_over schema q (is_of schema t.0) (Leaf t (used_of schema q t)) (filter (is_about schema t) q.conds)
    (record {
      formed = tt;
      visible = λ a. has-bit_and (used_set q) (columns_set schema t) a.0 ∙ ap (λ b. has (used_set q) a.0 && b) (columns_is schema t a ok below);
      uncounted = refl;
      within = All-nil (λ (s : AttrSet). IsWithin s.0 (used_of schema q t).0);
    })
    (All-filter (is_about schema t) (IsUsedCond q) q.conds used)
    (All-weaker (λ c. is_about schema t c ≡ true) (IsOfCond (is_of schema t.0)) (about_inside schema t) (filter (is_about schema t) q.conds)
    (filter_passes (is_about schema t) q.conds))

-- the attributes of two trees of tables that have none in common
parts_apart : (u e t : Bool) → (e && t) ≡ false → ((u && e) && (u && t)) ≡ false
parts_apart true e t new = new
parts_apart false e t new = refl

parts_union : (u e t : Bool) → ((u && e) || (u && t)) ≡ (u && (e || t))
parts_union true e t = refl
parts_union false e t = refl

are_apart : (schema : Schema) (q : Query) (of next : AttrId → Bool) (x y : Tree) → ((a : AttrId) → (of a && next a) ≡ false)
    → HasTables schema q of x → HasTables schema q next y → AreApart (facts_of x) (facts_of y)
are_apart schema q of next x y new left right = record {
  apart = empty_from_none (bit_and (facts_of x).visible.0 (facts_of y).visible.0) (λ i. none i);
  left_family = left.within;
  right_family = right.within;
  left = left.uncounted;
  right = right.uncounted;
}
  where
    none : (i : ℕ) → has (bit_and (facts_of x).visible.0 (facts_of y).visible.0) i ≡ false
    none i =
        let a : AttrId = record { 0 = i } in
        has-bit_and (facts_of x).visible.0 (facts_of y).visible.0 i
        ∙ rw (left.visible a, right.visible a) (parts_apart (has (used_set q) i) (of a) (next a) (new a))

two_like : (o : PlanOp) (f g : NodeFacts) → AreLike (two_facts o f g) (product_facts f g)
two_like (op.Join a cmp b) f g = record { visible = refl; count = refl }
two_like _ f g = record { visible = refl; count = refl }

-- a node on two trees of tables is a tree of both
two_of : (schema : Schema) (q : Query) (of next both : AttrId → Bool) (o : PlanOp) (x y : Tree)
    → ((a : AttrId) → both a ≡ (of a || next a))
    → HasTables schema q of x → HasTables schema q next y → IsTwoOn o (facts_of x) (facts_of y) → HasTables schema q both (Two o x y)
two_of schema q of next both o x y whole left right on = record {
  formed = (left.formed, right.formed, on);
  visible = λ a.
      ap (λ (s : AttrSet). has s.0 a.0) (two_like o (facts_of x) (facts_of y)).visible
      ∙ has-bit_or (facts_of x).visible.0 (facts_of y).visible.0 a.0
      ∙ rw (left.visible a, right.visible a, whole a) (parts_union (has (used_set q) a.0) (of a) (next a));
  uncounted = (two_like o (facts_of x) (facts_of y)).count ∙ rw (left.uncounted, right.uncounted) refl;
  within = two-visible o (facts_of x) (facts_of y) on left.within right.within;
}

-- the join of a condition that links
join_on : (schema : Schema) (q : Query) (earlier : List TableId) (t : TableId) (x y : Tree) → IsNew schema earlier t
    → HasTables schema q (is_of_some schema earlier) x → HasTables schema q (is_of schema t.0) y → (c : Cond) → IsUsedCond q c
    → joins schema earlier t c ≡ true → IsTwoOn (join_by schema t c) (facts_of x) (facts_of y)
join_on schema q earlier t x y new left right (cond.Const a cmp v) used links = cc
join_on schema q earlier t x y new left right (cond.Attrs a cmp b) used links =
    by_test (is_of schema t.0 b) refl
  where
    apart : AreApart (facts_of x) (facts_of y)
    apart = are_apart schema q (is_of_some schema earlier) (is_of schema t.0) x y new left right

    written : (ea ta eb : Bool) → (eb && true) ≡ false → ((ea && true) || (ta && eb)) ≡ true → ea ≡ true
    written true ta eb none holds = refl
    written false ta true none holds = cc
    written false true false none holds = cc
    written false false false none holds = cc

    other_way : (ea ta eb : Bool) → ((ea && false) || (ta && eb)) ≡ true → (ta ≡ true) × (eb ≡ true)
    other_way ea true true holds = (refl, refl)
    other_way true true false holds = cc
    other_way false true false holds = cc
    other_way true false eb holds = cc
    other_way false false eb holds = cc

    by_test : (tb : Bool) → is_of schema t.0 b ≡ tb
        → IsTwoOn (cond tb (op.Join a cmp b) (op.Join b (turned cmp) a)) (facts_of x) (facts_of y)
    by_test true here =
        let h : ((is_of_some schema earlier a && true) || (is_of schema t.0 a && is_of_some schema earlier b)) ≡ true = rw here at links in
        let n : (is_of_some schema earlier b && true) ≡ false = rw here at (new b) in
        let e = written (is_of_some schema earlier a) (is_of schema t.0 a) (is_of_some schema earlier b) n h in
        (apart, sees schema q (is_of_some schema earlier) x a left used.0 e, sees schema q (is_of schema t.0) y b right used.1 here)
    by_test false other =
        let h : ((is_of_some schema earlier a && false) || (is_of schema t.0 a && is_of_some schema earlier b)) ≡ true = rw other at links in
        let e = other_way (is_of_some schema earlier a) (is_of schema t.0 a) (is_of_some schema earlier b) h in
        (apart, sees schema q (is_of_some schema earlier) x b left used.1 e.1, sees schema q (is_of schema t.0) y a right used.0 e.0)

link_inside : (schema : Schema) (earlier : List TableId) (t : TableId) (c : Cond) → joins schema earlier t c ≡ true
    → IsOfCond (is_of_some schema (earlier ++ t ∷ [])) c
link_inside schema earlier t (cond.Const a cmp v) links = cc
link_inside schema earlier t (cond.Attrs a cmp b) links =
    rw (of_some-more schema earlier t a, of_some-more schema earlier t b)
    (both (is_of_some schema earlier a) (is_of schema t.0 a) (is_of_some schema earlier b) (is_of schema t.0 b) links)
  where
    both : (ea ta eb tb : Bool) → ((ea && tb) || (ta && eb)) ≡ true → ((ea || ta) ≡ true) × ((eb || tb) ≡ true)
    both true ta true tb links = (refl, refl)
    both true ta false true links = (refl, refl)
    both true true false false links = cc
    both true false false false links = cc
    both false true true tb links = (refl, refl)
    both false true false true links = (refl, refl)
    both false true false false links = cc
    both false false eb tb links = cc

attached_of : (schema : Schema) (q : Query) (earlier : List TableId) (t : TableId) (x y : Tree) → IsNew schema earlier t
    → HasTables schema q (is_of_some schema earlier) x → HasTables schema q (is_of schema t.0) y → (links : List Cond)
    → All (IsUsedCond q) links → All (λ c. joins schema earlier t c ≡ true) links
    → HasTables schema q (is_of_some schema (earlier ++ t ∷ [])) (attached schema t links x y)
attached_of schema q earlier t x y new left right [] used links =
    two_of schema q (is_of_some schema earlier) (is_of schema t.0) (is_of_some schema (earlier ++ t ∷ [])) op.Product x y (of_some-more schema earlier t)
    left right (are_apart schema q (is_of_some schema earlier) (is_of schema t.0) x y new left right)
attached_of schema q earlier t x y new left right (first ∷ rest) used links =
    let joined = two_of schema q (is_of_some schema earlier) (is_of schema t.0) (is_of_some schema (earlier ++ t ∷ [])) (join_by schema t first) x y
    (of_some-more schema earlier t) left right
    (join_on schema q earlier t x y new left right first (All-head (IsUsedCond q) first rest used) (All-head (λ c. joins schema earlier t c ≡ true) first rest links)) in
    conds_over schema q (is_of_some schema (earlier ++ t ∷ [])) (Two (join_by schema t first) x y) rest joined
    (All-tail (IsUsedCond q) first rest used)
    (All-weaker (λ c. joins schema earlier t c ≡ true) (IsOfCond (is_of_some schema (earlier ++ t ∷ []))) (link_inside schema earlier t) rest
    (All-tail (λ c. joins schema earlier t c ≡ true) first rest links))

-- the tables in turn
joined_after_of : (schema : Schema) (q : Query) (earlier rest : List TableId) (x : Tree) → IsSchema schema → All (IsUsedCond q) q.conds
    → AreNew schema earlier rest → All (λ (t : TableId). t.0 < length schema.tables) rest → HasTables schema q (is_of_some schema earlier) x
    → HasTables schema q (is_of_some schema (earlier ++ rest)) (joined_after schema q earlier x rest)
joined_after_of schema q earlier [] x ok used new below so_far = rw (append-nil earlier) so_far
joined_after_of schema q earlier (t ∷ rest) x ok used new below so_far =
    let here = attached_of schema q earlier t x (branch schema q t) new.0 so_far
    (branch_of schema q t ok (All-head (λ (u : TableId). u.0 < length schema.tables) t rest below) used) (filter (joins schema earlier t) q.conds)
    (All-filter (joins schema earlier t) (IsUsedCond q) q.conds used) (filter_passes (joins schema earlier t) q.conds) in
    rw append_assoc at (joined_after_of schema q (earlier ++ t ∷ []) rest (attached schema t (filter (joins schema earlier t) q.conds) x (branch schema q t))
    ok used new.1 (All-tail (λ (u : TableId). u.0 < length schema.tables) t rest below) here)

pub joined_of : (schema : Schema) (q : Query) (tables : List TableId) → IsSchema schema → 1 ≤ length tables
    → AreDistinct (map (λ (t : TableId). t.0) tables) → All (λ (t : TableId). t.0 < length schema.tables) tables
    → All (IsUsedCond q) q.conds → HasTables schema q (is_of_some schema tables) (joined schema q tables)
joined_of schema q [] ok some distinct below used = absurd (omega arith)
joined_of schema q (first ∷ rest) ok some distinct below used =
    joined_after_of schema q (first ∷ []) rest (branch schema q first) ok used (tables_new schema first rest distinct)
    (All-tail (λ (u : TableId). u.0 < length schema.tables) first rest below)
    (one_table (branch_of schema q first ok (All-head (λ (u : TableId). u.0 < length schema.tables) first rest below) used))
  where
    or_none : (x : Bool) → x ≡ (x || false)
    or_none true = refl
    or_none false = refl

    one_table : HasTables schema q (is_of schema first.0) (branch schema q first)
        → HasTables schema q (is_of_some schema (first ∷ [])) (branch schema q first)
    one_table of = record {
      formed = of.formed;
      visible = λ a. of.visible a ∙ ap (λ b. has (used_set q) a.0 && b) (or_none (is_of schema first.0 a));
      uncounted = of.uncounted;
      within = of.within;
    }

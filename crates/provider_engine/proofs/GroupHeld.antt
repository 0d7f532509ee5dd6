-- Groups of tables that are held: the operation has what it asks of the table, and the result is of its job and opens under its keys.
use Rattle.std.proofs.Common.{◌≡◌, refl, sym, ◌∙◌, ap, subst, ℕ, zero, suc, ◌<◌, ◌==◌, Bool, true, false, cond, not, ◌||◌, List, [], ◌∷◌, map, All, Option, Some, None, option_map, slice_get, if◌then◌else◌, arith, ◌⊎◌, inl, inr}
use Rattle.std.specs.Prelude.{IfSome, IsSome, ◌&&◌, find, is_some, slice_index_or}
use Rattle.std.proofs.lemmas.Bool.{eqb-true}
use Rattle.std.proofs.lemmas.List.Elements.{All-from_recursion, All-head, All-tail, All-cons, All-nil}
use Rattle.std.specs.List.{AllZip, list_all, list_any}
use Rattle.base_laws.specs.Sets.{has, without}
use Rattle.base_laws.proofs.BoolLaws.{both, either}
use Rattle.base_laws.proofs.FilterLaws.{each_from_list_all}
use Rattle.base_laws.proofs.SetLaws.{has-bit_and, has-with_members, has-without}
use Rattle.extended_plan.specs.declared.state.State.{State}
use Rattle.extended_plan.specs.Gains.{shown}
use Rattle.extended_plan.specs.Job.{IsStateAt}
use Rattle.extended_plan.specs.Ready.{IsReady}
use Rattle.extended_plan.specs.Setting.{Setting, known_at, op_at, schemes}
use Rattle.key_clusters.specs.Keys.{scheme_at}
use Rattle.mq_base.specs.declared.ids.AttrId.{AttrId}
use Rattle.mq_base.specs.declared.ids.NodeId.{NodeId}
use Rattle.mq_base.specs.declared.attr_set.AttrSet.{AttrSet}
use Rattle.mq_base.specs.declared.plan.PlanOp.{PlanOp}
use Rattle.mq_base.specs.declared.plan.PlanOp.TheVariants as op
use Rattle.mq_base.specs.declared.plan.Step.TheVariants as step
use Rattle.mq_base.specs.declared.query.Agg.{Agg}
use Rattle.mq_base.specs.declared.query.Agg.TheVariants.{Sum, Min, Max}
use Rattle.mq_base.specs.declared.query.CmpOp.TheVariants.{Eq, Lt}
use Rattle.mq_base.specs.declared.table.Scheme.{Scheme}
use Rattle.mq_base.specs.declared.table.Scheme.TheVariants.{Rnd, Det, Ope}
use Rattle.mq_base.specs.declared.value.Value.{Value}
use Rattle.mq_base.specs.declared.value.ValueType.{ValueType}
use Rattle.mq_base.specs.declared.value.ValueType.TheVariants as type
use Rattle.mq_base.specs.BoundQuery.{IsSummable}
use Rattle.mq_base.specs.Nodes.{aggregated}
use Rattle.mq_base.specs.Value.{IsCell, type_of}
use Rattle.plan_algebra.specs.declared.facts.NodeFacts.{NodeFacts}
use Rattle.plan_algebra.specs.Facts.{IsGroupOf, IsOneAt, IsOneOn, IsVisible, group_set, one_facts}
use Rattle.provider_engine.specs.declared.held.Held.{Held}
use Rattle.column_table.specs.declared.table.Table.{Table}
use Rattle.column_table.specs.Cells.{Cell, Plain, Sealed}
use Rattle.column_table.specs.Columns.{Shown, at_rows, is_sealed, shown_columns}
use Rattle.provider_engine.specs.Held.{column_of, node_of, state_of}
use Rattle.provider_engine.specs.OfJob.{IsBeforeGroup, IsColumnAt, IsColumnOpened, IsOfJob, IsOpenedBy, IsShownAt, StandsFor}
use Rattle.provider_engine.specs.Opening.{listed_key}
use Rattle.provider_engine.specs.Steps.{IsRunnableOn, state_after}
use Rattle.provider_engine.specs.Typed.{AreTyped, IsTypedOp, groups}
use Rattle.column_table.specs.Groups.{AreCellsOf, AreSums, HasOrder, IsFoldable, IsGroupFrom, IsMadeOf, IsPlaceOf, IsSmallInt, first_in, folded_at, group_cell}
use Rattle.provider_engine.specs.inside.Operations.{IsGroupFit, IsGroupMade}
use Rattle.column_table.specs.Tables.{column_in}
use Rattle.provider_engine.proofs.HeldLaws.{before_group, one_at, opened_at_rows, runs_after_one, sealed_as_viewed, view_after_one}
use Rattle.relation_profile.specs.declared.view.View.{View}
use Rattle.relation_profile.specs.Runnable.{all_comparable, is_comparable, may_fold, runs_one}
use Rattle.mq_base.specs.Schemes.{offers}
use Rattle.relation_profile.specs.Steps.{after_one}
use Rattle.relation_profile.specs.View.{view_of}
use Rattle.row_algebra.specs.Groups.{function_of}
use Rattle.sealed_column.specs.Cells.{OpenTo, OpensAt}

-- ---- the function of an attribute

-- what holds of each attribute with its function holds of the one under which an attribute stands
under_all : (P : AttrId × Agg → Type 0) (aggs : List (AttrId × Agg)) (a : ℕ) (func : Agg) → All P aggs → function_of aggs a ≡ Some func
    → P (record { 0 = a }, func)
under_all P [] a func all under = cc
under_all P (p ∷ aggs) a func all under =
    by_test (p.0.0 == a) refl under (λ later. under_all P aggs a func (All-tail P p aggs all) later)
  where
    by_test : (b : Bool) → (p.0.0 == a) ≡ b → option_map (λ (q : AttrId × Agg). q.1) (cond b (Some p) (find (λ (q : AttrId × Agg). q.0.0 == a) aggs)) ≡ Some func
        → (function_of aggs a ≡ Some func → P (record { 0 = a }, func)) → P (record { 0 = a }, func)
    by_test true same is rest =
        let place : p.0.0 ≡ a = eqb-true p.0.0 a same in
        let it : p.1 ≡ func = cc in
        subst (λ (q : AttrId × Agg). P q) (λ i. (record { 0 = place i }, it i)) (All-head P p aggs all)
    by_test false differ is rest = rest is

-- an attribute stands under a function just where it is named with one
function_named : (aggs : List (AttrId × Agg)) (a : ℕ) → list_any (λ k. k == a) (aggregated aggs) ≡ is_some (function_of aggs a)
function_named [] a = refl
function_named (p ∷ aggs) a = by_test (p.0.0 == a) (function_named aggs a)
  where
    by_test : (b : Bool) → list_any (λ k. k == a) (aggregated aggs) ≡ is_some (function_of aggs a)
        → (b || list_any (λ k. k == a) (aggregated aggs))
        ≡ is_some (option_map (λ (q : AttrId × Agg). q.1) (cond b (Some p) (find (λ (q : AttrId × Agg). q.0.0 == a) aggs)))
    by_test true rest = refl
    by_test false rest = rest

-- ---- schemes that keep the order

offers_order : (all : List Scheme) (a : ℕ) → offers all Lt a ≡ true → HasOrder (Some (slice_index_or all a Rnd))
offers_order [] a is = cc
offers_order (Rnd ∷ all) zero is = cc
offers_order (Det ∷ all) zero is = cc
offers_order (Ope ∷ all) zero is = tt
offers_order (scheme ∷ all) (suc a) is = offers_order all a is

unsealed : (v e : Bool) → (v && not e) ≡ true → e ≡ false
unsealed true true is = cc
unsealed true false is = refl
unsealed false e is = cc

scheme_none : (s : Setting) (view : View) (a : ℕ) (scheme : Option Scheme) → has view.enc.0 a ≡ false
    → scheme ≡ (if has view.enc.0 a then Some (scheme_at s.basis.clusters a) else None) → scheme ≡ None
scheme_none s view a scheme plain is = is ∙ ap (λ b. if b then Some (scheme_at s.basis.clusters a) else None) plain

-- a column that compares has an order
comparable_order : (s : Setting) (n : ℕ) (st : State) (a : ℕ) (c : Shown) → IsShownAt s n st.view a c
    → is_comparable (schemes s) Lt a (shown s n st) ≡ true → HasOrder c.scheme
comparable_order s n st a c is can = by_test (has st.view.enc.0 a) refl
  where
    by_test : (b : Bool) → has st.view.enc.0 a ≡ b → HasOrder c.scheme
    by_test false plain = subst HasOrder (sym (scheme_none s st.view a c.scheme plain is.sealed)) tt
    by_test true sealed =
        subst HasOrder (sym (is.sealed ∙ ap (λ b. if b then Some (scheme_at s.basis.clusters a) else None) sealed))
        (either (has (without (known_at s n).visible.0 st.view.enc.0) a) (has st.view.enc.0 a && offers (schemes s) Lt a) can
        (λ plain.
        let h : true ≡ false =
        sym sealed ∙ unsealed (has (known_at s n).visible.0 a) (has st.view.enc.0 a)
        (sym (has-without (known_at s n).visible.0 st.view.enc.0 a) ∙ plain) in
        absurd (never h))
        (λ offered. offers_order (schemes s) a (both (has st.view.enc.0 a) (offers (schemes s) Lt a) offered).1))
      where
        never : true ≡ false → ⊥
        never e = cc

-- ---- sums

plain_ints : (key : List ℕ) (cells : List Cell) (values : List Value) → AllZip (OpensAt (StandsFor None key) type.Int) cells values
    → All (IsCell type.Int) values → All IsSmallInt cells
plain_ints key [] values opens small = All-nil IsSmallInt
plain_ints key (Plain v ∷ cells) [] opens small = absurd opens
plain_ints key (Sealed t ∷ cells) [] opens small = absurd opens
plain_ints key (Plain v ∷ cells) (w ∷ values) opens small =
    All-cons IsSmallInt (Plain v) cells (subst (IsCell type.Int) (sym opens.0.opened) (All-head (IsCell type.Int) w values small))
    (plain_ints key cells values opens.1 (All-tail (IsCell type.Int) w values small))
plain_ints key (Sealed t ∷ cells) (w ∷ values) opens small = absurd opens.0.opened

-- a plain column of INT that opens to what a table's cells may hold
summed_column : (key : List ℕ) (scheme : Option Scheme) (ty : ValueType) (cells : List Cell) (values : List Value) → scheme ≡ None → ty ≡ type.Int
    → OpenTo (StandsFor scheme key) ty cells values → All (IsCell ty) values → All IsSmallInt cells
summed_column key scheme ty cells values plain typed opens small =
    plain_ints key cells values (subst (λ t. AllZip (OpensAt (StandsFor None key) t) cells values) typed
    (subst (λ o. AllZip (OpensAt (StandsFor o key) ty) cells values) plain opens)) (subst (λ t. All (IsCell t) values) typed small)

sums_open : (key : List ℕ) (values : List Value) → All (λ v. type_of v ≡ type.Int) values
    → AllZip (OpensAt (StandsFor None key) type.Int) (map Plain values) values
sums_open key [] ints = tt
sums_open key (v ∷ values) ints = (
  record { typed = All-head (λ w. type_of w ≡ type.Int) v values ints; opened = refl },
  sums_open key values (All-tail (λ w. type_of w ≡ type.Int) v values ints),
)

-- ---- columns of groups

made_scheme : (give : List ℕ → Option Cell) (listed : List (List ℕ)) (c d : Shown) → IsMadeOf give listed c d → d.scheme ≡ c.scheme
made_scheme give listed c d made = by_kept made.kept
  where
    by_kept : ((rows : List ℕ) × (d ≡ at_rows rows c)) ⊎ AreSums c d → d.scheme ≡ c.scheme
    by_kept (inl taken) = ap (λ (e : Shown). e.scheme) taken.1
    by_kept (inr sums) = ap (λ (e : Shown). e.scheme) sums.are ∙ sym sums.plain

made_type : (give : List ℕ → Option Cell) (listed : List (List ℕ)) (c d : Shown) → IsMadeOf give listed c d → d.ty ≡ c.ty
made_type give listed c d made = by_kept made.kept
  where
    by_kept : ((rows : List ℕ) × (d ≡ at_rows rows c)) ⊎ AreSums c d → d.ty ≡ c.ty
    by_kept (inl taken) = ap (λ (e : Shown). e.ty) taken.1
    by_kept (inr sums) = ap (λ (e : Shown). e.ty) sums.are ∙ sym sums.typed

and_true : (b k : Bool) → k ≡ true → (b && k) ≡ b
and_true true k is = is
and_true false k is = refl

and_false : (b k : Bool) → k ≡ false → (b && k) ≡ false
and_false true k is = is
and_false false k is = refl

abbrev kept_in : ℕ → List (AttrId × Agg) → ℕ → Bool
kept_in by aggs a = has by a || is_some (function_of aggs a)

module _ (s : Setting) (from n : ℕ) (old new : View) (by : ℕ) (aggs : List (AttrId × Agg)) (listed : List (List ℕ)) (a : ℕ)
    (visible : has (known_at s n).visible.0 a ≡ (has (known_at s from).visible.0 a && kept_in by aggs a))
    (sealed : has new.enc.0 a ≡ (has old.enc.0 a && kept_in by aggs a)) where
  made_shown : (give : List ℕ → Option Cell) (c d : Shown) → kept_in by aggs a ≡ true → IsShownAt s from old a c → IsMadeOf give listed c d
      → IsShownAt s n new a d
  made_shown give c d kept is made = record {
    visible = visible ∙ and_true (has (known_at s from).visible.0 a) (kept_in by aggs a) kept ∙ is.visible;
    typed = is.typed ∙ ap (λ t. Some t) (sym (made_type give listed c d made));
    sealed = made_scheme give listed c d made ∙ is.sealed
        ∙ ap (λ b. if b then Some (scheme_at s.basis.clusters a) else None)
        (sym (sealed ∙ and_true (has old.enc.0 a) (kept_in by aggs a) kept));
  }

  -- the column of an attribute of groups is one of their node
  place_of_node : (o m : Option Shown) → IsColumnAt s from old a o → IsPlaceOf by aggs listed a o m → IsColumnAt s n new a m
  place_of_node None m is place =
      subst (IsColumnAt s n new a) (sym place) (visible ∙ ap (λ b. b && kept_in by aggs a) is)
  place_of_node (Some c) m is place = by_tests (has by a) (function_of aggs a) refl refl m place
    where
      by_tests : (b : Bool) (o : Option Agg) → has by a ≡ b → function_of aggs a ≡ o → (n' : Option Shown)
          → AreCellsOf (if b then Some (λ g. slice_get c.cells (first_in g)) else option_map (λ (func : Agg) (g : List ℕ). folded_at func c.cells g) o)
          listed c n' → IsColumnAt s n new a n'
      by_tests true o inside under None holds = absurd holds
      by_tests true o inside under (Some d) holds =
          made_shown (λ g. slice_get c.cells (first_in g)) c d (ap (λ b. b || is_some (function_of aggs a)) inside) is holds
      by_tests false None outside under n' holds =
          subst (IsColumnAt s n new a) (sym holds)
          (visible ∙ and_false (has (known_at s from).visible.0 a) (kept_in by aggs a) (λ i. outside i || is_some (under i)))
      by_tests false (Some func) outside under None holds = absurd holds
      by_tests false (Some func) outside under (Some d) holds =
          made_shown (folded_at func c.cells) c d (λ i. outside i || is_some (under i)) is holds

module _ (s : Setting) (keys : List (List ℕ)) (from n : ℕ) (by : ℕ) (aggs : List (AttrId × Agg)) (listed : List (List ℕ)) (a : ℕ)
    (before : IsBeforeGroup s n → IsBeforeGroup s from) (last : IsBeforeGroup s n → ⊥) where
  made_opened : (give : List ℕ → Option Cell) (c d : Shown) → IsColumnOpened s keys from a c → IsMadeOf give listed c d
      → IsColumnOpened s keys n a d
  made_opened give c d is made = by_kept made.kept
    where
      by_kept : ((rows : List ℕ) × (d ≡ at_rows rows c)) ⊎ AreSums c d → IsColumnOpened s keys n a d
      by_kept (inl taken) = subst (IsColumnOpened s keys n a) (sym taken.1) (opened_at_rows s keys from n a taken.0 c before is)
      by_kept (inr sums) =
          subst (IsColumnOpened s keys n a) (sym sums.are)
          (record { values = sums.values; opens = sums_open (listed_key keys a) sums.values sums.ints; small = λ stands. absurd (last stands) })

  place_opened : (o m : Option Shown) → IfSome o (IsColumnOpened s keys from a) → IsPlaceOf by aggs listed a o m
      → IfSome m (IsColumnOpened s keys n a)
  place_opened None m is place = subst (λ o. IfSome o (IsColumnOpened s keys n a)) (sym place) tt
  place_opened (Some c) m is place = by_give (group_cell by aggs a c) m place
    where
      by_give : (o : Option (List ℕ → Option Cell)) (n' : Option Shown) → AreCellsOf o listed c n' → IfSome n' (IsColumnOpened s keys n a)
      by_give None n' holds = subst (λ o. IfSome o (IsColumnOpened s keys n a)) (sym holds) tt
      by_give (Some give) None holds = absurd holds
      by_give (Some give) (Some d) holds = made_opened give c d is holds

-- ---- the operation

-- an operation that groups is a group
pub record IsGroupBy (o : PlanOp) : Type 0 where
  pub by : AttrSet
  pub aggs : List (AttrId × Agg)
  pub count : Bool
  pub is : o ≡ op.Group by aggs count

pub group_op : (o : PlanOp) → groups o ≡ true → IsGroupBy o
group_op (op.Group by aggs count) is = record { by = by; aggs = aggs; count = count; is = refl }
group_op (op.Base t used) is = cc
group_op (op.Project kept) is = cc
group_op (op.SelConst a cmp x) is = cc
group_op (op.SelCount cmp k) is = cc
group_op (op.SelAttr a cmp b) is = cc
group_op op.Product is = cc
group_op (op.Join a cmp b) is = cc

there_at : (s : Setting) (m : ℕ) (view : View) (a : ℕ) (x : Option Shown) → has (known_at s m).visible.0 a ≡ true → IsColumnAt s m view a x → IsSome x
there_at s m view a None seen hidden = let h : true ≡ false = sym seen ∙ hidden in cc
there_at s m view a (Some c) seen is = refl

module _ (s : Setting) (keys : List (List ℕ)) (n : NodeId) (held : Held) (ready : IsReady s) (of_job : IsOfJob s held)
    (opened : IsOpenedBy s keys held) (run : IsRunnableOn s (step.Un n) held) (typed : AreTyped s.policy.schema s.basis.nodes)
    (g : IsGroupBy (op_at s n.0)) where
  at : IsOneAt (known_at s) n.0 (op_at s n.0) (node_of held).0
  at = one_at s n (node_of held) ready run.from

  stands_on : IsGroupOf (known_at s (node_of held).0) g.by g.aggs × ((known_at s (node_of held).0).count ≡ false)
  stands_on = subst (λ o. IsOneOn o (known_at s (node_of held).0)) g.is at.stands

  runs_on : runs_one (schemes s) (op.Group g.by g.aggs g.count) (shown s (node_of held).0 (state_of held)) ≡ true
  runs_on =
      subst (λ o. runs_one (schemes s) o (shown s (node_of held).0 (state_of held)) ≡ true) g.is
      (runs_after_one s n (node_of held) (state_of held) run.from run.runs)

  folds_all : All (λ (p : AttrId × Agg). may_fold (schemes s) (shown s (node_of held).0 (state_of held)) p.0 p.1 ≡ true) g.aggs
  folds_all =
      All-from_recursion (λ (p : AttrId × Agg). may_fold (schemes s) (shown s (node_of held).0 (state_of held)) p.0 p.1 ≡ true) g.aggs
      (each_from_list_all (λ (p : AttrId × Agg). may_fold (schemes s) (shown s (node_of held).0 (state_of held)) p.0 p.1) g.aggs
      (both (all_comparable (schemes s) Eq g.by.0 (shown s (node_of held).0 (state_of held)))
      (list_all (λ (p : AttrId × Agg). may_fold (schemes s) (shown s (node_of held).0 (state_of held)) p.0 p.1) g.aggs) runs_on).1)

  sums_all : All (λ (p : AttrId × Agg). IsSummable s.policy.schema p.0 p.1) g.aggs
  sums_all = subst (IsTypedOp s.policy.schema) g.is (typed.typed n.0 run.from.node)

  before : IsBeforeGroup s (node_of held).0
  before = record { group = n.0; before = at.below; below = run.from.node; is_group = ap groups g.is }

  -- a function runs over a column
  foldable : (a : ℕ) (func : Agg) (c : Shown) → a < 64 → column_of held a ≡ Some c
      → may_fold (schemes s) (shown s (node_of held).0 (state_of held)) (record { 0 = a }) func ≡ true
      → IsSummable s.policy.schema (record { 0 = a }) func → IsFoldable func c
  foldable a Sum c small column folds summable =
      let is : IsShownAt s (node_of held).0 (state_of held).view a c =
      subst (IsColumnAt s (node_of held).0 (state_of held).view a) column (of_job.column a small) in
      let plain : has (state_of held).view.enc.0 a ≡ false =
      unsealed (has (known_at s (node_of held).0).visible.0 a) (has (state_of held).view.enc.0 a)
      (sym (has-without (known_at s (node_of held).0).visible.0 (state_of held).view.enc.0 a) ∙ folds) in
      let scheme : c.scheme ≡ None = scheme_none s (state_of held).view a c.scheme plain is.sealed in
      let ty : Some c.ty ≡ Some type.Int = sym is.typed ∙ summable in
      let int : c.ty ≡ type.Int = cc in
      let it : IsColumnOpened s keys (node_of held).0 a c =
      subst (λ o. IfSome o (IsColumnOpened s keys (node_of held).0 a)) column (opened a small) in
      record {
        plain = scheme;
        typed = int;
        small = summed_column (listed_key keys a) c.scheme c.ty c.cells it.values scheme int it.opens (it.small before);
      }
  foldable a Min c small column folds summable =
      comparable_order s (node_of held).0 (state_of held) a c
      (subst (IsColumnAt s (node_of held).0 (state_of held).view a) column (of_job.column a small)) folds
  foldable a Max c small column folds summable =
      comparable_order s (node_of held).0 (state_of held) a c
      (subst (IsColumnAt s (node_of held).0 (state_of held).view a) column (of_job.column a small)) folds

  -- the table has what the group asks of it
  pub group_fits : (o : PlanOp) → o ≡ op_at s n.0 → IsGroupFit o held.table
  group_fits o same = subst (λ p. IsGroupFit p held.table) (sym (same ∙ g.is)) (record {
    has_each = record {
      there = λ a small inside.
          there_at s (node_of held).0 (state_of held).view a (column_of held a) (stands_on.0.grouped.member a inside) (of_job.column a small);
    };
    folds = record {
      runs = λ a func c under column.
          foldable a func c
          (under_all (λ (p : AttrId × Agg). IsVisible (known_at s (node_of held).0) p.0) g.aggs a func stands_on.0.under under).small column
          (under_all (λ (p : AttrId × Agg). may_fold (schemes s) (shown s (node_of held).0 (state_of held)) p.0 p.1 ≡ true) g.aggs a func folds_all under)
          (under_all (λ (p : AttrId × Agg). IsSummable s.policy.schema p.0 p.1) g.aggs a func sums_all under);
    };
  })

  module _ (new : State) (after : state_after s (node_of held) (step.Un n) (state_of held) ≡ Some new) (stands : IsStateAt s n.0 new)
      (o : PlanOp) (same : o ≡ op_at s n.0) (table : Table) (found : IsGroupMade o held.table table) where
    made : IsGroupFrom g.by.0 g.aggs g.count held.table table
    made = subst (λ p. IsGroupMade p held.table table) (same ∙ g.is) found

    kept_is : (a : ℕ) → has (group_set g.by g.aggs) a ≡ kept_in g.by.0 g.aggs a
    kept_is a = has-with_members g.by.0 (aggregated g.aggs) a ∙ ap (λ b. has g.by.0 a || b) (function_named g.aggs a)

    facts_are : known_at s n.0 ≡ one_facts (op.Group g.by g.aggs g.count) (known_at s (node_of held).0)
    facts_are = at.are ∙ ap (λ p. one_facts p (known_at s (node_of held).0)) g.is

    visible_is : (a : ℕ) → has (known_at s n.0).visible.0 a ≡ (has (known_at s (node_of held).0).visible.0 a && kept_in g.by.0 g.aggs a)
    visible_is a =
        ap (λ (k : NodeFacts). has k.visible.0 a) facts_are
        ∙ has-bit_and (known_at s (node_of held).0).visible.0 (group_set g.by g.aggs) a
        ∙ ap (λ b. has (known_at s (node_of held).0).visible.0 a && b) (kept_is a)

    sealed_is : (a : ℕ) → has new.view.enc.0 a ≡ (has (state_of held).view.enc.0 a && kept_in g.by.0 g.aggs a)
    sealed_is a =
        ap (λ (v : View). has v.enc.0 a)
        (view_after_one s n (node_of held) (state_of held) new run.from after
        ∙ ap (λ p. view_of (after_one p (shown s (node_of held).0 (state_of held)))) g.is)
        ∙ has-bit_and (state_of held).view.enc.0 (group_set g.by g.aggs) a
        ∙ ap (λ b. has (state_of held).view.enc.0 a && b) (kept_is a)

    columns_of_group : (a : ℕ) → a < 64 → IsColumnAt s n.0 new.view a (column_in table a)
    columns_of_group a small =
        place_of_node s (node_of held).0 n.0 (state_of held).view new.view g.by.0 g.aggs made.columns.groups a (visible_is a) (sealed_is a)
        (column_of held a) (column_in table a) (of_job.column a small) (made.columns.place a)

    -- the columns that its view says are sealed are
    pub sealed_of_group : (a : ℕ) → a < 64 → is_sealed (column_in table a) ≡ has new.view.enc.0 a
    sealed_of_group = sealed_as_viewed s n.0 new.view (shown_columns table.columns) stands.view columns_of_group

    -- it is of the job
    pub group_of_job : (sealed : (a : ℕ) → a < 64 → is_sealed (column_in table a) ≡ has new.view.enc.0 a)
        → IsOfJob s (record { node = n; state = new; table = table; sealed = sealed })
    group_of_job sealed = record {
      node = run.from.node;
      state = stands;
      column = columns_of_group;
      counted = made.counts ∙ sym (ap (λ (k : NodeFacts). k.count) facts_are);
    }

    last : IsBeforeGroup s n.0 → ⊥
    last is =
        let same : n.0 ≡ is.group = typed.one_group n.0 is.group run.from.node is.below (ap groups g.is) is.is_group in
        let less = is.before in
        not_below n.0 is.group same less
      where
        not_below : (x y : ℕ) → x ≡ y → x < y → ⊥
        not_below x y equal less = omega (arith, equal, less)

    -- and it opens where the table does
    pub group_opened : (a : ℕ) → a < 64 → IfSome (column_in table a) (IsColumnOpened s keys n.0 a)
    group_opened a small =
        place_opened s keys (node_of held).0 n.0 g.by.0 g.aggs made.columns.groups a (before_group s (node_of held).0 n.0 at.below) last
        (column_of held a) (column_in table a) (opened a small) (made.columns.place a)

-- Laws of selections and projections of tables that are held: what they leave is of the job at their node, and opens as before.
use Rattle.std.proofs.Common.{◌≡◌, refl, sym, ◌∙◌, ap, subst, ℕ, ◌<◌, Bool, true, false, ◌&&◌, List, Option, Some, None, option_map, arith}
use Rattle.std.specs.Prelude.{IfSome, is_some, if◌then◌else◌}
use Rattle.base_laws.specs.Sets.{has}
use Rattle.base_laws.proofs.SetLaws.{has-bit_and}
use Rattle.extended_plan.specs.declared.state.State.{State}
use Rattle.extended_plan.specs.Ready.{IsReady}
use Rattle.extended_plan.specs.Setting.{Setting, known_at, op_at}
use Rattle.extended_plan.specs.Gains.{shown}
use Rattle.key_clusters.specs.Keys.{scheme_at}
use Rattle.mq_base.specs.declared.attr_set.AttrSet.{AttrSet}
use Rattle.mq_base.specs.declared.ids.NodeId.{NodeId}
use Rattle.mq_base.specs.declared.plan.PlanOp.{PlanOp}
use Rattle.mq_base.specs.declared.plan.PlanOp.TheVariants as op
use Rattle.mq_base.specs.declared.plan.Step.TheVariants as step
use Rattle.plan_algebra.specs.declared.facts.NodeFacts.{NodeFacts}
use Rattle.plan_algebra.specs.Facts.{IsOneOn, one_facts}
use Rattle.column_table.specs.Columns.{Shown, column_at, columns_at}
use Rattle.provider_engine.specs.OfJob.{IsBeforeGroup, IsColumnAt, IsColumnOpened}
use Rattle.provider_engine.specs.Steps.{IsOnOne, state_after}
use Rattle.provider_engine.specs.inside.Choosing.{IsSelection}
use Rattle.provider_engine.proofs.HeldLaws.{columns_at_rows, one_at, view_after_one}
use Rattle.relation_profile.specs.declared.view.View.{View}
use Rattle.relation_profile.specs.Profile.{Profile}
use Rattle.relation_profile.specs.Steps.{after_one}
use Rattle.relation_profile.specs.View.{view_of}
use Rattle.sealed_column.specs.Cells.{picked}
use Rattle.mq_base.specs.declared.value.ValueType.{ValueType}
use Rattle.mq_base.specs.declared.value.ValueType.TheVariants as type
use Rattle.mq_base.specs.declared.value.Value.{Value}
use Rattle.mq_base.specs.declared.value.Value.TheVariants.{Int, Text}
use Rattle.mq_base.specs.Value.{IsCell, type_of}
use Rattle.mq_base.specs.declared.schema.Schema.{Schema}
use Rattle.sealed_column.specs.Seal.{IsValueOf}
use Rattle.std.proofs.lemmas.Bool.Decides.{nat_tests}
use Rattle.mq_base.specs.declared.ids.AttrId.{AttrId}
use Rattle.mq_base.specs.declared.query.Agg.{Agg}
use Rattle.provider_engine.specs.Typed.{IsTypedOp}

-- a selection leaves the attributes, the counts and what is sealed
selection_visible : (o : PlanOp) (f : NodeFacts) → IsSelection o → (one_facts o f).visible ≡ f.visible
selection_visible (op.SelConst a cmp x) f is = refl
selection_visible (op.SelCount cmp n) f is = refl
selection_visible (op.SelAttr a cmp b) f is = refl
selection_visible (op.Base t used) f is = absurd is
selection_visible (op.Project kept) f is = absurd is
selection_visible op.Product f is = absurd is
selection_visible (op.Join a cmp b) f is = absurd is
selection_visible (op.Group by aggs count) f is = absurd is

selection_count : (o : PlanOp) (f : NodeFacts) → IsSelection o → (one_facts o f).count ≡ f.count
selection_count (op.SelConst a cmp x) f is = refl
selection_count (op.SelCount cmp n) f is = refl
selection_count (op.SelAttr a cmp b) f is = refl
selection_count (op.Base t used) f is = absurd is
selection_count (op.Project kept) f is = absurd is
selection_count op.Product f is = absurd is
selection_count (op.Join a cmp b) f is = absurd is
selection_count (op.Group by aggs count) f is = absurd is

selection_sealed : (o : PlanOp) (p : Profile) → IsSelection o → (view_of (after_one o p)).enc ≡ (view_of p).enc
selection_sealed (op.SelConst a cmp x) p is = refl
selection_sealed (op.SelCount cmp n) p is = refl
selection_sealed (op.SelAttr a cmp b) p is = refl
selection_sealed (op.Base t used) p is = absurd is
selection_sealed (op.Project kept) p is = absurd is
selection_sealed op.Product p is = absurd is
selection_sealed (op.Join a cmp b) p is = absurd is
selection_sealed (op.Group by aggs count) p is = absurd is

-- the columns of a selection are of the job
pub selection_columns : (s : Setting) (n from : NodeId) (old new : State) (rows : List ℕ) (columns taken : List (Option Shown)) → IsReady s
    → IsOnOne s n from → state_after s from (step.Un n) old ≡ Some new → IsSelection (op_at s n.0) → taken ≡ columns_at rows columns
    → ((a : ℕ) → a < 64 → IsColumnAt s from.0 old.view a (column_at columns a))
    → (a : ℕ) → a < 64 → IsColumnAt s n.0 new.view a (column_at taken a)
selection_columns s n from old new rows columns taken ready on leads is taken_is are =
    columns_at_rows s from.0 n.0 old.view new.view rows columns taken
    (ap (λ (f : NodeFacts). f.visible) (one_at s n from ready on).are ∙ selection_visible (op_at s n.0) (known_at s from.0) is)
    (ap (λ (v : View). v.enc) (view_after_one s n from old new on leads) ∙ selection_sealed (op_at s n.0) (shown s from.0 old) is)
    taken_is are

-- counts stay where they are told
pub selection_counted : (s : Setting) (n from : NodeId) (counts taken : Option (List ℕ)) → IsReady s → IsOnOne s n from
    → IsSelection (op_at s n.0) → is_some taken ≡ is_some counts → is_some counts ≡ (known_at s from.0).count
    → is_some taken ≡ (known_at s n.0).count
selection_counted s n from counts taken ready on is same told =
    same ∙ told ∙ sym (ap (λ (f : NodeFacts). f.count) (one_at s n from ready on).are ∙ selection_count (op_at s n.0) (known_at s from.0) is)

pub taken_told : (counts taken : Option (List ℕ)) (rows : List ℕ) → taken ≡ option_map (λ c. picked c rows) counts
    → is_some taken ≡ is_some counts
taken_told counts taken rows is = ap is_some is ∙ by_counts counts
  where
    by_counts : (o : Option (List ℕ)) → is_some (option_map (λ c. picked c rows) o) ≡ is_some o
    by_counts None = refl
    by_counts (Some c) = refl

-- a column that is kept is of the job, and one that is not is missing
kept_column : (s : Setting) (from n : ℕ) (old new : View) (kept a : ℕ) (b : Bool) (c : Option Shown) → has kept a ≡ b
    → has (known_at s n).visible.0 a ≡ (has (known_at s from).visible.0 a && has kept a) → has new.enc.0 a ≡ (has old.enc.0 a && has kept a)
    → IsColumnAt s from old a c → IsColumnAt s n new a (if b then c else None)
kept_column s from n old new kept a true None is visible sealed hidden =
    visible ∙ ap (λ v. v && has kept a) hidden
kept_column s from n old new kept a true (Some c) is visible sealed of_job = record {
  visible = visible ∙ ap (λ v. v && has kept a) of_job.visible ∙ is;
  typed = of_job.typed;
  sealed = of_job.sealed ∙ ap (λ e. if e then Some (scheme_at s.basis.clusters a) else None) (sym (sealed ∙ by_both (has old.enc.0 a) (has kept a) is));
}
  where
    by_both : (e k : Bool) → k ≡ true → (e && k) ≡ e
    by_both true k is = is
    by_both false k is = refl
kept_column s from n old new kept a false c is visible sealed of_job = visible ∙ by_both (has (known_at s from).visible.0 a) (has kept a) is
  where
    by_both : (v k : Bool) → k ≡ false → (v && k) ≡ false
    by_both true k is = is
    by_both false k is = refl

-- the columns of a projection are of the job
pub projected_columns : (s : Setting) (n from : NodeId) (old new : State) (kept : AttrSet) (columns left : List (Option Shown)) → IsReady s
    → IsOnOne s n from → state_after s from (step.Un n) old ≡ Some new → op_at s n.0 ≡ op.Project kept
    → ((a : ℕ) → column_at left a ≡ (if has kept.0 a then column_at columns a else None))
    → ((a : ℕ) → a < 64 → IsColumnAt s from.0 old.view a (column_at columns a))
    → (a : ℕ) → a < 64 → IsColumnAt s n.0 new.view a (column_at left a)
projected_columns s n from old new kept columns left ready on leads is left_is are a below =
    subst (IsColumnAt s n.0 new.view a) (sym (left_is a))
    (kept_column s from.0 n.0 old.view new.view kept.0 a (has kept.0 a) (column_at columns a) refl
    (ap (λ (f : NodeFacts). has f.visible.0 a) ((one_at s n from ready on).are ∙ ap (λ o. one_facts o (known_at s from.0)) is)
    ∙ has-bit_and (known_at s from.0).visible.0 kept.0 a)
    (ap (λ (v : View). has v.enc.0 a) (view_after_one s n from old new on leads ∙ ap (λ o. view_of (after_one o (shown s from.0 old))) is)
    ∙ has-bit_and old.view.enc.0 kept.0 a)
    (are a below))

pub projected_counted : (s : Setting) (n from : NodeId) (kept : AttrSet) (counts : Option (List ℕ)) → IsReady s → IsOnOne s n from
    → op_at s n.0 ≡ op.Project kept → is_some counts ≡ (known_at s from.0).count → is_some counts ≡ (known_at s n.0).count
projected_counted s n from kept counts ready on is told =
    told ∙ sym (ap (λ (f : NodeFacts). f.count) ((one_at s n from ready on).are ∙ ap (λ o. one_facts o (known_at s from.0)) is))

-- columns that are kept open as before
pub projected_opened : (s : Setting) (keys : List (List ℕ)) (from n kept : ℕ) (columns left : List (Option Shown))
    → (IsBeforeGroup s n → IsBeforeGroup s from) → ((a : ℕ) → column_at left a ≡ (if has kept a then column_at columns a else None))
    → ((a : ℕ) → a < 64 → IfSome (column_at columns a) (IsColumnOpened s keys from a))
    → (a : ℕ) → a < 64 → IfSome (column_at left a) (IsColumnOpened s keys n a)
projected_opened s keys from n kept columns left before left_is opened a below =
    subst (λ o. IfSome o (IsColumnOpened s keys n a)) (sym (left_is a)) (by_column (has kept a) (column_at columns a) (opened a below))
  where
    by_column : (b : Bool) (c : Option Shown) → IfSome c (IsColumnOpened s keys from a)
        → IfSome (if b then c else None) (IsColumnOpened s keys n a)
    by_column false c holds = tt
    by_column true None holds = tt
    by_column true (Some c) holds = record { values = holds.values; opens = holds.opens; small = λ stands. holds.small (before stands) }

-- a value that a cell may hold can be sealed
value_of_cell : (ty : ValueType) (x : Value) → IsCell ty x → IsValueOf (type_of x) x
value_of_cell ty (Int x) cell = refl
value_of_cell type.Int (Text t) cell = absurd cell
value_of_cell type.Text (Text t) cell = grind (arith, nat_tests, cell)

-- an operation on one table that neither projects nor groups is a selection on its attributes
pub is_selection : (schema : Schema) (o : PlanOp) (f : NodeFacts) → IsOneOn o f → IsTypedOp schema o
    → ((kept : AttrSet) → o ≡ op.Project kept → ⊥) → ((by : AttrSet) (aggs : List (AttrId × Agg)) (count : Bool) → o ≡ op.Group by aggs count → ⊥)
    → IsSelection o
is_selection schema (op.SelConst a cmp x) f on typed no_project no_group = (on.small, value_of_cell typed.held.ty x typed.held.cell)
is_selection schema (op.SelCount cmp n) f on typed no_project no_group = tt
is_selection schema (op.SelAttr a cmp b) f on typed no_project no_group = (on.0.small, on.1.small)
is_selection schema (op.Project kept) f on typed no_project no_group = absurd (no_project kept refl)
is_selection schema (op.Group by aggs count) f on typed no_project no_group = absurd (no_group by aggs count refl)
is_selection schema (op.Base t used) f on typed no_project no_group = absurd on
is_selection schema op.Product f on typed no_project no_group = absurd on
is_selection schema (op.Join a cmp b) f on typed no_project no_group = absurd on

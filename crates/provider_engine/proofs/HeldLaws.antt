-- Laws of tables that are held: that they are of their job and open under its keys, also at other rows or with fewer columns.
use denote.Struct.Record.{values_one}
use Rattle.column_table.specs.contracts.table.Table as table
use Rattle.column_table.specs.declared.table.Table.{Table}
use Rattle.provider_engine.specs.contracts.held.Held as held
use Rattle.provider_engine.specs.declared.held.Held.{Held}
use Rattle.std.proofs.Common.{◌≡◌, refl, sym, ◌∙◌, ap, subst, ℕ, ◌<◌, Bool, true, false, List, Option, Some, None, option_map, arith}
use Rattle.std.specs.Prelude.{IfSome, IsSome, if◌then◌else◌}
use Rattle.base_laws.specs.Sets.{has}
use Rattle.extended_plan.specs.declared.state.State.{State}
use Rattle.extended_plan.specs.Ready.{IsReady}
use Rattle.extended_plan.specs.Setting.{Setting, known_at, op_at, schemes}
use Rattle.extended_plan.specs.Gains.{one_profile, shown}
use Rattle.key_clusters.specs.Keys.{scheme_at}
use Rattle.mq_base.specs.declared.ids.NodeId.{NodeId}
use Rattle.mq_base.specs.declared.plan.Step.TheVariants as step
use Rattle.mq_base.specs.Value.{IsCell}
use Rattle.plan_algebra.specs.Facts.{IsNodeAt, IsOneAt}
use Rattle.column_table.specs.Columns.{Shown, at_rows, column_at, columns_at, is_sealed}
use Rattle.provider_engine.specs.OfJob.{IsBeforeGroup, IsColumnAt, IsColumnOpened, StandsFor}
use Rattle.provider_engine.specs.Opening.{listed_key}
use Rattle.provider_engine.specs.Steps.{IsOnOne, at_holder, state_after}
use Rattle.column_table.proofs.ColumnLaws.{column_at-map}
use Rattle.relation_profile.specs.declared.view.View.{View}
use Rattle.relation_profile.specs.Runnable.{runs_one}
use Rattle.relation_profile.specs.Steps.{after_one}
use Rattle.relation_profile.specs.View.{IsView, view_of}
use Rattle.sealed_column.specs.Cells.{OpensAt, picked}
use Rattle.sealed_column.proofs.CellLaws.{picked_all, picked_together}

-- the columns that the view says are sealed are, and no others
pub sealed_as_viewed : (s : Setting) (n : ℕ) (view : View) (columns : List (Option Shown)) → IsView (known_at s n) view
    → ((a : ℕ) → a < 64 → IsColumnAt s n view a (column_at columns a)) → (a : ℕ) → a < 64
    → is_sealed (column_at columns a) ≡ has view.enc.0 a
sealed_as_viewed s n view columns within are a below = by_column (column_at columns a) (are a below)
  where
    missing : (b : Bool) → has view.enc.0 a ≡ b → has (known_at s n).visible.0 a ≡ false → false ≡ b
    missing false is hidden = refl
    missing true is hidden = absurd (cc_false (sym (within.visible.member a is) ∙ hidden))
      where
        cc_false : true ≡ false → ⊥
        cc_false e = cc

    by_scheme : (b : Bool) (c : Shown) → c.scheme ≡ (if b then Some (scheme_at s.basis.clusters a) else None) → is_sealed (Some c) ≡ b
    by_scheme true c is = ap (λ o. is_sealed (Some (record { scheme = o; ty = c.ty; cells = c.cells }))) is
    by_scheme false c is = ap (λ o. is_sealed (Some (record { scheme = o; ty = c.ty; cells = c.cells }))) is

    by_column : (c : Option Shown) → IsColumnAt s n view a c → is_sealed c ≡ has view.enc.0 a
    by_column None hidden = missing (has view.enc.0 a) refl hidden
    by_column (Some c) is = by_scheme (has view.enc.0 a) c is.sealed

-- a column of a node at listed rows is one of a node with the same attributes, in a view with the same ones sealed
pub column_at_rows : (s : Setting) (from n : ℕ) (old new : View) (a : ℕ) (rows : List ℕ) (c : Option Shown)
    → has (known_at s n).visible.0 a ≡ has (known_at s from).visible.0 a → has new.enc.0 a ≡ has old.enc.0 a
    → IsColumnAt s from old a c → IsColumnAt s n new a (option_map (at_rows rows) c)
column_at_rows s from n old new a rows None same enc is = same ∙ is
column_at_rows s from n old new a rows (Some c) same enc is = record {
  visible = same ∙ is.visible;
  typed = is.typed;
  sealed = is.sealed ∙ ap (λ b. if b then Some (scheme_at s.basis.clusters a) else None) (sym enc);
}

-- so are all
pub columns_at_rows : (s : Setting) (from n : ℕ) (old new : View) (rows : List ℕ) (columns taken : List (Option Shown))
    → (known_at s n).visible ≡ (known_at s from).visible → new.enc ≡ old.enc → taken ≡ columns_at rows columns
    → ((a : ℕ) → a < 64 → IsColumnAt s from old a (column_at columns a))
    → (a : ℕ) → a < 64 → IsColumnAt s n new a (column_at taken a)
columns_at_rows s from n old new rows columns taken same enc is are a below =
    subst (IsColumnAt s n new a) (sym (ap (λ cs. column_at cs a) is ∙ column_at-map (at_rows rows) columns a))
    (column_at_rows s from n old new a rows (column_at columns a) (ap (λ v. has v.0 a) same) (ap (λ v. has v.0 a) enc) (are a below))

-- a column that opens does at listed rows, at a node that stands before a group only where the first did
pub opened_at_rows : (s : Setting) (keys : List (List ℕ)) (from n a : ℕ) (rows : List ℕ) (c : Shown)
    → (IsBeforeGroup s n → IsBeforeGroup s from) → IsColumnOpened s keys from a c → IsColumnOpened s keys n a (at_rows rows c)
opened_at_rows s keys from n a rows c before is = record {
  values = picked is.values rows;
  opens = picked_together (OpensAt (StandsFor c.scheme (listed_key keys a)) c.ty) c.cells is.values rows is.opens;
  small = λ stands. picked_all (IsCell c.ty) is.values rows (is.small (before stands));
}

-- so do all
pub columns_opened_at_rows : (s : Setting) (keys : List (List ℕ)) (from n : ℕ) (rows : List ℕ) (columns taken : List (Option Shown))
    → (IsBeforeGroup s n → IsBeforeGroup s from) → taken ≡ columns_at rows columns
    → ((a : ℕ) → a < 64 → IfSome (column_at columns a) (IsColumnOpened s keys from a))
    → (a : ℕ) → a < 64 → IfSome (column_at taken a) (IsColumnOpened s keys n a)
columns_opened_at_rows s keys from n rows columns taken before is opened a below =
    subst (λ o. IfSome o (IsColumnOpened s keys n a)) (sym (ap (λ cs. column_at cs a) is ∙ column_at-map (at_rows rows) columns a))
    (by_column (column_at columns a) (opened a below))
  where
    by_column : (c : Option Shown) → IfSome c (IsColumnOpened s keys from a)
        → IfSome (option_map (at_rows rows) c) (IsColumnOpened s keys n a)
    by_column None holds = tt
    by_column (Some c) holds = opened_at_rows s keys from n a rows c before holds

-- what a node with one operand has of it: it stands after the operand, with its operation's facts
pub one_at : (s : Setting) (n from : NodeId) → IsReady s → IsOnOne s n from → IsOneAt (known_at s) n.0 (op_at s n.0) from.0
one_at s n from ready on = subst (IsNodeAt (known_at s) n.0 (op_at s n.0)) on.stands (ready.facts.node n.0 on.node)

-- a node stands before a group only where those before it do
pub before_group : (s : Setting) (from n : ℕ) → from < n → IsBeforeGroup s n → IsBeforeGroup s from
before_group s from n below is =
    let before = is.before in
    record { group = is.group; before = omega (arith, below, before); below = is.below; is_group = is.is_group }

-- the view after the operation of a node on one table
pub view_after_one : (s : Setting) (n from : NodeId) (old new : State) → IsOnOne s n from
    → state_after s from (step.Un n) old ≡ Some new → new.view ≡ view_of (after_one (op_at s n.0) (shown s from.0 old))
view_after_one s n from old new on is =
    by_test (runs_one (schemes s) (op_at s n.0) (shown s from.0 old))
    (sym (ap (λ k. at_holder old.holder (one_profile s (op_at s n.0) k old)) on.stands) ∙ is)
  where
    by_test : (b : Bool)
        → at_holder old.holder (if b then Some (after_one (op_at s n.0) (shown s from.0 old)) else None) ≡ Some new
        → new.view ≡ view_of (after_one (op_at s n.0) (shown s from.0 old))
    by_test true is = sym (ap view_in is)
      where
        view_in : Option State → View
        view_in None = new.view
        view_in (Some st) = st.view
    by_test false is = cc

-- an operation on one table after which there is a state is runnable
pub runs_after_one : (s : Setting) (n from : NodeId) (old : State) → IsOnOne s n from → IsSome (state_after s from (step.Un n) old)
    → runs_one (schemes s) (op_at s n.0) (shown s from.0 old) ≡ true
runs_after_one s n from old on is =
    by_test (runs_one (schemes s) (op_at s n.0) (shown s from.0 old)) refl
    (subst (λ k. IsSome (at_holder old.holder (one_profile s (op_at s n.0) k old))) on.stands is)
  where
    by_test : (b : Bool) → runs_one (schemes s) (op_at s n.0) (shown s from.0 old) ≡ b
        → IsSome (at_holder old.holder (if b then Some (after_one (op_at s n.0) (shown s from.0 old)) else None))
        → runs_one (schemes s) (op_at s n.0) (shown s from.0 old) ≡ true
    by_test true runs is = runs
    by_test false runs is = cc

-- tables of the same rows, columns and counts are the same, and what holds them for the same node and state
pub same_table : (x y : Table) → x.rows ≡ y.rows → x.columns ≡ y.columns → x.counts ≡ y.counts → x ≡ y
same_table x y rows columns counts =
    let same : table.struct.as_values x ≡ table.struct.as_values y = cc in
    values_one table.struct table.the_type.propositions x y same

pub same_held : (x y : Held) → x.node ≡ y.node → x.state ≡ y.state → x.table ≡ y.table → x ≡ y
same_held x y node state tables =
    let same : held.struct.as_values x ≡ held.struct.as_values y = cc in
    values_one held.struct held.the_type.propositions x y same

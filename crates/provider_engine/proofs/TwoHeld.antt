-- Tables that are held, beside each other: the result is of its job and opens under its keys.
use Rattle.std.proofs.Common.{◌≡◌, refl, sym, ◌∙◌, ap, subst, ℕ, ◌<◌, Bool, true, false, ◌||◌, List, Option, Some, None, option_map, arith}
use Rattle.std.specs.Prelude.{IfSome, IsSome, ◌&&◌, bit_and, bit_or, is_some, if◌then◌else◌}
use Rattle.std.specs.Option.{option_or}
use Rattle.base_laws.specs.Sets.{has}
use Rattle.base_laws.proofs.SetLaws.{has-bit_and, has-bit_or, has-empty}
use Rattle.extended_plan.specs.declared.state.State.{State}
use Rattle.extended_plan.specs.Gains.{shown, two_profile}
use Rattle.extended_plan.specs.Job.{IsStateAt}
use Rattle.extended_plan.specs.Ready.{IsReady}
use Rattle.extended_plan.specs.Setting.{Setting, kind_at, known_at, op_at, schemes}
use Rattle.key_clusters.specs.Keys.{scheme_at}
use Rattle.mq_base.specs.declared.ids.NodeId.{NodeId}
use Rattle.mq_base.specs.declared.plan.PlanOp.{PlanOp}
use Rattle.mq_base.specs.declared.plan.PlanOp.TheVariants as op
use Rattle.plan_algebra.specs.declared.facts.NodeFacts.{NodeFacts}
use Rattle.plan_algebra.specs.declared.kind.Kind.TheVariants as kind
use Rattle.plan_algebra.specs.Facts.{AreApart, IsNodeAt, IsTwoAt, IsTwoOn, two_facts}
use Rattle.provider_engine.specs.declared.held.Held.{Held}
use Rattle.column_table.specs.declared.table.Table.{Table}
use Rattle.column_table.specs.Columns.{Shown, at_rows, is_sealed, shown_columns}
use Rattle.provider_engine.specs.Held.{column_of, node_of, state_of}
use Rattle.provider_engine.specs.OfJob.{IsBeforeGroup, IsColumnAt, IsColumnOpened, IsOfJob, IsOpenedBy}
use Rattle.provider_engine.specs.Steps.{IsRunnableOnTwo, at_holder, state_after_two}
use Rattle.column_table.specs.Beside.{IsBeside}
use Rattle.provider_engine.specs.inside.Operations.{IsOnTables}
use Rattle.column_table.specs.Tables.{column_in}
use Rattle.provider_engine.proofs.HeldLaws.{before_group, opened_at_rows, sealed_as_viewed}
use Rattle.relation_profile.specs.declared.view.View.{View}
use Rattle.relation_profile.specs.Profile.{Profile}
use Rattle.relation_profile.specs.Runnable.{runs_two}
use Rattle.relation_profile.specs.Steps.{after_two}

-- ---- bits

or_false : (b : Bool) → (b || false) ≡ b
or_false true = refl
or_false false = refl

not_within : (e v : Bool) → (e ≡ true → v ≡ true) → v ≡ false → e ≡ false
not_within true v leads absent = let present : v ≡ true = leads refl in cc
not_within false v leads absent = refl

not_both : (b d : Bool) → (b && d) ≡ false → b ≡ true → d ≡ false
not_both true d none is = none
not_both false d none is = cc

not_both_back : (b d : Bool) → (b && d) ≡ false → d ≡ true → b ≡ false
not_both_back true d none is = cc
not_both_back false d none is = refl

apart_at : (f g a : ℕ) → bit_and f g ≡ 0 → (has f a && has g a) ≡ false
apart_at f g a none = sym (has-bit_and f g a) ∙ ap (λ s. has s a) none ∙ has-empty a

-- ---- the node

visible_two : (o : PlanOp) (f g : NodeFacts) → (two_facts o f g).visible.0 ≡ bit_or f.visible.0 g.visible.0
visible_two (op.Join a cmp b) f g = refl
visible_two _ f g = refl

count_two : (o : PlanOp) (f g : NodeFacts) → (two_facts o f g).count ≡ (f.count || g.count)
count_two (op.Join a cmp b) f g = refl
count_two _ f g = refl

apart_two : (o : PlanOp) (f g : NodeFacts) → IsTwoOn o f g → AreApart f g
apart_two op.Product f g on = on
apart_two (op.Join a cmp b) f g on = on.0
apart_two _ f g on = absurd on

sealed_two : (o : PlanOp) (p q : Profile) → (after_two o p q).visible_encrypted ≡ bit_or p.visible_encrypted q.visible_encrypted
sealed_two (op.Join a cmp b) p q = refl
sealed_two _ p q = refl

-- what is sealed after the operation of a node on two tables
view_after_two : (s : Setting) (n x y : NodeId) (left right new : State) → kind_at s n.0 ≡ kind.Two x y
    → state_after_two s n left right ≡ Some new → new.view.enc.0 ≡ bit_or left.view.enc.0 right.view.enc.0
view_after_two s n x y left right new stands is =
    by_test (runs_two (schemes s) (op_at s n.0) (shown s x.0 left) (shown s y.0 right))
    (sym (ap (λ k. at_holder left.holder (two_profile s (op_at s n.0) k left right)) stands) ∙ is)
  where
    sealed_in : Option State → ℕ
    sealed_in None = new.view.enc.0
    sealed_in (Some st) = st.view.enc.0

    by_test : (b : Bool)
        → at_holder left.holder (if b then Some (after_two (op_at s n.0) (shown s x.0 left) (shown s y.0 right)) else None) ≡ Some new
        → new.view.enc.0 ≡ bit_or left.view.enc.0 right.view.enc.0
    by_test true is = sym (ap sealed_in is) ∙ sealed_two (op_at s n.0) (shown s x.0 left) (shown s y.0 right)
    by_test false is = cc

-- ---- columns

-- the column of an attribute of two nodes that have none in common
column_two : (s : Setting) (n l r : ℕ) (new left right : View) (a : ℕ) (rows others : List ℕ) (x y : Option Shown)
    → has (known_at s n).visible.0 a ≡ (has (known_at s l).visible.0 a || has (known_at s r).visible.0 a)
    → has new.enc.0 a ≡ (has left.enc.0 a || has right.enc.0 a)
    → (has (known_at s l).visible.0 a ≡ true → has (known_at s r).visible.0 a ≡ false)
    → (has left.enc.0 a ≡ true → has (known_at s l).visible.0 a ≡ true) → (has right.enc.0 a ≡ true → has (known_at s r).visible.0 a ≡ true)
    → IsColumnAt s l left a x → IsColumnAt s r right a y
    → IsColumnAt s n new a (option_or (option_map (at_rows rows) x) (option_map (at_rows others) y))
column_two s n l r new left right a rows others None None visible sealed apart on_left on_right absent missing = visible ∙ (λ i. absent i || missing i)
column_two s n l r new left right a rows others None (Some d) visible sealed apart on_left on_right absent is =
    let unsealed : has left.enc.0 a ≡ false = not_within (has left.enc.0 a) (has (known_at s l).visible.0 a) on_left absent in
    let enc : has new.enc.0 a ≡ has right.enc.0 a = sealed ∙ ap (λ b. b || has right.enc.0 a) unsealed in
    record {
      visible = visible ∙ (λ i. absent i || is.visible i);
      typed = is.typed;
      sealed = is.sealed ∙ ap (λ b. if b then Some (scheme_at s.basis.clusters a) else None) (sym enc);
    }
column_two s n l r new left right a rows others (Some c) y visible sealed apart on_left on_right is there =
    let unsealed : has right.enc.0 a ≡ false =
    not_within (has right.enc.0 a) (has (known_at s r).visible.0 a) on_right (apart is.visible) in
    let enc : has new.enc.0 a ≡ has left.enc.0 a = sealed ∙ ap (λ b. has left.enc.0 a || b) unsealed ∙ or_false (has left.enc.0 a) in
    record {
      visible = visible ∙ ap (λ b. b || has (known_at s r).visible.0 a) is.visible;
      typed = is.typed;
      sealed = is.sealed ∙ ap (λ b. if b then Some (scheme_at s.basis.clusters a) else None) (sym enc);
    }

opened_two : (s : Setting) (keys : List (List ℕ)) (n l r a : ℕ) (rows others : List ℕ) (x y : Option Shown)
    → (IsBeforeGroup s n → IsBeforeGroup s l) → (IsBeforeGroup s n → IsBeforeGroup s r)
    → IfSome x (IsColumnOpened s keys l a) → IfSome y (IsColumnOpened s keys r a)
    → IfSome (option_or (option_map (at_rows rows) x) (option_map (at_rows others) y)) (IsColumnOpened s keys n a)
opened_two s keys n l r a rows others None None before too first second = tt
opened_two s keys n l r a rows others None (Some d) before too first second = opened_at_rows s keys r n a others d too second
opened_two s keys n l r a rows others (Some c) y before too first second = opened_at_rows s keys l n a rows c before first

some_either : {X : Type 0} (x y : Option X) → is_some (option_or x y) ≡ (is_some x || is_some y)
some_either None y = refl
some_either (Some x) y = refl

-- ---- the table of a node on two tables

module _ (s : Setting) (n : NodeId) (left right : Held) (ready : IsReady s) (of_left : IsOfJob s left) (of_right : IsOfJob s right)
    (run : IsRunnableOnTwo s n left right) where
  two_at : IsTwoAt (known_at s) n.0 (op_at s n.0) (node_of left).0 (node_of right).0
  two_at = subst (IsNodeAt (known_at s) n.0 (op_at s n.0)) run.stands (ready.facts.node n.0 run.node)

  apart : bit_and (known_at s (node_of left).0).visible.0 (known_at s (node_of right).0).visible.0 ≡ 0
  apart = (apart_two (op_at s n.0) (known_at s (node_of left).0) (known_at s (node_of right).0) two_at.stands).apart

  -- the tables have what the operation asks of them
  pub tables_fit : (o : PlanOp) → o ≡ op_at s n.0 → IsOnTables o left.table right.table
  tables_fit o is =
      by_op o (subst (λ p. IsTwoOn p (known_at s (node_of left).0) (known_at s (node_of right).0)) (sym is) two_at.stands)
    where
      there : (m : ℕ) (view : View) (a : ℕ) (x : Option Shown) → has (known_at s m).visible.0 a ≡ true → IsColumnAt s m view a x → IsSome x
      there m view a None seen hidden = let h : true ≡ false = sym seen ∙ hidden in cc
      there m view a (Some c) seen is = refl

      gone : (m : ℕ) (view : View) (a : ℕ) (x : Option Shown) → has (known_at s m).visible.0 a ≡ false → IsColumnAt s m view a x → x ≡ None
      gone m view a None hidden is = refl
      gone m view a (Some c) hidden is = let h : true ≡ false = sym is.visible ∙ hidden in cc

      by_op : (p : PlanOp) → IsTwoOn p (known_at s (node_of left).0) (known_at s (node_of right).0) → IsOnTables p left.table right.table
      by_op op.Product on = tt
      by_op (op.Join a cmp b) on = record {
        on_left = on.1.small;
        on_right = on.2.small;
        joined = record {
          on_left = there (node_of left).0 (state_of left).view a.0 (column_of left a.0) on.1.visible (of_left.column a.0 on.1.small);
          on_right = there (node_of right).0 (state_of right).view b.0 (column_of right b.0) on.2.visible (of_right.column b.0 on.2.small);
          apart = gone (node_of left).0 (state_of left).view b.0 (column_of left b.0)
              (not_both_back (has (known_at s (node_of left).0).visible.0 b.0) (has (known_at s (node_of right).0).visible.0 b.0)
              (apart_at (known_at s (node_of left).0).visible.0 (known_at s (node_of right).0).visible.0 b.0 on.0.apart) on.2.visible)
              (of_left.column b.0 on.2.small);
        };
      }
      by_op _ on = absurd on

  module _ (new : State) (after : state_after_two s n (state_of left) (state_of right) ≡ Some new) (stands : IsStateAt s n.0 new)
      (table : Table) (beside : IsBeside left.table right.table table) where
    -- it has the columns of its node
    pub columns_of_two : (a : ℕ) → a < 64 → IsColumnAt s n.0 new.view a (column_in table a)
    columns_of_two a small =
        let f : ℕ = (known_at s (node_of left).0).visible.0 in
        let g : ℕ = (known_at s (node_of right).0).visible.0 in
        subst (IsColumnAt s n.0 new.view a) (sym (beside.columns a))
        (column_two s n.0 (node_of left).0 (node_of right).0 new.view (state_of left).view (state_of right).view a beside.left_rows
        beside.right_rows (column_of left a) (column_of right a)
        (ap (λ (k : NodeFacts). has k.visible.0 a) two_at.are
        ∙ ap (λ v. has v a) (visible_two (op_at s n.0) (known_at s (node_of left).0) (known_at s (node_of right).0)) ∙ has-bit_or f g a)
        (ap (λ v. has v a) (view_after_two s n (node_of left) (node_of right) (state_of left) (state_of right) new run.stands after)
        ∙ has-bit_or (state_of left).view.enc.0 (state_of right).view.enc.0 a)
        (not_both (has f a) (has g a) (apart_at f g a apart)) (of_left.state.view.visible.member a) (of_right.state.view.visible.member a)
        (of_left.column a small) (of_right.column a small))

    -- those that its view says are sealed are
    pub sealed_of_two : (a : ℕ) → a < 64 → is_sealed (column_in table a) ≡ has new.view.enc.0 a
    sealed_of_two = sealed_as_viewed s n.0 new.view (shown_columns table.columns) stands.view columns_of_two

    counted_two : is_some table.counts ≡ (known_at s n.0).count
    counted_two =
        beside.counts ∙ some_either left.table.counts right.table.counts ∙ (λ i. of_left.counted i || of_right.counted i)
        ∙ sym (count_two (op_at s n.0) (known_at s (node_of left).0) (known_at s (node_of right).0))
        ∙ ap (λ (k : NodeFacts). k.count) (sym two_at.are)

    -- it is of the job
    pub two_of_job : (sealed : (a : ℕ) → a < 64 → is_sealed (column_in table a) ≡ has new.view.enc.0 a)
        → IsOfJob s (record { node = n; state = new; table = table; sealed = sealed })
    two_of_job sealed = record { node = run.node; state = stands; column = columns_of_two; counted = counted_two }

    -- and it opens where both tables do
    pub two_opened : (keys : List (List ℕ)) → IsOpenedBy s keys left → IsOpenedBy s keys right → (a : ℕ) → a < 64
        → IfSome (column_in table a) (IsColumnOpened s keys n.0 a)
    two_opened keys first second a small =
        let lower = two_at.left_below in
        let below = two_at.right_below in
        subst (λ o. IfSome o (IsColumnOpened s keys n.0 a)) (sym (beside.columns a))
        (opened_two s keys n.0 (node_of left).0 (node_of right).0 a beside.left_rows beside.right_rows (column_of left a) (column_of right a)
        (before_group s (node_of left).0 n.0 (omega (arith, lower, below))) (before_group s (node_of right).0 n.0 below)
        (first a small) (second a small))

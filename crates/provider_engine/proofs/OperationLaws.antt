-- Each operation of a plan leads from cells that tell the values of rows to cells that tell the values of the rows after it.
use Rattle.std.proofs.Common.{◌≡◌, ℕ, suc, ◌-◌, ◌^◌, ◌≤◌, ◌==◌, Bool, true, false, ◌||◌, cond, List, [], ◌∷◌, length, Some, option_map, refl, sym, ◌∙◌, ap, subst, arith}
use Rattle.std.proofs.lemmas.Bool.{eqb-true}
use Rattle.std.specs.List.{All, AllByRecursion, find, list_all}
use Rattle.base_laws.proofs.BoolLaws.{both, together}
use Rattle.base_laws.proofs.FilterLaws.{each_from_list_all, each_unmap}
use Rattle.base_laws.proofs.SetLaws.{has-bit_and, has-bit_or, with_members-keeps, with_members-each}
use Rattle.base_laws.specs.Sets.{has}
use Rattle.key_clusters.specs.Laws.{IfPair}
use Rattle.mq_base.specs.declared.attr_set.AttrSet.{AttrSet}
use Rattle.mq_base.specs.declared.ids.AttrId.{AttrId}
use Rattle.mq_base.specs.declared.plan.PlanOp.{PlanOp}
use Rattle.mq_base.specs.declared.plan.PlanOp.TheVariants as op
use Rattle.mq_base.specs.declared.query.Agg.{Agg}
use Rattle.mq_base.specs.declared.query.Agg.TheVariants.{Sum, Min, Max}
use Rattle.mq_base.specs.declared.query.CmpOp.TheVariants.{Eq}
use Rattle.mq_base.specs.declared.value.Value.{Value}
use Rattle.mq_base.specs.BoundQuery.{IsSummable}
use Rattle.mq_base.specs.Nodes.{aggregated}
use Rattle.mq_base.specs.Value.{type_of}
use Rattle.plan_algebra.specs.Facts.{group_set}
use Rattle.plan_algebra.specs.Tree.{apply_one, apply_two}
use Rattle.provider_engine.proofs.CellLaws.{Frame, IsSplit, ShowsMore, Tells, column_agrees, constant_agrees, member_comparable, pair_agrees, tells_more, type_small}
use Rattle.provider_engine.proofs.FoldLaws.{greatest_tells, least_tells, sum_tells}
use Rattle.column_table.specs.Cells.{Cell, cell_tests}
use Rattle.provider_engine.specs.Typed.{IsTypedOp, groups}
use Rattle.provider_engine.specs.Decoding.{ShareSeals}
use Rattle.provider_engine.specs.Opening.{seals_of}
use Rattle.relation_profile.specs.Profile.{Profile}
use Rattle.relation_profile.specs.Runnable.{all_comparable, may_fold, runs_one, runs_two}
use Rattle.relation_profile.specs.Steps as step
use Rattle.relation_profile.specs.Steps.{after_one, after_two, equated, imply, project}
use Rattle.row_algebra.proofs.LikenessLaws.{constant_keeps, count_keeps, cut_keeps, group_keeps, join_keeps, leads_keep, pair_keeps, product_keeps}
use Rattle.row_algebra.specs.Groups.{function_of}
use Rattle.row_algebra.specs.Likeness.{AreLike, LeadsAt, RespectsFold, RespectsGroup}
use Rattle.row_algebra.specs.Rows.{RowOf}
use Rattle.row_algebra.specs.Values.{value_tests}
use Rattle.provider_engine.proofs.OrLaws.{or_first, or_second}

-- ---- what is said of each attribute under a function

pub each_of : {X : Type 0} (P : X → Type 0) (xs : List X) → All P xs → AllByRecursion P xs
each_of P [] all = tt
each_of P (x ∷ xs) all = (all 0 x (omega arith), each_of P xs (λ k d below. all (suc k) d (omega (arith, below))))

pub under_function : (P : AttrId × Agg → Type 0) (aggs : List (AttrId × Agg)) (a : ℕ) (func : Agg) → AllByRecursion P aggs
    → function_of aggs a ≡ Some func → P (record { 0 = a }, func)
under_function P [] a func all is = cc
under_function P (under ∷ rest) a func all is = by_test (under.0.0 == a) refl is (under_function P rest a func all.1)
  where
    by_test : (b : Bool) → (under.0.0 == a) ≡ b
        → option_map (λ (p : AttrId × Agg). p.1) (cond b (Some under) (find (λ (p : AttrId × Agg). p.0.0 == a) rest)) ≡ Some func
        → (function_of rest a ≡ Some func → P (record { 0 = a }, func)) → P (record { 0 = a }, func)
    by_test true same is later =
        let place : under.0.0 ≡ a = eqb-true under.0.0 a same in
        let its : under.1 ≡ func = cc in
        subst P (λ i. (record { 0 = place i }, its i)) all.0
    by_test false other is later = later is

-- ---- profiles

shows_kept : (kept : ℕ) (p : Profile) (a : ℕ) → has kept a ≡ true → ShowsMore p (project kept p) a
shows_kept kept p a inside = record {
  plain = λ plain. has-bit_and p.visible_plain kept a ∙ together _ _ plain inside;
  sealed = λ sealed. has-bit_and p.visible_encrypted kept a ∙ together _ _ sealed inside;
}

shows_left : (p q : Profile) (a : ℕ) → ShowsMore p (step.both p q) a
shows_left p q a = record {
  plain = λ plain. has-bit_or p.visible_plain q.visible_plain a ∙ or_first _ _ plain;
  sealed = λ sealed. has-bit_or p.visible_encrypted q.visible_encrypted a ∙ or_first _ _ sealed;
}

shows_right : (p q : Profile) (a : ℕ) → ShowsMore q (step.both p q) a
shows_right p q a = record {
  plain = λ plain. has-bit_or p.visible_plain q.visible_plain a ∙ or_second _ _ plain;
  sealed = λ sealed. has-bit_or p.visible_encrypted q.visible_encrypted a ∙ or_second _ _ sealed;
}

or_false : (a b : Bool) → (a || b) ≡ false → (a ≡ false) × (b ≡ false)
or_false false b is = (refl, is)
or_false true b is = cc

-- ---- groups

module _ (f : Frame) (p : Profile) (split : IsSplit p) (few : length f.schema.attrs ≤ 64) (by : AttrSet) (aggs : List (AttrId × Agg)) where
  abbrev after : Profile
  after = project (group_set by aggs) (imply by.0 p)

  kept_by : (a : ℕ) → has (group_set by aggs) a ≡ true → LeadsAt (Tells f false p) (Tells f true after) a
  kept_by a inside = tells_more f false true p after a
      (record { plain = (shows_kept (group_set by aggs) p a inside).plain; sealed = (shows_kept (group_set by aggs) p a inside).sealed })
      (λ no. cc)

  made_by : (most : ℕ) → most ≤ 2 ^ 48 - 1 → (a : ℕ) (func : Agg) → has (group_set by aggs) a ≡ true
      → may_fold f.clusters.scheme p (record { 0 = a }) func ≡ true → IsSummable f.schema (record { 0 = a }) func
      → RespectsFold (Tells f false p) (Tells f true after) (cell_tests (seals_of f.clusters f.keys)) value_tests most a func
  made_by most narrow a Sum inside can is = sum_tells f p after split most a narrow can ((shows_kept (group_set by aggs) p a inside).plain can) is
  made_by most narrow a Min inside can is = least_tells f p after split most a can (kept_by a inside)
  made_by most narrow a Max inside can is = greatest_tells f p after split most a can (kept_by a inside)

  groups_tell : (most : ℕ) → most ≤ 2 ^ 48 - 1 → all_comparable f.clusters.scheme Eq by.0 p ≡ true
      → list_all (λ (under : AttrId × Agg). may_fold f.clusters.scheme p under.0 under.1) aggs ≡ true
      → All (λ (under : AttrId × Agg). IsSummable f.schema under.0 under.1) aggs
      → RespectsGroup (Tells f false p) (Tells f true after) (cell_tests (seals_of f.clusters f.keys)) value_tests by.0 aggs most
  groups_tell most narrow keys folds sums = record {
    keys = λ a inside c v e w first second.
        column_agrees f false p split a Eq
        (member_comparable f.clusters.scheme Eq by.0 p keys a inside
        (omega (arith, few, type_small f.schema a (type_of v) first.value.typed))) c v e w first second;
    kept = λ a inside. kept_by a (with_members-keeps by.0 a (aggregated aggs) inside);
    made = λ a outside func is. made_by most narrow a func
        (under_function (λ under. has (group_set by aggs) under.0.0 ≡ true) aggs a func
        (each_unmap (λ i. has (group_set by aggs) i ≡ true) (λ (under : AttrId × Agg). under.0.0) aggs (with_members-each by.0 (aggregated aggs))) is)
        (under_function (λ under. may_fold f.clusters.scheme p under.0 under.1 ≡ true) aggs a func
        (each_from_list_all (λ (under : AttrId × Agg). may_fold f.clusters.scheme p under.0 under.1) aggs folds) is)
        (under_function (λ under. IsSummable f.schema under.0 under.1) aggs a func (each_of _ aggs sums) is);
  }

-- ---- operations

same_shows : (p q : Profile) → p.visible_plain ≡ q.visible_plain → p.visible_encrypted ≡ q.visible_encrypted → (a : ℕ) → ShowsMore p q a
same_shows p q plain sealed a = record {
  plain = λ is. ap (λ set. has set a) (sym plain) ∙ is;
  sealed = λ is. ap (λ set. has set a) (sym sealed) ∙ is;
}

pub one_tells : (f : Frame) → length f.schema.attrs ≤ 64 → (o : PlanOp) (grouped : Bool) (p : Profile) → IsSplit p
    → runs_one f.clusters.scheme o p ≡ true → IsTypedOp f.schema o → IfPair o (ShareSeals f.clusters f.keys)
    → (groups o ≡ true → grouped ≡ false) → (us : List (RowOf Cell)) (rs : List (RowOf Value)) → length us ≤ 2 ^ 48 - 1
    → AreLike (Tells f grouped p) us rs
    → AreLike (Tells f (groups o || grouped) (after_one o p)) (apply_one (cell_tests (seals_of f.clusters f.keys)) o us) (apply_one value_tests o rs)
one_tells f few (op.Project kept) grouped p split runs typed share level us rs narrow all =
    cut_keeps (Tells f grouped p) (Tells f grouped (project kept.0 p)) kept.0 us rs
    (λ a inside. tells_more f grouped grouped p (project kept.0 p) a (shows_kept kept.0 p a inside) (λ is. is)) all
one_tells f few (op.SelConst a cmp x) grouped p split runs typed share level us rs narrow all =
    leads_keep (Tells f grouped p) (Tells f grouped (imply (2 ^ a.0) p))
    (λ i. tells_more f grouped grouped p (imply (2 ^ a.0) p) i (same_shows p (imply (2 ^ a.0) p) refl refl i) (λ is. is)) _ _
    (constant_keeps (Tells f grouped p) (cell_tests (seals_of f.clusters f.keys)) value_tests a.0 cmp x us rs
    (constant_agrees f grouped p split a cmp x runs typed) all)
one_tells f few (op.SelCount cmp n) grouped p split runs typed share level us rs narrow all = count_keeps (Tells f grouped p) cmp n us rs all
one_tells f few (op.SelAttr a cmp b) grouped p split runs typed share level us rs narrow all =
    leads_keep (Tells f grouped p) (Tells f grouped (equated a b p))
    (λ i. tells_more f grouped grouped p (equated a b p) i (same_shows p (equated a b p) refl refl i) (λ is. is)) _ _
    (pair_keeps (Tells f grouped p) (cell_tests (seals_of f.clusters f.keys)) value_tests a.0 cmp b.0 us rs
    (pair_agrees f grouped p split a b cmp runs typed share) all)
one_tells f few (op.Group by aggs count) true p split runs typed share level us rs narrow all = let h : true ≡ false = level refl in cc
one_tells f few (op.Group by aggs count) false p split runs typed share level us rs narrow all =
    let can = both _ _ runs in
    group_keeps (Tells f false p) (Tells f true (project (group_set by aggs) (imply by.0 p))) (cell_tests (seals_of f.clusters f.keys))
    value_tests by.0 aggs count us rs (groups_tell f p split few by aggs (length us) narrow can.0 can.1 typed) all
one_tells f few _ grouped p split runs typed share level us rs narrow all = cc

pub two_tells : (f : Frame) (o : PlanOp) (grouped other : Bool) (p q : Profile) → IsSplit (after_two o p q)
    → runs_two f.clusters.scheme o p q ≡ true → IsTypedOp f.schema o → IfPair o (ShareSeals f.clusters f.keys)
    → (us : List (RowOf Cell)) (rs : List (RowOf Value)) (more : List (RowOf Cell)) (others : List (RowOf Value))
    → AreLike (Tells f grouped p) us rs → AreLike (Tells f other q) more others
    → AreLike (Tells f (grouped || other) (after_two o p q)) (apply_two (cell_tests (seals_of f.clusters f.keys)) o us more)
    (apply_two value_tests o rs others)
two_tells f op.Product grouped other p q split runs typed share us rs more others left right =
    product_keeps (Tells f grouped p) (Tells f other q) (Tells f (grouped || other) (step.both p q)) us rs more others
    (λ a. tells_more f grouped (grouped || other) p (step.both p q) a (shows_left p q a) (λ is. (or_false grouped other is).0))
    (λ a. tells_more f other (grouped || other) q (step.both p q) a (shows_right p q a) (λ is. (or_false grouped other is).1))
    left right
two_tells f (op.Join a cmp b) grouped other p q split runs typed share us rs more others left right =
    join_keeps (Tells f grouped p) (Tells f other q) (Tells f (grouped || other) (equated a b (step.both p q)))
    (cell_tests (seals_of f.clusters f.keys)) value_tests a.0 cmp b.0 us rs more others
    (λ i. tells_more f grouped (grouped || other) p (equated a b (step.both p q)) i
    (record { plain = (shows_left p q i).plain; sealed = (shows_left p q i).sealed }) (λ is. (or_false grouped other is).0))
    (λ i. tells_more f other (grouped || other) q (equated a b (step.both p q)) i
    (record { plain = (shows_right p q i).plain; sealed = (shows_right p q i).sealed }) (λ is. (or_false grouped other is).1))
    (pair_agrees f (grouped || other) (equated a b (step.both p q)) split a b cmp runs typed share) left right
two_tells f _ grouped other p q split runs typed share us rs more others left right = cc

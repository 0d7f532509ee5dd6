-- Contents that agree for a subject give it the same tables: what differs is neither shown nor told by what it holds.
use Rattle.std.proofs.Common.{◌≡◌, ◌⊎◌, inl, inr, ℕ, ◌+◌, ◌^◌, Bool, true, false, cond, ◌&&◌, ◌||◌, List, [], ◌∷◌, length, map, Option, Some, None, IsSomeAnd, option_map, refl, sym, ◌∙◌, ap, bit_or}
use Rattle.std.specs.List.{AllByRecursion, enumerate_from, list_all}
use Rattle.base_laws.proofs.BoolLaws.{both}
use Rattle.base_laws.proofs.FilterLaws.{each_unmap}
use Rattle.base_laws.proofs.SetLaws.{has-bit_or, has-single_same, with_members-keeps, with_members-each, within_from_test}
use Rattle.base_laws.specs.Sets.{has, is_within}
use Rattle.extended_plan.proofs.PlaceLaws.{one_operand, two_operands}
use Rattle.extended_plan.specs.Setting.{Setting, leaf_of, op_at}
use Rattle.extended_plan.specs.Term.{Term, Leaf, Enc, Dec, Send, Un, Bin, holder, node_of, spell}
use Rattle.extended_plan.specs.Validity.{authorised, is_held, profile, used_at}
use Rattle.mq_base.specs.declared.attr_set.AttrSet.{AttrSet}
use Rattle.mq_base.specs.declared.ids.AttrId.{AttrId}
use Rattle.mq_base.specs.declared.ids.TableId.{TableId}
use Rattle.mq_base.specs.declared.plan.PlanOp.{PlanOp}
use Rattle.mq_base.specs.declared.plan.PlanOp.TheVariants as op
use Rattle.mq_base.specs.declared.query.Agg.{Agg}
use Rattle.mq_base.specs.declared.value.Value.{Value}
use Rattle.mq_base.specs.declared.schema.Schema.{Schema}
use Rattle.mq_base.specs.Nodes.{aggregated}
use Rattle.mq_base.specs.Value.{IsCell}
use Rattle.plan_algebra.specs.Facts.{group_set}
use Rattle.plan_algebra.specs.Tree.{apply_one, apply_two}
use Rattle.policy_base.specs.Accepted.{plain_of, sealed_of}
use Rattle.provider_engine.proofs.FoldLaws.{beside_leads}
use Rattle.provider_engine.proofs.ImpliedLaws.{both_shows_left, both_shows_right, dec_implied, dec_shows, enc_implied, enc_shows, equated_tells, implied, imply_tells, leaf_shows, left_keeps, one_keeps, pair_first, pair_second, project_shows, right_keeps, stands_in, visible}
use Rattle.provider_engine.proofs.OrLaws.{either, or_first, or_second}
use Rattle.provider_engine.proofs.LeafLaws.{column_of}
use Rattle.provider_engine.proofs.OperationLaws.{under_function}
use Rattle.provider_engine.specs.Agreement.{AreSameIn, HiddenColumnsDoNotMatter, seen_by}
use Rattle.column_table.specs.Cells.{Cell, Plain, Seals, cell_tests}
use Rattle.provider_engine.specs.Run.{enc_run, opened_cell, opened_row, plain_row, sealed_cell, sealed_row}
use Rattle.relation_profile.specs.Profile.{Profile}
use Rattle.relation_profile.specs.Steps as step
use Rattle.relation_profile.specs.Steps.{after_dec, after_enc, after_one, after_two, equated, imply, leaf_profile, project}
use Rattle.row_algebra.proofs.LikenessLaws.{constant_keeps, count_keeps, cut_keeps, group_keeps, join_keeps, leads_keep, pair_keeps, product_keeps, same_from_like}
use Rattle.row_algebra.specs.Contents.{Contents, HasCells, HaveForm, owns}
use Rattle.row_algebra.specs.Likeness.{AreLike, Beside, BothOr, IsLike, LeadsAt, RespectsFold, RespectsGroup}
use Rattle.row_algebra.specs.Rows.{IsOf, RowOf, cut, mapped}
use Rattle.view_authority.specs.Authority.{is_alike, may, sees_alike, sees_plain, sees_sealed}

-- cells of a visible attribute that are the same where it is one of a set
abbrev IsAlike : ℕ → Profile → ℕ → Cell → Cell → Type 0
IsAlike w p a c d = (visible p a ≡ true) × (has w a ≡ true → c ≡ d)

-- what a profile implies is of the set
abbrev Covers : ℕ → Profile → Type 0
Covers w p = (a : ℕ) → implied p a ≡ true → has w a ≡ true

alike_leads : (w : ℕ) (p q : Profile) (a : ℕ) → (visible p a ≡ true → visible q a ≡ true) → LeadsAt (IsAlike w p) (IsAlike w q) a
alike_leads w p q a more c d alike = (more alike.0, alike.1)

-- ---- seals

changed_cells : (w : ℕ) (p q : Profile) (a : ℕ) (change : Cell → Cell) → (visible p a ≡ true → visible q a ≡ true) → (o u : Option Cell)
    → BothOr (IsAlike w p a) o u → BothOr (IsAlike w q a) (option_map change o) (option_map change u)
changed_cells w p q a change more None None alike = tt
changed_cells w p q a change more None (Some d) alike = absurd alike
changed_cells w p q a change more (Some c) None alike = absurd alike
changed_cells w p q a change more (Some c) (Some d) alike = (more alike.0, λ inside. ap change (alike.1 inside))

changed_rows : (w : ℕ) (p q : Profile) → ((a : ℕ) → visible p a ≡ true → visible q a ≡ true) → (change : ℕ → Cell → Cell) (u v : RowOf Cell)
    → IsLike (IsAlike w p) u v → IsLike (IsAlike w q) (mapped change u) (mapped change v)
changed_rows w p q more change u v like = record {
  cells = λ a. changed_cells w p q a (change a) (more a) (u.cell a) (v.cell a) (like.cells a);
  count = like.count;
}

seals_alike : (seals : Seals) (w : ℕ) (p q : Profile) (set place : ℕ) → ((a : ℕ) → visible p a ≡ true → visible q a ≡ true)
    → (us vs : List (RowOf Cell)) (i : ℕ) → AreLike (IsAlike w p) us vs
    → AreLike (IsAlike w q) (map (λ at. sealed_row seals set place at.0 at.1) (enumerate_from i us))
    (map (λ at. sealed_row seals set place at.0 at.1) (enumerate_from i vs))
seals_alike seals w p q set place more [] [] i all = tt
seals_alike seals w p q set place more [] (v ∷ vs) i all = absurd all
seals_alike seals w p q set place more (u ∷ us) [] i all = absurd all
seals_alike seals w p q set place more (u ∷ us) (v ∷ vs) i all = (
  changed_rows w p q more (λ a c. cond (has set a) (sealed_cell seals place i a c) c) u v all.0,
  seals_alike seals w p q set place more us vs (i + 1) all.1,
)

opens_alike : (seals : Seals) (w : ℕ) (p q : Profile) (set : ℕ) → ((a : ℕ) → visible p a ≡ true → visible q a ≡ true)
    → (us vs : List (RowOf Cell)) → AreLike (IsAlike w p) us vs
    → AreLike (IsAlike w q) (map (opened_row seals set) us) (map (opened_row seals set) vs)
opens_alike seals w p q set more [] [] all = tt
opens_alike seals w p q set more [] (v ∷ vs) all = absurd all
opens_alike seals w p q set more (u ∷ us) [] all = absurd all
opens_alike seals w p q set more (u ∷ us) (v ∷ vs) all = (
  changed_rows w p q more (λ a c. cond (has set a) (opened_cell seals a c) c) u v all.0,
  opens_alike seals w p q set more us vs all.1,
)

-- ---- operations

same_lists : (cs ds : List Cell) → Beside (λ c d. c ≡ d) cs ds → cs ≡ ds
same_lists [] [] all = refl
same_lists [] (d ∷ ds) all = absurd all
same_lists (c ∷ cs) [] all = absurd all
same_lists (c ∷ cs) (d ∷ ds) all = rw (all.0, same_lists cs ds all.1) refl

-- what a function makes of the cells of a column that is visible after it
folds_alike : (seals : Seals) (w : ℕ) (p q : Profile) (most a : ℕ) (func : Agg) → (visible p a ≡ true → visible q a ≡ true)
    → RespectsFold (IsAlike w p) (IsAlike w q) (cell_tests seals) (cell_tests seals) most a func
folds_alike seals w p q most a func more c d cs ds first all few = (
  more first.0,
  λ inside. rw (first.1 inside, same_lists cs ds (beside_leads (IsAlike w p a) (λ x y. x ≡ y) (λ x y alike. alike.1 inside) cs ds all)) refl,
)

group_alike : (seals : Seals) (w : ℕ) (p : Profile) (by : AttrSet) (aggs : List (AttrId × Agg)) (most : ℕ)
    → Covers w (project (group_set by aggs) (imply by.0 p))
    → RespectsGroup (IsAlike w p) (IsAlike w (project (group_set by aggs) (imply by.0 p))) (cell_tests seals) (cell_tests seals) by.0 aggs most
group_alike seals w p by aggs most covers = record {
  keys = λ a inside c d e f first second.
      let here : has w a ≡ true = covers a (imply_tells by.0 p a inside first.0) in
      rw (first.1 here, second.1 here) refl;
  kept = λ a inside. alike_leads w p (project (group_set by aggs) (imply by.0 p)) a
      (project_shows (group_set by aggs) (imply by.0 p) a (with_members-keeps by.0 a (aggregated aggs) inside));
  made = λ a outside func is. folds_alike seals w p (project (group_set by aggs) (imply by.0 p)) most a func
      (project_shows (group_set by aggs) (imply by.0 p) a
      (under_function (λ under. has (group_set by aggs) under.0.0 ≡ true) aggs a func
      (each_unmap (λ i. has (group_set by aggs) i ≡ true) (λ (under : AttrId × Agg). under.0.0) aggs (with_members-each by.0 (aggregated aggs)))
      is));
}

one_alike : (seals : Seals) (w : ℕ) (o : PlanOp) (p : Profile) → Covers w (after_one o p) → (us vs : List (RowOf Cell))
    → AreLike (IsAlike w p) us vs
    → AreLike (IsAlike w (after_one o p)) (apply_one (cell_tests seals) o us) (apply_one (cell_tests seals) o vs)
one_alike seals w (op.Project kept) p covers us vs all =
    cut_keeps (IsAlike w p) (IsAlike w (project kept.0 p)) kept.0 us vs
    (λ a inside. alike_leads w p (project kept.0 p) a (project_shows kept.0 p a inside)) all
one_alike seals w (op.SelConst a cmp x) p covers us vs all =
    constant_keeps (IsAlike w p) (cell_tests seals) (cell_tests seals) a.0 cmp x us vs
    (λ c d alike. ap ((cell_tests seals).constant a.0 cmp x)
    (alike.1 (covers a.0 (imply_tells (2 ^ a.0) p a.0 (has-single_same a.0) alike.0)))) all
one_alike seals w (op.SelCount cmp n) p covers us vs all = count_keeps (IsAlike w p) cmp n us vs all
one_alike seals w (op.SelAttr a cmp b) p covers us vs all =
    pair_keeps (IsAlike w p) (cell_tests seals) (cell_tests seals) a.0 cmp b.0 us vs
    (λ c d e f first second. rw (
      first.1 (covers a.0 (equated_tells a b p a.0 (pair_first a b))),
      second.1 (covers b.0 (equated_tells a b p b.0 (pair_second a b))),
    ) refl) all
one_alike seals w (op.Group by aggs count) p covers us vs all =
    group_keeps (IsAlike w p) (IsAlike w (project (group_set by aggs) (imply by.0 p))) (cell_tests seals) (cell_tests seals) by.0 aggs count us vs
    (group_alike seals w p by aggs (length us) covers) all
one_alike seals w _ p covers us vs all = all

two_alike : (seals : Seals) (w : ℕ) (o : PlanOp) (p q : Profile) → Covers w (after_two o p q) → (us vs more others : List (RowOf Cell))
    → AreLike (IsAlike w p) us vs → AreLike (IsAlike w q) more others
    → AreLike (IsAlike w (after_two o p q)) (apply_two (cell_tests seals) o us more) (apply_two (cell_tests seals) o vs others)
two_alike seals w op.Product p q covers us vs more others left right =
    product_keeps (IsAlike w p) (IsAlike w q) (IsAlike w (step.both p q)) us vs more others
    (λ a. alike_leads w p (step.both p q) a (both_shows_left p q a)) (λ a. alike_leads w q (step.both p q) a (both_shows_right p q a)) left right
two_alike seals w (op.Join a cmp b) p q covers us vs more others left right =
    join_keeps (IsAlike w p) (IsAlike w q) (IsAlike w (step.both p q)) (cell_tests seals) (cell_tests seals) a.0 cmp b.0 us vs more others
    (λ i. alike_leads w p (step.both p q) i (both_shows_left p q i)) (λ i. alike_leads w q (step.both p q) i (both_shows_right p q i))
    (λ c d e f first second. rw (
      first.1 (covers a.0 (equated_tells a b (step.both p q) a.0 (pair_first a b))),
      second.1 (covers b.0 (equated_tells a b (step.both p q) b.0 (pair_second a b))),
    ) refl) left right
two_alike seals w _ p q covers us vs more others left right =
    leads_keep (IsAlike w p) (IsAlike w (step.both p q)) (λ a. alike_leads w p (step.both p q) a (both_shows_left p q a)) us vs left

-- ---- leaves

-- a row of a table in its form
record IsFormed (schema : Schema) (t : ℕ) (r : RowOf Value) : Type 0 where
  own : IsOf (owns schema t) r
  cells : HasCells schema t r
  count : r.count ≡ None

formed_rows : (schema : Schema) (t : ℕ) (rows : List (RowOf Value)) → AllByRecursion (IsOf (owns schema t)) rows
    → AllByRecursion (HasCells schema t) rows → AllByRecursion (λ r. r.count ≡ None) rows → AllByRecursion (IsFormed schema t) rows
formed_rows schema t [] own cells counts = tt
formed_rows schema t (r ∷ rows) own cells counts =
    (record { own = own.0; cells = cells.0; count = counts.0 }, formed_rows schema t rows own.1 cells.1 counts.1)

both_there : (w : ℕ) (p : Profile) (a : ℕ) (P : Value → Type 0) → visible p a ≡ true → (o q : Option Value) → IsSomeAnd o P → IsSomeAnd q P
    → (has w a ≡ true → o ≡ q) → BothOr (IsAlike w p a) (option_map Plain o) (option_map Plain q)
both_there w p a P shows None q there also same = absurd there
both_there w p a P shows (Some u) None there also same = absurd also
both_there w p a P shows (Some u) (Some v) there also same =
    (shows, λ inside. let h : Some u ≡ Some v = same inside in cc)

none_there : (w : ℕ) (p : Profile) (a : ℕ) (o q : Option Value) → o ≡ None → q ≡ None
    → BothOr (IsAlike w p a) (option_map Plain o) (option_map Plain q)
none_there w p a None None gone also = tt
none_there w p a (Some u) q gone also = cc
none_there w p a None (Some v) gone also = cc

plain_alike : (schema : Schema) (t w rest used : ℕ) (u v : RowOf Value) → IsFormed schema t u → IsFormed schema t v → AreSameIn w u v
    → IsLike (IsAlike w (leaf_profile rest used)) (plain_row (cut used u)) (plain_row (cut used v))
plain_alike schema t w rest used u v first second same = record {
  cells = λ a. by_test a (has used a) refl;
  count = first.count ∙ sym second.count;
}
  where
    by_owner : (a : ℕ) → has used a ≡ true → (b : Bool) → owns schema t a ≡ b
        → BothOr (IsAlike w (leaf_profile rest used) a) (option_map Plain (u.cell a)) (option_map Plain (v.cell a))
    by_owner a inside false other = none_there w (leaf_profile rest used) a (u.cell a) (v.cell a) (first.own a other) (second.own a other)
    by_owner a inside true owned =
        let column = column_of schema t a owned in
        both_there w (leaf_profile rest used) a (IsCell column.info.ty) (leaf_shows rest used a inside) (u.cell a) (v.cell a)
        (first.cells a column.info column.found column.table) (second.cells a column.info column.found column.table) (same a)

    by_test : (a : ℕ) (b : Bool) → has used a ≡ b
        → BothOr (IsAlike w (leaf_profile rest used) a) (option_map Plain (cond b (u.cell a) None)) (option_map Plain (cond b (v.cell a) None))
    by_test a true inside = by_owner a inside (owns schema t a) refl
    by_test a false outside = tt

rows_alike : (schema : Schema) (t w rest used : ℕ) (us vs : List (RowOf Value)) → AllByRecursion (IsFormed schema t) us
    → AllByRecursion (IsFormed schema t) vs → Beside (AreSameIn w) us vs
    → AreLike (IsAlike w (leaf_profile rest used)) (map (λ r. plain_row (cut used r)) us) (map (λ r. plain_row (cut used r)) vs)
rows_alike schema t w rest used [] [] first second all = tt
rows_alike schema t w rest used [] (v ∷ vs) first second all = absurd all
rows_alike schema t w rest used (u ∷ us) [] first second all = absurd all
rows_alike schema t w rest used (u ∷ us) (v ∷ vs) first second all =
    (plain_alike schema t w rest used u v first.0 second.0 all.0, rows_alike schema t w rest used us vs first.1 second.1 all.1)

formed_table : (schema : Schema) (contents : Contents) → HaveForm schema contents → (t : ℕ) → AllByRecursion (IsFormed schema t) (contents t)
formed_table schema contents form t = formed_rows schema t (contents t) (form.own t) (form.cells t) (form.counts t)

-- ---- the run

run_alike : (s : Setting) (seals : Seals) (contents others : Contents) → HaveForm s.policy.schema contents → HaveForm s.policy.schema others
    → (w : ℕ) → ((t : TableId) (n : ℕ) → leaf_of s t ≡ Some n → Beside (AreSameIn w) (contents t.0) (others t.0))
    → (y : Term) (n start : ℕ) → node_of s y ≡ Some n → Covers w (profile s y)
    → AreLike (IsAlike w (profile s y)) (enc_run s seals contents start y) (enc_run s seals others start y)
run_alike s seals contents others form also w agree (Leaf t) n start gives covers =
    seals_alike seals w (profile s (Leaf t)) (profile s (Leaf t)) s.policy.rest.0 start (λ a is. is) _ _ 0
    (rows_alike s.policy.schema t.0 w s.policy.rest.0 (used_at s t) (contents t.0) (others t.0) (formed_table s.policy.schema contents form t.0)
    (formed_table s.policy.schema others also t.0) (agree t n gives))
run_alike s seals contents others form also w agree (Enc a x) n start gives covers =
    seals_alike seals w (profile s x) (after_enc a.0 (profile s x)) (2 ^ a.0) (start + length (spell x)) (enc_shows a.0 (profile s x)) _ _ 0
    (run_alike s seals contents others form also w agree x n start gives (λ i is. covers i (enc_implied a.0 (profile s x) i is)))
run_alike s seals contents others form also w agree (Dec a x) n start gives covers =
    opens_alike seals w (profile s x) (after_dec a.0 (profile s x)) (2 ^ a.0) (dec_shows a.0 (profile s x)) _ _
    (run_alike s seals contents others form also w agree x n start gives (λ i is. covers i (dec_implied a.0 (profile s x) i is)))
run_alike s seals contents others form also w agree (Send to x) n start gives covers =
    run_alike s seals contents others form also w agree x n start gives covers
run_alike s seals contents others form also w agree (Un m x) n start gives covers =
    let on = one_operand s m n x gives in
    one_alike seals w (op_at s m.0) (profile s x) covers _ _
    (run_alike s seals contents others form also w agree x on.1.operand.0 start on.1.gives
    (λ i is. covers i (one_keeps (op_at s m.0) (profile s x) i is)))
run_alike s seals contents others form also w agree (Bin m x y) n start gives covers =
    let on = two_operands s m n x y gives in
    two_alike seals w (op_at s m.0) (profile s x) (profile s y) covers _ _ _ _
    (run_alike s seals contents others form also w agree x on.1.left_operand.0 start on.1.left_gives
    (λ i is. covers i (left_keeps (op_at s m.0) (profile s x) (profile s y) i is)))
    (run_alike s seals contents others form also w agree y on.1.right_operand.0 (start + length (spell x)) on.1.right_gives
    (λ i is. covers i (right_keeps (op_at s m.0) (profile s x) (profile s y) i is)))

-- ---- what a subject that holds a table sees

-- the last subterm's holder may hold its table
held_last : (s : Setting) (y : Term) → authorised s y ≡ true → is_held s y ≡ true
held_last s (Leaf t) held = held
held_last s (Enc a x) held = (both _ _ held).1
held_last s (Dec a x) held = (both _ _ held).1
held_last s (Send to x) held = (both _ _ held).1
held_last s (Un n x) held = (both _ _ held).1
held_last s (Bin n x y) held = (both (authorised s y) _ (both (authorised s x) _ held).1).1

alike_sets : (plain sealed : ℕ) (family : List AttrSet) → list_all (is_alike plain sealed) family ≡ true → (a : ℕ)
    → stands_in family a ≡ true → (has plain a || has sealed a) ≡ true
alike_sets plain sealed [] all a is = cc
alike_sets plain sealed (set ∷ rest) all a is = by_place (either (has set.0 a) _ is) (alike_sets plain sealed rest (both _ _ all).1 a)
  where
    by_side : has set.0 a ≡ true → (is_within set.0 plain ≡ true) ⊎ (is_within set.0 sealed ≡ true) → (has plain a || has sealed a) ≡ true
    by_side inside (inl in_plain) = or_first _ _ ((within_from_test set.0 plain in_plain).member a inside)
    by_side inside (inr in_sealed) = or_second (has plain a) _ ((within_from_test set.0 sealed in_sealed).member a inside)

    by_place : (has set.0 a ≡ true) ⊎ (stands_in rest a ≡ true) → (stands_in rest a ≡ true → (has plain a || has sealed a) ≡ true)
        → (has plain a || has sealed a) ≡ true
    by_place (inl here) later = by_side here (either _ _ (both _ _ all).0)
    by_place (inr there) later = later there

-- what a subject holds tells it only of attributes that it may see
record SeesAll (w : ℕ) (p : Profile) : Type 0 where
  shown : (a : ℕ) → visible p a ≡ true → has w a ≡ true
  told : Covers w p

sees_all : (plain sealed : ℕ) (p : Profile) → may plain sealed p ≡ true → SeesAll (bit_or plain sealed) p
sees_all plain sealed p holds = record {
  shown = λ a is. by_view a (either _ _ is);
  told = λ a is. by_part a (either _ _ is);
}
  where
    visibly : (sees_plain plain p && sees_sealed plain sealed p) ≡ true
    visibly = (both (sees_plain plain p && sees_sealed plain sealed p) (sees_alike plain sealed p) holds).0

    plainly : is_within (bit_or p.visible_plain p.implicit_plain) plain ≡ true
    plainly = (both (sees_plain plain p) (sees_sealed plain sealed p) visibly).0

    sealedly : is_within (bit_or p.visible_encrypted p.implicit_encrypted) (bit_or plain sealed) ≡ true
    sealedly = (both (sees_plain plain p) (sees_sealed plain sealed p) visibly).1

    alike : list_all (is_alike plain sealed) p.equivalent ≡ true
    alike = (both (sees_plain plain p && sees_sealed plain sealed p) (sees_alike plain sealed p) holds).1

    in_plain : (a : ℕ) → (has p.visible_plain a || has p.implicit_plain a) ≡ true → has (bit_or plain sealed) a ≡ true
    in_plain a is =
        has-bit_or plain sealed a
        ∙ or_first _ _ ((within_from_test (bit_or p.visible_plain p.implicit_plain) plain plainly).member a (has-bit_or p.visible_plain p.implicit_plain a ∙ is))

    in_sealed : (a : ℕ) → (has p.visible_encrypted a || has p.implicit_encrypted a) ≡ true → has (bit_or plain sealed) a ≡ true
    in_sealed a is =
        (within_from_test (bit_or p.visible_encrypted p.implicit_encrypted) (bit_or plain sealed) sealedly).member a
        (has-bit_or p.visible_encrypted p.implicit_encrypted a ∙ is)

    by_view : (a : ℕ) → (has p.visible_plain a ≡ true) ⊎ (has p.visible_encrypted a ≡ true) → has (bit_or plain sealed) a ≡ true
    by_view a (inl is) = in_plain a (or_first _ _ is)
    by_view a (inr is) = in_sealed a (or_first _ _ is)

    by_rest : (a : ℕ) → (has p.implicit_encrypted a ≡ true) ⊎ (stands_in p.equivalent a ≡ true) → has (bit_or plain sealed) a ≡ true
    by_rest a (inl is) = in_sealed a (or_second (has p.visible_encrypted a) _ is)
    by_rest a (inr is) = has-bit_or plain sealed a ∙ alike_sets plain sealed p.equivalent alike a is

    by_part : (a : ℕ) → (has p.implicit_plain a ≡ true) ⊎ ((has p.implicit_encrypted a || stands_in p.equivalent a) ≡ true)
        → has (bit_or plain sealed) a ≡ true
    by_part a (inl is) = in_plain a (or_second (has p.visible_plain a) _ is)
    by_part a (inr is) = by_rest a (either _ _ is)

-- a table that a subject holds is the same over two contents that agree for it
pub hidden_columns : HiddenColumnsDoNotMatter
hidden_columns s seals contents others form also n start y stands agree =
    let sees = sees_all (plain_of s.policy (holder s y).0) (sealed_of s.policy (holder s y).0) (profile s y) (held_last s y stands.held) in
    same_from_like _ _
    (leads_keep (IsAlike (seen_by s (holder s y)) (profile s y)) (λ a c d. c ≡ d) (λ a c d alike. alike.1 (sees.shown a alike.0)) _ _
    (run_alike s seals contents others form also (seen_by s (holder s y)) agree y n start stands.gives sees.told))

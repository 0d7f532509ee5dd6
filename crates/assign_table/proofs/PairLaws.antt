-- States of two classes gain nothing by the operation of a node on two operands.
use Rattle.std.proofs.Common.{◌≡◌, ℕ, ◌==◌, ◌&&◌, ◌||◌, Bool, true, false, not, List, Option, Some, None, if◌then◌else◌, bit_or, refl, ◌∙◌, ap}
use Rattle.std.proofs.lemmas.Bool.{eqb-true}
use Rattle.base_laws.specs.Sets.{has, without, IsWithin}
use Rattle.base_laws.proofs.ApartLaws.{apart_has, apart_turned}
use Rattle.base_laws.proofs.SetLaws.{has-bit_or, has-without}
use Rattle.mq_base.specs.declared.ids.AttrId.{AttrId}
use Rattle.mq_base.specs.declared.ids.NodeId.{NodeId}
use Rattle.mq_base.specs.declared.plan.PlanOp.{PlanOp}
use Rattle.mq_base.specs.declared.plan.PlanOp.TheVariants as op
use Rattle.mq_base.specs.declared.plan.Step.TheVariants as step
use Rattle.mq_base.specs.declared.query.CmpOp.{CmpOp}
use Rattle.mq_base.specs.declared.table.Scheme.{Scheme}
use Rattle.cost_model.specs.Costs.{step_work}
use Rattle.plan_algebra.specs.declared.facts.NodeFacts.{NodeFacts}
use Rattle.plan_algebra.specs.declared.kind.Kind.TheVariants as kind
use Rattle.plan_algebra.specs.Facts.{IsTwoOn}
use Rattle.relation_profile.specs.declared.view.View.{View}
use Rattle.relation_profile.specs.Profile.{Profile}
use Rattle.relation_profile.specs.Runnable.{are_comparable, runs_two}
use Rattle.mq_base.specs.Schemes.{offers}
use Rattle.relation_profile.specs.Steps.{after_two, both}
use Rattle.relation_profile.specs.View.{IsView, profile_of}
use Rattle.extended_plan.specs.declared.state.State.{State}
use Rattle.extended_plan.specs.Gains.{Gain, held, shown, two_gain, two_profile}
use Rattle.extended_plan.specs.Job.{IsStateAt}
use Rattle.extended_plan.specs.Ready.{IsReady}
use Rattle.extended_plan.specs.Setting.{Setting, kind_at, known_at, op_at, schemes}
use Rattle.extended_plan.proofs.PlaceLaws.{two_known}
use Rattle.assign_table.specs.inside.Pairs.{compared_left, compared_right, is_sealed}

-- what is not in a set is in none within it
not_within : (s t i : ℕ) → IsWithin s t → has t i ≡ false → has s i ≡ false
not_within s t i within out = by_test (has s i) refl
  where
    by_test : (b : Bool) → has s i ≡ b → has s i ≡ false
    by_test true is = let inside : has t i ≡ true = within.member i is in cc
    by_test false is = is

-- an attribute that one of two tables has is plain in both together where it is plain there, and sealed where it is sealed there
here_plain : (v e w f i : ℕ) → has v i ≡ true → has w i ≡ false → has (bit_or (without v e) (without w f)) i ≡ not (has e i)
here_plain v e w f i is out =
    has-bit_or (without v e) (without w f) i ∙ ap (λ b. b || has (without w f) i) (has-without v e i)
    ∙ ap (λ b. (has v i && not (has e i)) || b) (has-without w f i)
    ∙ law (has v i) (has e i) (has w i) (has f i) is out
  where
    law : (a b c d : Bool) → a ≡ true → c ≡ false → ((a && not b) || (c && not d)) ≡ not b
    law true true false d is out = refl
    law true false false d is out = refl
    law false b c d is out = cc
    law true b true d is out = cc

here_sealed : (e w f i : ℕ) → IsWithin f w → has w i ≡ false → has (bit_or e f) i ≡ has e i
here_sealed e w f i within out = has-bit_or e f i ∙ law (has e i) (has f i) (not_within f w i within out)
  where
    law : (a b : Bool) → b ≡ false → (a || b) ≡ a
    law true b out = refl
    law false b out = out

there_plain : (v e w f i : ℕ) → has v i ≡ false → has w i ≡ true → has (bit_or (without v e) (without w f)) i ≡ not (has f i)
there_plain v e w f i out is =
    has-bit_or (without v e) (without w f) i ∙ ap (λ b. b || has (without w f) i) (has-without v e i)
    ∙ ap (λ b. (has v i && not (has e i)) || b) (has-without w f i)
    ∙ law (has v i) (has e i) (has w i) (has f i) out is
  where
    law : (a b c d : Bool) → a ≡ false → c ≡ true → ((a && not b) || (c && not d)) ≡ not d
    law false b true d out is = refl
    law true b c d out is = cc
    law false b false d out is = cc

there_sealed : (e v f i : ℕ) → IsWithin e v → has v i ≡ false → has (bit_or e f) i ≡ has f i
there_sealed e v f i within out = has-bit_or e f i ∙ ap (λ b. b || has f i) (not_within e v i within out)

-- whether two attributes compare, by whether each is plain and sealed
abbrev compare_by : Bool → Bool → Bool → Bool → Bool → Bool → Bool
compare_by plain plain_too sealed sealed_too offered offered_too =
    (plain && plain_too) || ((sealed && offered) && (sealed_too && offered_too))

apart_compare : (x y offered offered_too : Bool) → (x ≡ y → ⊥) → compare_by (not x) (not y) x y offered offered_too ≡ false
apart_compare true true o p differ = absurd (differ refl)
apart_compare false false o p differ = absurd (differ refl)
apart_compare true false true p differ = refl
apart_compare true false false p differ = refl
apart_compare false true o p differ = refl

-- a join whose attributes are not both plain or both sealed is not runnable
join_apart : (schemes : List Scheme) (a : AttrId) (cmp : CmpOp) (b : AttrId) (f g : NodeFacts) (l r : View) → IsTwoOn (op.Join a cmp b) f g
    → IsView f l → IsView g r → (has l.enc.0 a.0 ≡ has r.enc.0 b.0 → ⊥)
    → are_comparable schemes cmp a.0 b.0 (both (profile_of f l) (profile_of g r)) ≡ false
join_apart schemes a cmp b f g l r on left right differ =
    let out : has g.visible.0 a.0 ≡ false = apart_has f.visible.0 g.visible.0 a.0 on.0.apart on.1.visible in
    let out_too : has f.visible.0 b.0 ≡ false = apart_has g.visible.0 f.visible.0 b.0 (apart_turned f.visible.0 g.visible.0 on.0.apart) on.2.visible in
    ap (λ x. compare_by x (has plain b.0) (has sealed a.0) (has sealed b.0) (offers schemes cmp a.0) (offers schemes cmp b.0))
    (here_plain f.visible.0 l.enc.0 g.visible.0 r.enc.0 a.0 on.1.visible out)
    ∙ ap (λ x. compare_by (not (has l.enc.0 a.0)) x (has sealed a.0) (has sealed b.0) (offers schemes cmp a.0) (offers schemes cmp b.0))
    (there_plain f.visible.0 l.enc.0 g.visible.0 r.enc.0 b.0 out_too on.2.visible)
    ∙ ap (λ x. compare_by (not (has l.enc.0 a.0)) (not (has r.enc.0 b.0)) x (has sealed b.0) (offers schemes cmp a.0) (offers schemes cmp b.0))
    (here_sealed l.enc.0 g.visible.0 r.enc.0 a.0 right.visible out)
    ∙ ap (λ x. compare_by (not (has l.enc.0 a.0)) (not (has r.enc.0 b.0)) (has l.enc.0 a.0) x (offers schemes cmp a.0) (offers schemes cmp b.0))
    (there_sealed l.enc.0 f.visible.0 r.enc.0 b.0 left.visible out_too)
    ∙ apart_compare (has l.enc.0 a.0) (has r.enc.0 b.0) (offers schemes cmp a.0) (offers schemes cmp b.0) differ
  where
    plain : ℕ
    plain = bit_or (without f.visible.0 l.enc.0) (without g.visible.0 r.enc.0)

    sealed : ℕ
    sealed = bit_or l.enc.0 r.enc.0

-- an operation on states whose classes differ in what is sealed is not runnable
runs_apart : (schemes : List Scheme) (o : PlanOp) (f g : NodeFacts) (left right : State) → IsTwoOn o f g → IsView f left.view → IsView g right.view
    → (is_sealed (compared_left o) left ≡ is_sealed (compared_right o) right → ⊥) → runs_two schemes o (profile_of f left.view) (profile_of g right.view) ≡ false
runs_apart schemes (op.Join a cmp b) f g left right on view view_too differ =
    join_apart schemes a cmp b f g left.view right.view on view view_too differ
runs_apart schemes _ f g left right on view view_too differ = absurd (differ refl)

-- what is gained where two tests pass
abbrev gained_if : Setting → State → PlanOp → NodeId → Bool → Option Profile → Option Gain
gained_if s left o n one_holder p =
    if one_holder then held s left.holder p (step_work s.basis (step.Bin n) left.holder.0 n.0 left.view) else None

none_held : (s : Setting) (left : State) (o : PlanOp) (n : NodeId) (b : Bool) → gained_if s left o n b None ≡ None
none_held s left o n true = refl
none_held s left o n false = refl

-- states of two classes gain nothing
pub sealed_apart : (s : Setting) → IsReady s → (n c d : NodeId) (left right : State) → kind_at s n.0 ≡ kind.Two c d
    → IsStateAt s c.0 left → IsStateAt s d.0 right → (is_sealed (compared_left (op_at s n.0)) left ≡ is_sealed (compared_right (op_at s n.0)) right → ⊥)
    → two_gain s n left right ≡ None
sealed_apart s ready n c d left right is at at_too differ =
    let known = two_known s ready n.0 c d is in
    let none : two_profile s (op_at s n.0) (kind.Two c d) left right ≡ None =
    ap (λ b. if b then Some (after_two (op_at s n.0) (shown s c.0 left) (shown s d.0 right)) else None)
    (runs_apart (schemes s) (op_at s n.0) (known_at s c.0) (known_at s d.0) left right known.stands at.view at_too.view differ) in
    ap (λ k. gained_if s left (op_at s n.0) n (left.holder.0 == right.holder.0) (two_profile s (op_at s n.0) k left right)) is
    ∙ ap (gained_if s left (op_at s n.0) n (left.holder.0 == right.holder.0)) none
    ∙ none_held s left (op_at s n.0) n (left.holder.0 == right.holder.0)

pub holders_apart : (s : Setting) (n : NodeId) (left right : State) → (left.holder.0 ≡ right.holder.0 → ⊥) → two_gain s n left right ≡ None
holders_apart s n left right differ = by_test (left.holder.0 == right.holder.0) refl
  where
    by_test : (b : Bool) → (left.holder.0 == right.holder.0) ≡ b
        → gained_if s left (op_at s n.0) n b (two_profile s (op_at s n.0) (kind_at s n.0) left right) ≡ None
    by_test true same = absurd (differ (eqb-true left.holder.0 right.holder.0 same))
    by_test false other = refl

-- The words of a job's setting are those of the layers below it.
use Rattle.std.proofs.Common.{◌≡◌, ℕ, ◌<◌, ◌==◌, true, false, Bool, length, Option, Some, None, refl, sym, ◌∙◌, ap, subst, arith}
use Rattle.std.specs.Option.{option_map_or}
use Rattle.std.specs.Prelude.{◌↔◌, IfSome, Result, if◌then◌else◌}
use Rattle.std.specs.Result.{is_ok}
use Rattle.std.proofs.lemmas.Bool.Decides.{nat_tests}
use Rattle.std.proofs.lemmas.List.Quantifiers.{position-Some}
use Rattle.base_laws.specs.Firsts.{judged}
use Rattle.mq_base.specs.declared.ids.SubjectId.{SubjectId}
use Rattle.mq_base.specs.declared.ids.TableId.{TableId}
use Rattle.mq_base.specs.declared.plan.PlanNode.{PlanNode}
use Rattle.mq_base.specs.declared.plan.PlanOp.{PlanOp}
use Rattle.mq_base.specs.declared.plan.PlanOp.TheVariants as op
use Rattle.plan_algebra.specs.declared.facts.NodeFacts.{NodeFacts}
use Rattle.plan_algebra.specs.declared.kind.Kind.{Kind}
use Rattle.plan_algebra.specs.declared.kind.Kind.TheVariants as kind
use Rattle.plan_algebra.specs.Facts.{IsNodeAt, leaf_set}
use Rattle.plan_algebra.specs.Nodes.{leaf_node}
use Rattle.relation_profile.specs.declared.view.View.{View}
use Rattle.relation_profile.specs.Nodes.{AreTwoViews, IsOneView, one_after, two_after}
use Rattle.relation_profile.specs.Profile.{Profile}
use Rattle.relation_profile.specs.Steps.{leaf_profile}
use Rattle.relation_profile.specs.View.{view_of}
use Rattle.view_authority.specs.Authority.{may}
use Rattle.view_authority.specs.Breaches.{breach}
use Rattle.view_authority.specs.declared.breach.Breach.{Breach}
use Rattle.view_authority.proofs.BreachLaws.{exactly}
use Rattle.extended_plan.specs.declared.job.Job.{Job}
use Rattle.extended_plan.specs.declared.state.State.{State}
use Rattle.extended_plan.proofs.ViewLaws.{fits}
use Rattle.extended_plan.specs.Gains.{leaf_gain, one_profile, shown, two_profile}
use Rattle.extended_plan.specs.Job.{AreOperands, IsHeldAt, IsLeafState, IsOperand, IsStateAt, setting_of}
use Rattle.extended_plan.specs.Ready.{IfBase, IsLeafOf, IsReady}
use Rattle.extended_plan.specs.Setting.{Setting, is_base, kind_at, known_at, leaf_of, op_at, store_of}
use Rattle.extended_plan.specs.States.{state}
use Rattle.extended_plan.specs.Term.{Leaf}
use Rattle.extended_plan.specs.Validity.{may_hold, used_at}

-- a step on operands is that of the profiles
pub one_same : (job : Job) (o : PlanOp) (k : Kind) (st : State)
    → one_after job.facts job.clusters.scheme o k st.view ≡ one_profile (setting_of job) o k st
one_same job o kind.Leaf st = refl
one_same job o (kind.One x) st = refl
one_same job o (kind.Two x y) st = refl

pub two_same : (job : Job) (o : PlanOp) (k : Kind) (left right : State)
    → two_after job.facts job.clusters.scheme o k left.view right.view ≡ two_profile (setting_of job) o k left right
two_same job o kind.Leaf left right = refl
two_same job o (kind.One x) left right = refl
two_same job o (kind.Two x y) left right = refl

pub one_view : (job : Job) (k : Kind) (st : State) → IsOperand (setting_of job) k st → IsOneView job.facts k st.view
one_view job (kind.One x) st operand = operand.view
one_view job _ st operand = absurd operand

pub two_views : (job : Job) (k : Kind) (left right : State) → AreOperands (setting_of job) k left right
    → AreTwoViews job.facts k left.view right.view
two_views job (kind.Two x y) left right operands = (operands.0.view, operands.1.view)
two_views job _ left right operands = absurd operands

-- a judgement passes exactly where the subject may hold the table
pub passes : (plain sealed : ℕ) (p : Profile) (judgement : Result (Unit {0}) Breach) → judgement ≡ judged (breach plain sealed p) tt
    → is_ok judgement ≡ may plain sealed p
passes plain sealed p judgement is = ap is_ok is ∙ by_found (breach plain sealed p) (may plain sealed p) (exactly plain sealed p)
  where
    by_found : (found : Option Breach) (b : Bool) → (found ≡ None) ↔ (b ≡ true) → is_ok (judged {X = Unit {0}} found tt) ≡ b
    by_found None b law = sym (law.0 refl)
    by_found (Some x) true law = absurd (let none : Some x ≡ None = law.1 refl in cc)
    by_found (Some x) false law = refl

-- a pair of numbers that are tested equal
ids_same : (t u : TableId) → (u.0 == t.0) ≡ true → u ≡ t
ids_same t u same = let numbers : u.0 ≡ t.0 = grind (arith, nat_tests, same) in
    let table : ℕ → TableId = λ n. record { 0 = n } in
    ap table numbers

-- what is known of the leaf that is found for a table
pub record IsFound (s : Setting) (n : ℕ) (t : TableId) : Type 0 where
  pub below : n < length s.basis.nodes
  pub leaf : IsLeafOf s n t
  pub kind : kind_at s n ≡ kind.Leaf
  pub used : leaf_set (op_at s n) ≡ (known_at s n).visible.0

is_leaf : (facts : ℕ → NodeFacts) (n : ℕ) (o : PlanOp) (k : Kind) (t : TableId) → is_base t o ≡ true → IsNodeAt facts n o k
    → (k ≡ kind.Leaf) × (leaf_set o ≡ (facts n).visible.0)
is_leaf facts n (op.Base u used) kind.Leaf t base at = (refl, rw at refl)
is_leaf facts n (op.Base u used) (kind.One x) t base at = absurd at.stands
is_leaf facts n (op.Base u used) (kind.Two x y) t base at = absurd at.stands
is_leaf facts n (op.Project kept) k t base at = cc
is_leaf facts n (op.SelConst a cmp x) k t base at = cc
is_leaf facts n (op.SelCount cmp x) k t base at = cc
is_leaf facts n (op.SelAttr a cmp b) k t base at = cc
is_leaf facts n op.Product k t base at = cc
is_leaf facts n (op.Join a cmp b) k t base at = cc
is_leaf facts n (op.Group by aggs count) k t base at = cc

leaf_of_table : (s : Setting) (n : ℕ) (o : PlanOp) (t : TableId) → is_base t o ≡ true → IfBase o (IsLeafOf s n) → IsLeafOf s n t
leaf_of_table s n (op.Base u used) t base leaf = subst (IsLeafOf s n) (ids_same t u base) leaf
leaf_of_table s n (op.Project kept) t base leaf = cc
leaf_of_table s n (op.SelConst a cmp x) t base leaf = cc
leaf_of_table s n (op.SelCount cmp x) t base leaf = cc
leaf_of_table s n (op.SelAttr a cmp b) t base leaf = cc
leaf_of_table s n op.Product t base leaf = cc
leaf_of_table s n (op.Join a cmp b) t base leaf = cc
leaf_of_table s n (op.Group by aggs count) t base leaf = cc

pub found_is : (s : Setting) (n : ℕ) (t : TableId) → IsReady s → leaf_of s t ≡ Some n → IsFound s n t
found_is s n t ready found =
    let d : PlanNode = leaf_node (record { 0 = 0 }) (record { 0 = 0 }) in
    let place = position-Some (λ (node : PlanNode). is_base t node.op) s.basis.nodes n d found in
    let base : is_base t (op_at s n) ≡ true = place.1 in
    let facts = is_leaf (known_at s) n (op_at s n) (kind_at s n) t base (ready.facts.node n place.0) in
    record {
      below = place.0;
      leaf = leaf_of_table s n (op_at s n) t base (ready.leaves n place.0);
      kind = facts.0;
      used = facts.1;
    }

-- a state at the store of a table, with the view of its leaf, is that of the leaf, and one of the node
pub leaf_same : (s : Setting) (n : ℕ) (t : TableId) (st : State) → IsReady s → leaf_of s t ≡ Some n → st.holder ≡ store_of s t
    → st.view ≡ view_of (leaf_profile s.policy.rest.0 (known_at s n).visible.0) → st ≡ state s (Leaf t)
leaf_same s n t st ready found stored viewed =
    let used : used_at s t ≡ (known_at s n).visible.0 =
    ap (λ (at : Option ℕ). option_map_or (λ (m : ℕ). leaf_set (op_at s m)) at 0) found ∙ (found_is s n t ready found).used in
    sym (ap (λ (v : View). record { holder = store_of s t; view = v }) (ap (λ u. view_of (leaf_profile s.policy.rest.0 u)) used ∙ sym viewed)
    ∙ ap (λ (h : SubjectId). record { holder = h; view = st.view }) (sym stored))

pub leaf_stands : (s : Setting) (n : ℕ) (t : TableId) → IsReady s → leaf_of s t ≡ Some n → IsStateAt s n (state s (Leaf t))
leaf_stands s n t ready found =
    record { known = (found_is s n t ready found).leaf.stored; view = (fits s ready (Leaf t) n found refl).view }

-- so it is gained where the store may hold it
pub leaf_gained : (s : Setting) (n : ℕ) (t : TableId) (st : State) → IsReady s → leaf_of s t ≡ Some n → st ≡ state s (Leaf t)
    → (if may_hold s st.holder (shown s n st) then Some st else None) ≡ leaf_gain s t
leaf_gained s n t st ready found is =
    ap (λ (st : State). if may_hold s st.holder (shown s n st) then Some st else None) is
    ∙ ap (λ (p : Profile). if may_hold s (store_of s t) p then Some (state s (Leaf t)) else None) (fits s ready (Leaf t) n found refl).shows

-- and is a state at its leaf
pub leaf_within : (s : Setting) (n : ℕ) (t : TableId) (held : Bool) (st : State) → leaf_of s t ≡ Some n → IsStateAt s n st
    → may_hold s st.holder (shown s n st) ≡ held → IfSome (if held then Some st else None) (IsLeafState s t)
leaf_within s n t true st found at held = λ m there.
    subst (λ k. IsHeldAt s k st) (let both : Some n ≡ Some m = sym found ∙ there in cc) (record { at = at; held = held })
leaf_within s n t false st found at held = tt

-- Closed labels list the state of each term that stands at a node, with a label of at most its cost; so what a certificate shows
-- holds of every valid extended plan.
use Rattle.std.proofs.Common.{◌≡◌, ℕ, ◌+◌, ◌-◌, ◌^◌, ◌≤◌, true, List, Option, Some, None, if◌then◌else◌, sym, ◌∙◌, ap, arith, min}
use Rattle.std.specs.Prelude.{IfSome}
use Rattle.std.proofs.lemmas.Bool.{eq-eqb, eqb-true}
use Rattle.std.proofs.Math.Path.{subst}
use Rattle.base_laws.proofs.BoolLaws.{both, together}
use Rattle.cost_model.specs.Costs.{cut}
use Rattle.extended_plan.specs.declared.state.Entry.{Entry}
use Rattle.extended_plan.specs.declared.state.State.{State}
use Rattle.extended_plan.specs.Certificate.{IsCarried, IsListed, entries_at, is_goal}
use Rattle.extended_plan.specs.Gains.{Gain}
use Rattle.extended_plan.specs.Laws.{ClosedLabelsBound, LeastIsShown, NoneIsShown, StandsByStep}
use Rattle.extended_plan.specs.Setting.{Setting, kind_at, root}
use Rattle.extended_plan.specs.States.{cost, state}
use Rattle.extended_plan.specs.Term.{Term, Leaf, Enc, Dec, Send, Un, Bin, holder}
use Rattle.extended_plan.specs.Validity.{IsValid, StandsAt, profile}
use Rattle.extended_plan.proofs.EntryLaws.{Contains-label, least_goal-found}
use Rattle.extended_plan.proofs.TermLaws.{terms_gained}

-- a label that is found below a cut sum is below any cut number that is no less
below_cut : (sum whole top found : ℕ) → found ≤ min sum top → sum ≤ whole → found ≤ min whole top
below_cut sum whole top found below less = omega arith

-- what is carried from labels that are at most costs has a label of at most the costs with the step's
carried : (labels : List (List Entry)) (n label most : ℕ) (gained : Option Gain) (gain : Gain) (st : State) (whole : ℕ)
    → IfSome gained (IsCarried labels n label) → gained ≡ Some gain → label ≤ most → st ≡ gain.state → whole ≡ most + gain.cost
    → IsListed labels n st (cut whole)
carried labels n label most gained gain st whole all is enough arrives costs =
    let there : IsCarried labels n label gain = subst (λ o. IfSome o (IsCarried labels n label)) is all in
    subst (λ t. IsListed labels n t (cut whole)) (sym arrives) (record {
      label = there.label;
      listed = there.listed;
      enough = below_cut (label + gain.cost) whole (2 ^ 128 - 1) there.label there.enough (omega arith);
    })

-- a number below a cut number is below the number
pub uncut : (most label : ℕ) → label ≤ cut most → label ≤ most
uncut most label below = under most (2 ^ 128 - 1) label below
  where
    under : (most top label : ℕ) → label ≤ min most top → label ≤ most
    under most top label below = omega arith

-- closed labels bound every term
pub bound : ClosedLabelsBound
bound s ready labels closed n (Leaf t) at =
    subst (λ b. IfSome (if b then Some (state s (Leaf t)) else None) (λ st. IsListed labels n st 0)) at.held (closed.leaf t n at.gives)
bound s ready labels closed n (Enc a x) at =
    let by : StandsByStep s n (Enc a x) = terms_gained s ready n (Enc a x) at in
    let below : IsListed labels n (state s x) (cut (cost s x)) = bound s ready labels closed n x by.operands in
    carried labels n below.label (cost s x) _ by.gain (state s (Enc a x)) (cost s (Enc a x))
    (closed.enc n a (record { state = state s x; label = below.label }) (Contains-label _ _ _ below.listed)) by.gains
    (uncut (cost s x) below.label below.enough) by.gained.arrives by.gained.costs
bound s ready labels closed n (Dec a x) at =
    let by : StandsByStep s n (Dec a x) = terms_gained s ready n (Dec a x) at in
    let below : IsListed labels n (state s x) (cut (cost s x)) = bound s ready labels closed n x by.operands in
    carried labels n below.label (cost s x) _ by.gain (state s (Dec a x)) (cost s (Dec a x))
    (closed.dec n a (record { state = state s x; label = below.label }) (Contains-label _ _ _ below.listed)) by.gains
    (uncut (cost s x) below.label below.enough) by.gained.arrives by.gained.costs
bound s ready labels closed n (Send to x) at =
    let by : StandsByStep s n (Send to x) = terms_gained s ready n (Send to x) at in
    let below : IsListed labels n (state s x) (cut (cost s x)) = bound s ready labels closed n x by.operands in
    carried labels n below.label (cost s x) _ by.gain (state s (Send to x)) (cost s (Send to x))
    (closed.send n to (record { state = state s x; label = below.label }) (Contains-label _ _ _ below.listed)) by.gains
    (uncut (cost s x) below.label below.enough) by.gained.arrives by.gained.costs
bound s ready labels closed n (Un m x) at =
    let by : StandsByStep s n (Un m x) = terms_gained s ready n (Un m x) at in
    let on = by.operands.1 in
    let below : IsListed labels on.operand.0 (state s x) (cut (cost s x)) = bound s ready labels closed on.operand.0 x on.stands in
    subst (λ i. IsListed labels i (state s (Un m x)) (cut (cost s (Un m x)))) by.operands.0
    (carried labels m.0 below.label (cost s x) _ by.gain (state s (Un m x)) (cost s (Un m x))
    (closed.one m on.operand (record { state = state s x; label = below.label }) (ap (kind_at s) by.operands.0 ∙ on.kind)
    (Contains-label _ _ _ below.listed)) by.gains (uncut (cost s x) below.label below.enough) by.gained.arrives by.gained.costs)
bound s ready labels closed n (Bin m x y) at =
    let by : StandsByStep s n (Bin m x y) = terms_gained s ready n (Bin m x y) at in
    let on = by.operands.1 in
    let left : IsListed labels on.left_operand.0 (state s x) (cut (cost s x)) = bound s ready labels closed on.left_operand.0 x on.left in
    let right : IsListed labels on.right_operand.0 (state s y) (cut (cost s y)) = bound s ready labels closed on.right_operand.0 y on.right in
    subst (λ i. IsListed labels i (state s (Bin m x y)) (cut (cost s (Bin m x y)))) by.operands.0
    (carried labels m.0 (left.label + right.label) (cost s x + cost s y) _ by.gain (state s (Bin m x y)) (cost s (Bin m x y))
    (closed.two m on.left_operand on.right_operand (record { state = state s x; label = left.label }) (record { state = state s y; label = right.label })
    (ap (kind_at s) by.operands.0 ∙ on.kind) (Contains-label _ _ _ left.listed) (Contains-label _ _ _ right.listed)) by.gains
    (sums left.label right.label (cost s x) (cost s y) (uncut (cost s x) left.label left.enough) (uncut (cost s y) right.label right.enough))
    by.gained.arrives by.gained.costs)
  where
    sums : (l r c d : ℕ) → l ≤ c → r ≤ d → l + r ≤ c + d
    sums l r c d left right = omega arith

-- a term at the root is valid exactly where its state is a goal
pub goal_valid : (s : Setting) (x : Term) → IsValid s x → is_goal s (state s x) ≡ true
goal_valid s x valid =
    together _ _ (eq-eqb (holder s x).0 s.policy.user.0 (ap (λ h. h.0) valid.by_user)) (eq-eqb (profile s x).visible_encrypted 0 valid.opened)

pub valid_goal : (s : Setting) (x : Term) → StandsAt s (root s) x → is_goal s (state s x) ≡ true → IsValid s x
valid_goal s x at goal = record {
  stands = at;
  by_user = ap (λ i. record { 0 = i }) (eqb-true (holder s x).0 s.policy.user.0 (both _ _ goal).0);
  opened = eqb-true (profile s x).visible_encrypted 0 (both _ _ goal).1;
}

-- no valid extended plan costs less than what a certificate shows as the least
pub least_shown : LeastIsShown
least_shown s ready labels steps least shows x valid =
    let there : IsListed labels (root s) (state s x) (cut (cost s x)) = bound s ready labels shows.labelling.closed (root s) x valid.stands in
    let up = least_goal-found s (entries_at labels (root s)) (state s x) there.label (goal_valid s x valid) there.listed in
    let same : Some up.least ≡ Some least = sym up.is ∙ shows.goal in
    let one : up.least ≡ least = cc in
    let label_up : up.least ≤ there.label = up.enough in
    let cost_up : there.label ≤ cost s x = uncut (cost s x) there.label there.enough in
    omega arith

-- there is none where a certificate shows that there is none
pub none_shown : NoneIsShown
none_shown s ready labels shows x valid =
    let there : IsListed labels (root s) (state s x) (cut (cost s x)) = bound s ready labels shows.labelling.closed (root s) x valid.stands in
    let up = least_goal-found s (entries_at labels (root s)) (state s x) there.label (goal_valid s x valid) there.listed in
    let same : Some up.least ≡ None = sym up.is ∙ shows.goal in
    cc

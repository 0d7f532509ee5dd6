-- Blocks that are done settle the state of each term that stands at their nodes, with a label of at most its cost, cut.
use Rattle.std.proofs.Common.{◌≡◌, ℕ, ◌+◌, ◌-◌, ◌^◌, ◌≤◌, ◌<◌, true, List, length, Option, Some, None, if◌then◌else◌, refl, sym, ◌∙◌, ap, arith, min}
use Rattle.std.specs.Prelude.{IfSome}
use Rattle.std.proofs.lemmas.List.Quantifiers.{position-Some}
use Rattle.std.proofs.Math.Path.{subst}
use Rattle.base_laws.proofs.ListLaws.{position-below}
use Rattle.mq_base.specs.declared.ids.TableId.{TableId}
use Rattle.mq_base.specs.declared.plan.PlanNode.{PlanNode}
use Rattle.mq_base.specs.declared.plan.PlanOp.{PlanOp}
use Rattle.mq_base.specs.declared.plan.PlanOp.TheVariants as op
use Rattle.cost_model.specs.Costs.{cut}
use Rattle.plan_algebra.specs.declared.facts.NodeFacts.{NodeFacts}
use Rattle.plan_algebra.specs.declared.kind.Kind.{Kind}
use Rattle.plan_algebra.specs.declared.kind.Kind.TheVariants as kind
use Rattle.plan_algebra.specs.Facts.{IsNodeAt}
use Rattle.plan_algebra.specs.Nodes.{leaf_node}
use Rattle.extended_plan.specs.declared.state.State.{State}
use Rattle.extended_plan.specs.Gains.{Gain, dec_gain, enc_gain, one_gain, send_gain, two_gain}
use Rattle.extended_plan.specs.Laws.{IsGained, StandsByStep}
use Rattle.extended_plan.specs.Ready.{IsReady}
use Rattle.extended_plan.specs.Setting.{Setting, is_base, kind_at, known_at, leaf_of, op_at}
use Rattle.extended_plan.specs.States.{cost, state}
use Rattle.extended_plan.specs.Term.{Term, Leaf, Enc, Dec, Send, Un, Bin}
use Rattle.extended_plan.specs.Validity.{StandsAt}
use Rattle.extended_plan.proofs.PlaceLaws.{one_known, two_known}
use Rattle.extended_plan.proofs.TermLaws.{terms_gained}
use Rattle.assign_table.specs.declared.way.Settled.{Settled}
use Rattle.assign_table.specs.inside.Blocks.{IsArrived, IsBlockClosed, IsGainSettled, IsPlaceOf, IsSettledAt}
use Rattle.assign_table.specs.inside.Ways.{settled_at}

-- the leaf of a table is of the kind of a leaf
base_kind : (facts : ℕ → NodeFacts) (n : ℕ) (t : TableId) (o : PlanOp) (k : Kind) → IsNodeAt facts n o k → is_base t o ≡ true → k ≡ kind.Leaf
base_kind facts n t (op.Base u used) kind.Leaf at is = refl
base_kind facts n t (op.Base u used) (kind.One x) at is = absurd at.stands
base_kind facts n t (op.Base u used) (kind.Two x y) at is = absurd at.stands
base_kind facts n t _ k at is = cc

pub leaf_kind : (s : Setting) → IsReady s → (t : TableId) (n : ℕ) → leaf_of s t ≡ Some n → kind_at s n ≡ kind.Leaf
leaf_kind s ready t n gives =
    let below : n < length s.basis.nodes = position-below (λ (node : PlanNode). is_base t node.op) s.basis.nodes n gives in
    let found = position-Some (λ (node : PlanNode). is_base t node.op) s.basis.nodes n (leaf_node (record { 0 = 0 }) (record { 0 = 0 })) gives in
    base_kind (known_at s) n t (op_at s n) (kind_at s n) (ready.facts.node n below) found.1

-- the nodes of closed blocks
abbrev pub AreClosed : Setting → List Settled → List ℕ → ℕ → Type 0
AreClosed s arena starts n = (m : ℕ) → m < n → IsBlockClosed s arena starts m

-- a label that is found below a cut sum is below any cut number that is no less
below_cut : (sum whole top found : ℕ) → found ≤ min sum top → sum ≤ whole → found ≤ min whole top
below_cut sum whole top found below less = omega arith

uncut : (most label : ℕ) → label ≤ cut most → label ≤ most
uncut most label below = under most (2 ^ 128 - 1) label below
  where
    under : (most top label : ℕ) → label ≤ min most top → label ≤ most
    under most top label below = omega arith

-- what is gained from labels that are at most costs has a label of at most the costs with the step's
carried : (arena : List Settled) (starts : List ℕ) (n label most : ℕ) (gained : Option Gain) (gain : Gain) (st : State) (whole : ℕ)
    → IfSome gained (IsGainSettled arena starts n label) → gained ≡ Some gain → label ≤ most → st ≡ gain.state → whole ≡ most + gain.cost
    → IsSettledAt arena starts n st (cut whole)
carried arena starts n label most gained gain st whole all is enough arrives costs =
    let there : IsGainSettled arena starts n label gain = subst (λ o. IfSome o (IsGainSettled arena starts n label)) is all in
    record {
      place = there.place;
      inside = there.inside;
      same = there.same ∙ sym arrives;
      enough = below_cut (label + gain.cost) whole (2 ^ 128 - 1) _ there.enough (omega (arith, enough, costs));
    }

-- what a step gains from the settled state of a term
stepped : (arena : List Settled) (starts : List ℕ) (n m : ℕ) (s : Setting) (x y : Term) (gain : Gain) (gains : State → Option Gain)
    → IsSettledAt arena starts m (state s x) (cut (cost s x))
    → ((w : ℕ) → IsPlaceOf starts m w → IfSome (gains (settled_at arena w).state) (IsGainSettled arena starts n (settled_at arena w).label))
    → gains (state s x) ≡ Some gain → state s y ≡ gain.state → cost s y ≡ cost s x + gain.cost
    → IsSettledAt arena starts n (state s y) (cut (cost s y))
stepped arena starts n m s x y gain gains below closed is arrives costs =
    carried arena starts n (settled_at arena below.place).label (cost s x) _ gain (state s y) (cost s y) (closed below.place below.inside)
    (ap gains below.same ∙ is) (uncut (cost s x) _ below.enough) arrives costs

-- what an operation on two gains from the settled states of two terms
joined : (arena : List Settled) (starts : List ℕ) (n l r : ℕ) (s : Setting) (x y z : Term) (gain : Gain) (gains : State → State → Option Gain)
    → IsSettledAt arena starts l (state s x) (cut (cost s x)) → IsSettledAt arena starts r (state s y) (cut (cost s y))
    → ((v w : ℕ) → IsPlaceOf starts l v → IsPlaceOf starts r w → IfSome (gains (settled_at arena v).state (settled_at arena w).state)
    (IsGainSettled arena starts n ((settled_at arena v).label + (settled_at arena w).label)))
    → gains (state s x) (state s y) ≡ Some gain → state s z ≡ gain.state → cost s z ≡ cost s x + cost s y + gain.cost
    → IsSettledAt arena starts n (state s z) (cut (cost s z))
joined arena starts n l r s x y z gain gains left right closed is arrives costs =
    carried arena starts n ((settled_at arena left.place).label + (settled_at arena right.place).label) (cost s x + cost s y) _ gain (state s z) (cost s z)
    (closed left.place right.place left.inside right.inside)
    (ap (λ st. gains st (settled_at arena right.place).state) left.same ∙ ap (gains (state s x)) right.same ∙ is)
    (omega (arith, uncut (cost s x) _ left.enough, uncut (cost s y) _ right.enough)) arrives costs

-- closed blocks settle every term
pub bound : (s : Setting) → IsReady s → (arena : List Settled) (starts : List ℕ) (done : ℕ) → AreClosed s arena starts done
    → (x : Term) (n : ℕ) → n < done → StandsAt s n x → IsSettledAt arena starts n (state s x) (cut (cost s x))
bound s ready arena starts done closed (Leaf t) n below at =
    subst (λ b. IfSome (if b then Some (state s (Leaf t)) else None) (λ st. IsSettledAt arena starts n st 0)) at.held
    (subst (IsArrived s arena starts n) (leaf_kind s ready t n at.gives) (closed n below).arrived t at.gives)
bound s ready arena starts done closed (Enc a x) n below at =
    let by : StandsByStep s n (Enc a x) = terms_gained s ready n (Enc a x) at in
    let gained : IsGained s n (Enc a x) by.gain = by.gained in
    stepped arena starts n n s x (Enc a x) by.gain (enc_gain s n a) (bound s ready arena starts done closed x n below by.operands)
    (λ w inside. (closed n below).enc w a inside) by.gains gained.arrives gained.costs
bound s ready arena starts done closed (Dec a x) n below at =
    let by : StandsByStep s n (Dec a x) = terms_gained s ready n (Dec a x) at in
    let gained : IsGained s n (Dec a x) by.gain = by.gained in
    stepped arena starts n n s x (Dec a x) by.gain (dec_gain s n a) (bound s ready arena starts done closed x n below by.operands)
    (λ w inside. (closed n below).dec w a inside) by.gains gained.arrives gained.costs
bound s ready arena starts done closed (Send to x) n below at =
    let by : StandsByStep s n (Send to x) = terms_gained s ready n (Send to x) at in
    let gained : IsGained s n (Send to x) by.gain = by.gained in
    stepped arena starts n n s x (Send to x) by.gain (send_gain s n to) (bound s ready arena starts done closed x n below by.operands)
    (λ w inside. (closed n below).send w to inside) by.gains gained.arrives gained.costs
bound s ready arena starts done closed (Un m x) n below at =
    let by : StandsByStep s n (Un m x) = terms_gained s ready n (Un m x) at in
    let gained : IsGained s n (Un m x) by.gain = by.gained in
    let on = by.operands.1 in
    let same : m.0 ≡ n = by.operands.0 in
    let is : kind_at s m.0 ≡ kind.One on.operand = ap (kind_at s) same ∙ on.kind in
    let lower : on.operand.0 < m.0 = (one_known s ready m.0 on.operand is).below in
    let under : m.0 < done = omega (arith, same, below) in
    subst (λ i. IsSettledAt arena starts i (state s (Un m x)) (cut (cost s (Un m x)))) same
    (stepped arena starts m.0 on.operand.0 s x (Un m x) by.gain (one_gain s m)
    (bound s ready arena starts done closed x on.operand.0 (omega (arith, lower, under)) on.stands)
    (subst (IsArrived s arena starts m.0) is (closed m.0 under).arrived) by.gains gained.arrives gained.costs)
bound s ready arena starts done closed (Bin m x y) n below at =
    let by : StandsByStep s n (Bin m x y) = terms_gained s ready n (Bin m x y) at in
    let gained : IsGained s n (Bin m x y) by.gain = by.gained in
    let on = by.operands.1 in
    let same : m.0 ≡ n = by.operands.0 in
    let is : kind_at s m.0 ≡ kind.Two on.left_operand on.right_operand = ap (kind_at s) same ∙ on.kind in
    let lower = two_known s ready m.0 on.left_operand on.right_operand is in
    let under : m.0 < done = omega (arith, same, below) in
    subst (λ i. IsSettledAt arena starts i (state s (Bin m x y)) (cut (cost s (Bin m x y)))) same
    (joined arena starts m.0 on.left_operand.0 on.right_operand.0 s x y (Bin m x y) by.gain (two_gain s m)
    (bound s ready arena starts done closed x on.left_operand.0 (omega (arith, lower.left_below, lower.right_below, under)) on.left)
    (bound s ready arena starts done closed y on.right_operand.0 (omega (arith, lower.right_below, under)) on.right)
    (subst (IsArrived s arena starts m.0) is (closed m.0 under).arrived) by.gains gained.arrives gained.costs)

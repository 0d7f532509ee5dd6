-- What a step gains is what it makes of the states, where the new holder may hold that; and it makes states of its node.
use Rattle.std.proofs.Common.{◌≡◌, ℕ, ◌*◌, ◌<◌, ◌==◌, Bool, true, false, length, Option, Some, None, refl, sym, ◌∙◌, ap, arith}
use Rattle.std.specs.Prelude.{◌&&◌, if◌then◌else◌, option_map, IfSome, nat_lt, not}
use Rattle.std.proofs.lemmas.Bool.Decides.{nat_tests, Decides-eqb}
use Rattle.mq_base.specs.declared.ids.NodeId.{NodeId}
use Rattle.mq_base.specs.declared.ids.SubjectId.{SubjectId}
use Rattle.mq_base.specs.declared.plan.PlanOp.{PlanOp}
use Rattle.mq_base.specs.declared.plan.Step.{Step}
use Rattle.mq_base.specs.declared.plan.Step.TheVariants as step
use Rattle.cost_model.specs.Costs.{Basis, cut, load, net_of, sending, step_work}
use Rattle.plan_algebra.specs.declared.kind.Kind.{Kind}
use Rattle.plan_algebra.specs.declared.kind.Kind.TheVariants as kind
use Rattle.plan_algebra.specs.Facts.{IsNodeAt}
use Rattle.relation_profile.specs.declared.view.View.{View}
use Rattle.relation_profile.specs.Nodes.{AreTwoViews, two_after}
use Rattle.relation_profile.specs.Profile.{Profile}
use Rattle.relation_profile.specs.Runnable.{run_dec, run_enc, run_one, run_two}
use Rattle.relation_profile.specs.View.{IsView, profile_of, view_of}
use Rattle.relation_profile.proofs.ViewLaws.{dec_answer_stands, dec_answer_within, enc_answer_stands, enc_answer_within, one_answer_stands, one_answer_within, two_answer_stands, two_answer_within}
use Rattle.extended_plan.specs.declared.job.Job.{Job}
use Rattle.extended_plan.specs.declared.state.State.{State}
use Rattle.extended_plan.specs.Gains.{Gain, held, one_profile, shown, step_gain, two_profile}
use Rattle.extended_plan.specs.Job.{AreOperands, IsOperand, IsStateAt, IsStepAt, setting_of, told}
use Rattle.extended_plan.specs.Ready.{IsReady}
use Rattle.extended_plan.specs.Setting.{Setting, kind_at, known_at, op_at, schemes}
use Rattle.extended_plan.specs.Validity.{may_get, may_hold}
use Rattle.extended_plan.specs.Ran.{at_holder, gained, joined, ran, sent}

-- a view stands at a node for the profile of which it is the view
abbrev Stands : Setting → ℕ → Option Profile → Type 0
Stands s n p = option_map (profile_of (known_at s n)) (option_map view_of p) ≡ p

-- what is gained by work to a state
abbrev pub worked : Setting → ℕ → ℕ → Option State → Option Gain
worked s n work None = None
worked s n work (Some new) = if may_hold s new.holder (shown s n new) then Some (record { state = new; cost = work }) else None

gained_is : (s : Setting) (n : NodeId) (step : Step) (from : State) (new : Option State)
    → worked s n.0 (step_work s.basis step from.holder.0 n.0 from.view) new ≡ gained s n step from new
gained_is s n step from None = refl
gained_is s n step from (Some new) = refl

pub held_parts : (s : Setting) (n : ℕ) (holder : SubjectId) (p : Option Profile) (work : ℕ) → Stands s n p
    → held s holder p work ≡ worked s n work (at_holder holder (option_map view_of p))
held_parts s n holder None work stands = refl
held_parts s n holder (Some p) work stands =
    let same : profile_of (known_at s n) (view_of p) ≡ p = cc in
    let gain : Gain = record { state = record { holder = holder; view = view_of p }; cost = work } in
    ap (λ (q : Profile). if may_hold s holder q then Some gain else None) (sym same)

sent_parts : (s : Setting) (n : ℕ) (st : State) (to : SubjectId) (work : ℕ) (b : Bool)
    → (if b then held s to (Some (shown s n st)) work else None)
    ≡ worked s n work (if b then Some (record { holder = to; view = st.view }) else None)
sent_parts s n st to work true = refl
sent_parts s n st to work false = refl

if_parts : (s : Setting) (n work : ℕ) (b : Bool) (gain : Option Gain) (new : Option State) → gain ≡ worked s n work new
    → (if b then gain else None) ≡ worked s n work (if b then new else None)
if_parts s n work true gain new same = same
if_parts s n work false gain new same = refl

one_stands : (s : Setting) (n : ℕ) (o : PlanOp) (k : Kind) (st : State) → IsNodeAt (known_at s) n o k → IsOperand s k st
    → Stands s n (one_profile s o k st)
one_stands s n o (kind.One x) st node operand =
    one_answer_stands (schemes s) o (known_at s x.0) (known_at s n) st.view (option_map view_of (run_one (schemes s) o (shown s x.0 st))) node.are refl
one_stands s n o _ st node operand = absurd operand

two_stands : (s : Setting) (n : ℕ) (o : PlanOp) (k : Kind) (left right : State) → IsNodeAt (known_at s) n o k → AreOperands s k left right
    → Stands s n (two_profile s o k left right)
two_stands s n o (kind.Two x y) left right node operands =
    two_answer_stands (schemes s) o (known_at s x.0) (known_at s y.0) (known_at s n) left.view right.view
    (option_map view_of (run_two (schemes s) o (shown s x.0 left) (shown s y.0 right))) node.are node.stands operands.0.view operands.1.view refl
two_stands s n o _ left right node operands = absurd operands

-- the node at which a step's result is
node_is : (s : Setting) (n : ℕ) → IsReady s → n < length s.basis.nodes → IsNodeAt (known_at s) n (op_at s n) (kind_at s n)
node_is s n ready below = ready.facts.node n below

-- a step gains what it makes of the states, where the new holder may hold that
pub gain_parts : (s : Setting) (n : NodeId) (step : Step) (first : State) (second : Option State) → IsReady s → IsStepAt s n step first second
    → step_gain s n step first second ≡ gained s n step first (ran s n step first second)
gain_parts s n (step.Enc a) st None ready at =
    held_parts s n.0 st.holder (run_enc a.0 (shown s n.0 st)) (step_work s.basis (step.Enc a) st.holder.0 n.0 st.view)
    (enc_answer_stands a.0 (known_at s n.0) st.view (option_map view_of (run_enc a.0 (shown s n.0 st))) refl)
    ∙ gained_is s n (step.Enc a) st (ran s n (step.Enc a) st None)
gain_parts s n (step.Dec a) st None ready at =
    held_parts s n.0 st.holder (run_dec a.0 (shown s n.0 st)) (step_work s.basis (step.Dec a) st.holder.0 n.0 st.view)
    (dec_answer_stands a.0 (known_at s n.0) st.view (option_map view_of (run_dec a.0 (shown s n.0 st))) at.taken.view refl)
    ∙ gained_is s n (step.Dec a) st (ran s n (step.Dec a) st None)
gain_parts s n (step.Send to) st None ready at =
    sent_parts s n.0 st to (step_work s.basis (step.Send to) st.holder.0 n.0 st.view) (may_get s st.holder to)
    ∙ gained_is s n (step.Send to) st (ran s n (step.Send to) st None)
gain_parts s n (step.Un m) st None ready at =
    held_parts s n.0 st.holder (one_profile s (op_at s n.0) (kind_at s n.0) st) (step_work s.basis (step.Un m) st.holder.0 n.0 st.view)
    (one_stands s n.0 (op_at s n.0) (kind_at s n.0) st (node_is s n.0 ready at.node) at.taken.1)
    ∙ gained_is s n (step.Un m) st (ran s n (step.Un m) st None)
gain_parts s n (step.Bin m) st (Some other) ready at =
    if_parts s n.0 (step_work s.basis (step.Bin m) st.holder.0 n.0 st.view) (st.holder.0 == other.holder.0)
    (held s st.holder (two_profile s (op_at s n.0) (kind_at s n.0) st other) (step_work s.basis (step.Bin m) st.holder.0 n.0 st.view))
    (at_holder st.holder (option_map view_of (two_profile s (op_at s n.0) (kind_at s n.0) st other)))
    (held_parts s n.0 st.holder (two_profile s (op_at s n.0) (kind_at s n.0) st other) (step_work s.basis (step.Bin m) st.holder.0 n.0 st.view)
    (two_stands s n.0 (op_at s n.0) (kind_at s n.0) st other (node_is s n.0 ready at.node) at.taken.1))
    ∙ gained_is s n (step.Bin m) st (ran s n (step.Bin m) st (Some other))
gain_parts s n _ st second ready at = absurd at.taken

-- a state of a known holder with a view of a node is one of the node
holder_stands : (s : Setting) (n : ℕ) (holder : SubjectId) (view : Option View) → holder.0 < length s.policy.subjects
    → IfSome view (IsView (known_at s n)) → IfSome (at_holder holder view) (IsStateAt s n)
holder_stands s n holder None known within = tt
holder_stands s n holder (Some view) known within = record { known = known; view = within }

if_stands : (s : Setting) (n : ℕ) (b : Bool) (new : Option State) → IfSome new (IsStateAt s n) → IfSome (if b then new else None) (IsStateAt s n)
if_stands s n true new stands = stands
if_stands s n false new stands = tt

sent_stands : (s : Setting) (n : ℕ) (st : State) (to : SubjectId) → IsStateAt s n st → IfSome (sent s st to) (IsStateAt s n)
sent_stands s n st to at = by_tests (nat_lt to.0 (length s.policy.subjects)) (not (to.0 == st.holder.0)) refl
  where
    by_tests : (known other : Bool) → nat_lt to.0 (length s.policy.subjects) ≡ known
        → IfSome (if known && other then Some (record { holder = to; view = st.view }) else None) (IsStateAt s n)
    by_tests true true is = record { known = grind (arith, nat_tests, is); view = at.view }
    by_tests true false is = tt
    by_tests false other is = tt

one_within : (s : Setting) (n : ℕ) (o : PlanOp) (k : Kind) (st : State) → IsNodeAt (known_at s) n o k → IsOperand s k st
    → IfSome (at_holder st.holder (option_map view_of (one_profile s o k st))) (IsStateAt s n)
one_within s n o (kind.One x) st node operand =
    holder_stands s n st.holder (option_map view_of (run_one (schemes s) o (shown s x.0 st))) operand.known
    (one_answer_within (schemes s) o (known_at s x.0) (known_at s n) st.view (option_map view_of (run_one (schemes s) o (shown s x.0 st)))
    node.are operand.view refl)
one_within s n o _ st node operand = absurd operand

two_within : (s : Setting) (n : ℕ) (o : PlanOp) (k : Kind) (left right : State) → IsNodeAt (known_at s) n o k → AreOperands s k left right
    → IfSome (at_holder left.holder (option_map view_of (two_profile s o k left right))) (IsStateAt s n)
two_within s n o (kind.Two x y) left right node operands =
    holder_stands s n left.holder (option_map view_of (run_two (schemes s) o (shown s x.0 left) (shown s y.0 right))) operands.0.known
    (two_answer_within (schemes s) o (known_at s x.0) (known_at s y.0) (known_at s n) left.view right.view
    (option_map view_of (run_two (schemes s) o (shown s x.0 left) (shown s y.0 right))) node.are node.stands operands.0.view operands.1.view refl)
two_within s n o _ left right node operands = absurd operands

-- a step makes a state of its node
pub ran_stands : (s : Setting) (n : NodeId) (step : Step) (first : State) (second : Option State) → IsReady s → IsStepAt s n step first second
    → IfSome (ran s n step first second) (IsStateAt s n.0)
ran_stands s n (step.Enc a) st None ready at =
    holder_stands s n.0 st.holder (option_map view_of (run_enc a.0 (shown s n.0 st))) at.taken.known
    (enc_answer_within a.0 (known_at s n.0) st.view (option_map view_of (run_enc a.0 (shown s n.0 st))) at.taken.view refl)
ran_stands s n (step.Dec a) st None ready at =
    holder_stands s n.0 st.holder (option_map view_of (run_dec a.0 (shown s n.0 st))) at.taken.known
    (dec_answer_within a.0 (known_at s n.0) st.view (option_map view_of (run_dec a.0 (shown s n.0 st))) at.taken.view refl)
ran_stands s n (step.Send to) st None ready at = sent_stands s n.0 st to at.taken
ran_stands s n (step.Un m) st None ready at =
    one_within s n.0 (op_at s n.0) (kind_at s n.0) st (node_is s n.0 ready at.node) at.taken.1
ran_stands s n (step.Bin m) st (Some other) ready at =
    if_stands s n.0 (st.holder.0 == other.holder.0) (at_holder st.holder (option_map view_of (two_profile s (op_at s n.0) (kind_at s n.0) st other)))
    (two_within s n.0 (op_at s n.0) (kind_at s n.0) st other (node_is s n.0 ready at.node) at.taken.1)
ran_stands s n _ st second ready at = absurd at.taken

-- what is told of a step that came to this state
pub told_of : (s : Setting) (n : NodeId) (step : Step) (first : State) (second : Option State) (st : State) (b : Bool) (work : ℕ)
    → IsReady s → IsStepAt s n step first second → Some st ≡ ran s n step first second → may_hold s st.holder (shown s n.0 st) ≡ b
    → work ≡ cut (step_work s.basis step first.holder.0 n.0 first.view)
    → (if b then Some (st, work) else None) ≡ option_map told (step_gain s n step first second)
told_of s n step first second st b work ready at is holds costs =
    let gain : Gain = record { state = st; cost = step_work s.basis step first.holder.0 n.0 first.view } in
    sym (ap (option_map told) (gain_parts s n step first second ready at ∙ ap (gained s n step first) (sym is)
    ∙ ap (λ (c : Bool). if c then Some gain else None) holds)
    ∙ by_test b)
  where
    by_test : (c : Bool) → option_map told (if c then Some (record { state = st; cost = step_work s.basis step first.holder.0 n.0 first.view }) else None)
        ≡ (if c then Some (st, work) else None)
    by_test true = ap (λ (w : ℕ). Some (st, w)) (sym costs)
    by_test false = refl

-- what is told of a step that came to none
pub told_none : (s : Setting) (n : NodeId) (step : Step) (first : State) (second : Option State) → IsReady s → IsStepAt s n step first second
    → None ≡ ran s n step first second → None ≡ option_map told (step_gain s n step first second)
told_none s n step first second ready at is =
    sym (ap (option_map told) (gain_parts s n step first second ready at ∙ ap (gained s n step first) (sym is)))

-- the work of a send of this many bytes
pub sent_work : (s : Setting) (base : Basis) (from to n : ℕ) (view : View) (bytes work : ℕ) → base ≡ s.basis → bytes ≡ load s.basis n view
    → work ≡ cut (bytes * net_of base.prices from to) → work ≡ cut (sending s.basis from to n view)
sent_work s base from to n view bytes work same all is =
    is ∙ ap (λ (k : ℕ). cut (k * net_of base.prices from to)) all
    ∙ ap (λ (b : Basis). cut (load s.basis n view * net_of b.prices from to)) same

-- what a call makes of two operands is what the setting makes of them
pub two_viewed : (job : Job) (k : Kind) (left right : State) → AreOperands (setting_of job) k left right → AreTwoViews job.facts k left.view right.view
two_viewed job (kind.Two x y) left right operands = (operands.0.view, operands.1.view)
two_viewed job _ left right operands = absurd operands

pub two_same : (job : Job) (o : PlanOp) (k : Kind) (left right : State)
    → two_after job.facts job.clusters.scheme o k left.view right.view ≡ two_profile (setting_of job) o k left right
two_same job o kind.Leaf left right = refl
two_same job o (kind.One x) left right = refl
two_same job o (kind.Two x y) left right = refl

-- operands of one holder are joined
pub joined_is : (s : Setting) (n : NodeId) (left right : State) (view : Option View) (made : Option State) → left.holder.0 ≡ right.holder.0
    → view ≡ option_map view_of (two_profile s (op_at s n.0) (kind_at s n.0) left right) → made ≡ at_holder left.holder view
    → made ≡ joined s n left right
joined_is s n left right view made one_holder answers is =
    is ∙ ap (at_holder left.holder) answers
    ∙ sym (ap (λ (b : Bool). if b then at_holder left.holder (option_map view_of (two_profile s (op_at s n.0) (kind_at s n.0) left right)) else None)
    ((Decides-eqb left.holder.0 right.holder.0).1 one_holder))

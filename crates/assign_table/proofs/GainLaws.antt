-- Steps that gain nothing, and loops over the steps that may gain something.
use Rattle.std.proofs.Common.{◌≡◌, ℕ, ◌+◌, ◌-◌, ◌^◌, ◌≤◌, ◌<◌, ◌⊎◌, inl, inr, Bool, true, false, ◌&&◌, ◌==◌, not, List, length, Option, Some, None, Result, Ok, Err, OnOk, if◌then◌else◌, refl, sym, ◌∙◌, ap, subst, true≢false, arith, nat_lt}
use Rattle.std.specs.Prelude.{IfSome, option_map}
use Rattle.std.proofs.lemmas.Bool.{eqb-true, le-ltb}
use Rattle.base_laws.specs.Sets.{has, without, IsWithin}
use Rattle.base_laws.proofs.MemberLaws.{without-within}
use Rattle.base_laws.proofs.SetLaws.{has-empty, has-single, has-without}
use Rattle.mq_base.specs.declared.ids.SubjectId.{SubjectId}
use Rattle.mq_base.specs.declared.ids.NodeId.{NodeId}
use Rattle.mq_base.specs.declared.plan.Step.{Step}
use Rattle.mq_base.specs.declared.plan.Step.TheVariants as step
use Rattle.cost_model.specs.Costs.{cut, step_work}
use Rattle.extended_plan.specs.declared.state.State.{State}
use Rattle.extended_plan.specs.Gains.{Gain, across, held, send_gain, shown, step_gain}
use Rattle.extended_plan.specs.Job.{IsHeldAt, IsStateAt, IsTakenOn, told}
use Rattle.extended_plan.specs.Ready.{IsReady}
use Rattle.extended_plan.specs.Setting.{Setting}
use Rattle.assign_table.specs.declared.cell.Cell.{Cell}
use Rattle.assign_table.specs.declared.way.Settled.{Settled}
use Rattle.assign_table.specs.declared.way.Way.TheVariants as way
use Rattle.assign_table.specs.inside.Crossing.{crossed_label}
use Rattle.assign_table.specs.inside.Cells.{IsListedOn}
use Rattle.assign_table.specs.inside.Settling.{AreTried, AreTriedBut, Continues, IsClosedOn, IsGainListed, ShowsCrowd, Stays}
use Rattle.assign_table.specs.inside.Sheet.{IsOffered, IsRefused, Sheet}
use Rattle.assign_table.proofs.ArenaLaws.{below-or-above, below-or-last}
use Rattle.assign_table.proofs.SettleLaws.{continues-offered, crowd-gained, cut-both, gain-later, gain-listed}

-- what a call told of a gain
pub record IsTold (found : Option Gain) (st : State) (paid : ℕ) : Type 0 where
  pub gain : Gain
  pub is : found ≡ Some gain
  pub state : gain.state ≡ st
  pub cost : cut gain.cost ≡ paid

pub told-gain : (found : Option Gain) (answer : State × ℕ) → Some answer ≡ option_map told found → IsTold found answer.0 answer.1
told-gain None answer is = cc
told-gain (Some gain) answer is =
    let same : answer ≡ told gain = cc in
    record { gain = gain; is = refl; state = sym (ap (λ (p : State × ℕ). p.0) same); cost = sym (ap (λ (p : State × ℕ). p.1) same) }

pub told-none : (found : Option Gain) → None ≡ option_map told found → found ≡ None
told-none None is = refl
told-none (Some gain) is = cc

-- a step that stays is taken on a state at its node
pub stays-taken : (s : Setting) (n : NodeId) (act : Step) (st : State) → Stays act → IsStateAt s n.0 st → IsTakenOn s n act st None
stays-taken s n (step.Enc a) st stays known = known
stays-taken s n (step.Dec a) st stays known = known
stays-taken s n (step.Send to) st stays known = known
stays-taken s n (step.Base t) st stays known = absurd stays
stays-taken s n (step.Un m) st stays known = absurd stays
stays-taken s n (step.Bin m) st stays known = absurd stays

-- what follows from two facts of a success is one of it
pub on-both : {E P Q R : Type 0} (r : Result (Unit {0}) E) → (P → Q → R) → OnOk r P → OnOk r Q → OnOk r R
on-both (Ok done) rule first second = rule first second
on-both (Err e) rule first second = tt

-- a step that gains nothing lists all that it gains
pub none-listed : (s : Setting) (n : NodeId) (act : Step) (e : Settled) (cells : List (State × Cell))
    → None ≡ option_map told (step_gain s n act e.state None) → IfSome (step_gain s n act e.state None) (IsGainListed cells e.label)
none-listed s n act e cells answers =
    subst (λ gain. IfSome gain (IsGainListed cells e.label)) (sym (told-none (step_gain s n act e.state None) answers)) tt

module _ (s : Setting) (ready : IsReady s) (n : NodeId) (room at : ℕ) (e : Settled) (held : IsHeldAt s n.0 e.state) (act : Step) (stays : Stays act)
    (st : State) (cost label : ℕ)
    (answers : Some (st, cost) ≡ option_map told (step_gain s n act e.state None)) (sum : label ≡ cut (e.label + cost)) where
  gain_told : IsTold (step_gain s n act e.state None) st cost
  gain_told = told-gain (step_gain s n act e.state None) (st, cost) answers

  sum_told : label ≡ cut (e.label + gain_told.gain.cost)
  sum_told = sum ∙ ap (λ k. cut (e.label + k)) (sym gain_told.cost) ∙ cut-both e.label gain_told.gain.cost (2 ^ 128 - 1)

  offered_told : (old new : Sheet) → IsOffered old st label (way.One act at) new → IsOffered old gain_told.gain.state label (way.One act at) new
  offered_told old new offered = subst (λ st. IsOffered old st label (way.One act at) new) (sym gain_told.state) offered

  -- a step that gains something was offered
  pub step-continues : (old new : Sheet) → e.label ≤ label → IsHeldAt s n.0 st → IsOffered old st label (way.One act at) new
      → (length old.cells ≤ room → length new.cells ≤ room) → Continues s n.0 room at e old new
  step-continues old new high known offered within =
      continues-offered s ready n room at e held act stays gain_told.gain gain_told.is old new label sum_told high (offered_told old new offered)
      (subst (IsHeldAt s n.0) (sym gain_told.state) known) within

  -- and what it gains is listed
  pub step-listed : (old new : Sheet) → IsOffered old st label (way.One act at) new
      → IfSome (step_gain s n act e.state None) (IsGainListed new.cells e.label)
  step-listed old new offered =
      subst (λ gain. IfSome gain (IsGainListed new.cells e.label)) (sym gain_told.is)
      (gain-listed s ready n room at e held act stays gain_told.gain gain_told.is old new label sum_told (offered_told old new offered))

  -- or it was refused
  pub step-crowd : (old : Sheet) → IsRefused room old st → ShowsCrowd s n.0 room at e old
  step-crowd old refused =
      crowd-gained s ready n room at e held act stays gain_told.gain gain_told.is old (subst (IsRefused room old) (sym gain_told.state) refused)

nothing-listed : (gain : Option Gain) (cells : List (State × Cell)) (label : ℕ) → gain ≡ None → IfSome gain (IsGainListed cells label)
nothing-listed gain cells label none = subst (λ gain. IfSome gain (IsGainListed cells label)) (sym none) tt

-- a send to no subject of the policy gains nothing
pub sends-none : (s : Setting) (n : ℕ) (st : State) (to : SubjectId) (cells : List (State × Cell)) (label : ℕ)
    → length s.policy.subjects ≤ to.0 → IfSome (send_gain s n to st) (IsGainListed cells label)
sends-none s n st to cells label beyond =
    let none : nat_lt to.0 (length s.policy.subjects) ≡ false = le-ltb to.0 (length s.policy.subjects) beyond in
    nothing-listed (send_gain s n to st) cells label
    (ap (λ b. if b && not (to.0 == st.holder.0) then held s to (Some (shown s n st)) (step_work s.basis (step.Send to) st.holder.0 n st.view) else None) none)

-- the states across the attributes that are tried and not left are listed, and that across one more
pub tried-later : (s : Setting) (n room at : ℕ) (e : Settled) (old new : Sheet) → Continues s n room at e old new
    → AreTried s n old.cells e → AreTried s n new.cells e
tried-later s n room at e old new later tried = λ a crosses before.
    later.lower (across a e.state) (crossed_label s n a e) (tried a crosses before)

pub attributes-more : (s : Setting) (n room at : ℕ) (e : Settled) (old new : Sheet) (left next a : ℕ) → next ≡ without left (2 ^ a)
    → Continues s n room at e old new → AreTriedBut s n old.cells e left
    → IsListedOn new.cells (across a e.state) (crossed_label s n a e) → AreTriedBut s n new.cells e next
attributes-more s n room at e old new left next a less later before here b crosses tried gone = by_test (has left b) refl
  where
    both : (y : Bool) → (true && not y) ≡ false → y ≡ true
    both true is = refl
    both false is = absurd (true≢false is)

    by_test : (c : Bool) → has left b ≡ c → IsListedOn new.cells (across b e.state) (crossed_label s n b e)
    by_test false is = later.lower (across b e.state) (crossed_label s n b e) (before b crosses tried is)
    by_test true is =
        let split : (has left b && not (has (2 ^ a) b)) ≡ false =
        sym (has-without left (2 ^ a) b) ∙ ap (λ set. has set b) (sym less) ∙ gone in
        let single : has (2 ^ a) b ≡ true = both (has (2 ^ a) b) (ap (λ c. c && not (has (2 ^ a) b)) (sym is) ∙ split) in
        let same : a ≡ b = eqb-true a b (sym (has-single a b) ∙ single) in
        subst (λ k. IsListedOn new.cells (across k e.state) (crossed_label s n k e)) same here

-- what is left its holder sees plain
pub attributes-within : (left next all others : ℕ) → next ≡ without left others → IsWithin left all → IsWithin next all
attributes-within left next all others less within =
    subst (λ set. IsWithin set all) (sym less) (record { member = λ i there. within.member i ((without-within left others).member i there) })

-- and at last none is
pub attributes-all : (s : Setting) (n : ℕ) (e : Settled) (cells : List (State × Cell)) (left : ℕ) → left ≡ 0 → AreTriedBut s n cells e left
    → AreTried s n cells e
attributes-all s n e cells left end before a crosses tried = before a crosses tried (ap (λ set. has set a) end ∙ has-empty a)

-- each subject below one more was tried
pub subjects-more : (s : Setting) (n room at : ℕ) (e : Settled) (old new : Sheet) (i : ℕ) → Continues s n room at e old new
    → ((to : SubjectId) → to.0 < i → IfSome (send_gain s n to e.state) (IsGainListed old.cells e.label))
    → IfSome (send_gain s n (record { 0 = i }) e.state) (IsGainListed new.cells e.label)
    → (to : SubjectId) → to.0 < i + 1 → IfSome (send_gain s n to e.state) (IsGainListed new.cells e.label)
subjects-more s n room at e old new i later before here to below = by_order (below-or-last to.0 i below)
  where
    by_order : (to.0 < i) ⊎ (to.0 ≡ i) → IfSome (send_gain s n to e.state) (IsGainListed new.cells e.label)
    by_order (inl less) = gain-later s n room at e old new later e.label (send_gain s n to e.state) (before to less)
    by_order (inr same) = subst (λ k. IfSome (send_gain s n (record { 0 = k }) e.state) (IsGainListed new.cells e.label)) (sym same) here

-- and so all were
pub subjects-all : (s : Setting) (n : ℕ) (e : Settled) (sheet : Sheet) (i : ℕ) → length s.policy.subjects ≤ i
    → ((to : SubjectId) → to.0 < i → IfSome (send_gain s n to e.state) (IsGainListed sheet.cells e.label))
    → (to : SubjectId) → IfSome (send_gain s n to e.state) (IsGainListed sheet.cells e.label)
subjects-all s n e sheet i end before to = by_order (below-or-above to.0 i)
  where
    by_order : (to.0 < i) ⊎ (i ≤ to.0) → IfSome (send_gain s n to e.state) (IsGainListed sheet.cells e.label)
    by_order (inl less) = before to less
    by_order (inr beyond) = sends-none s n e.state to sheet.cells e.label (omega arith)

-- all encryptions and decryptions were tried, and then all sends
pub steps-closed : (s : Setting) (n room at : ℕ) (e : Settled) (old new : Sheet) → AreTried s n old.cells e
    → Continues s n room at e old new → ((to : SubjectId) → IfSome (send_gain s n to e.state) (IsGainListed new.cells e.label))
    → IsClosedOn s n new.cells e
steps-closed s n room at e old new tried later sends =
    record { tried = tried-later s n room at e old new later tried; send = sends }

-- What a list of steps comes to by the tables on the stack is what it comes to by the terms for which they stand.
use Rattle.std.proofs.Common.{◌≡◌, ℕ, suc, ◌+◌, ◌-◌, ◌^◌, ◌==◌, Bool, true, false, ◌&&◌, min, List, [], ◌∷◌, Option, Some, None, Result, Ok, Err, refl, sym, ◌∙◌, ap, arith}
use Rattle.std.specs.Prelude.{is_none, option_map, if◌then◌else◌}
use Rattle.std.specs.Option.{option_map_or}
use Rattle.std.proofs.Math.Path.{subst}
use Rattle.base_laws.specs.Firsts.{judged}
use Rattle.base_laws.specs.Sets.{has}
use Rattle.base_laws.proofs.BoolLaws.{together}
use Rattle.mq_base.specs.declared.ids.AttrId.{AttrId}
use Rattle.mq_base.specs.declared.ids.NodeId.{NodeId}
use Rattle.mq_base.specs.declared.ids.SubjectId.{SubjectId}
use Rattle.mq_base.specs.declared.ids.TableId.{TableId}
use Rattle.mq_base.specs.declared.plan.Step.{Step}
use Rattle.mq_base.specs.declared.plan.Step.TheVariants as step
use Rattle.cost_model.specs.Costs.{cut, step_work}
use Rattle.policy_base.specs.Accepted.{plain_of, sealed_of}
use Rattle.relation_profile.specs.Profile.{Profile}
use Rattle.relation_profile.specs.Runnable.{run_dec, run_enc, run_one, run_two, runs_one, runs_two}
use Rattle.relation_profile.specs.Steps.{after_dec, after_enc, after_one, after_two}
use Rattle.relation_profile.specs.View.{view_of}
use Rattle.view_authority.specs.Breaches.{breach}
use Rattle.step_check.specs.declared.stack.Slot.{Slot}
use Rattle.extended_plan.specs.declared.state.State.{State}
use Rattle.extended_plan.specs.declared.step_no.StepWhy.{StepWhy}
use Rattle.extended_plan.specs.declared.step_no.StepWhy.TheVariants.{NotThePlan, NotRunnable, Breach, NotTheGoal}
use Rattle.extended_plan.specs.Certificate.{is_goal}
use Rattle.extended_plan.specs.Gains.{one_profile, shown, two_profile}
use Rattle.extended_plan.specs.Ready.{IsReady}
use Rattle.extended_plan.specs.Setting.{Setting, kind_at, leaf_of, op_at, schemes}
use Rattle.extended_plan.specs.States.{cost, state, work_on}
use Rattle.extended_plan.specs.StepList.{breach_of, end_fault, is_root, outcome_after, steps_outcome, stopped, term_fault, totals_of}
use Rattle.extended_plan.specs.Term.{Term, Leaf, Enc, Dec, Send, Un, Bin, holder, node_of, stands_on, stands_on_both}
use Rattle.extended_plan.specs.Validity.{authorised, is_held, may_get, profile, runnable}
use Rattle.extended_plan.specs.Ran.{at_holder, ran}
use Rattle.step_check.specs.inside.Slots.{above, breach_at, last_slot, leaf_at, one_slot, passed, placed, slots_outcome, stepped, two_slot}
use Rattle.extended_plan.proofs.ListLaws.{clear_held}
use Rattle.extended_plan.proofs.PlaceLaws.{one_operand, two_operands}
use Rattle.extended_plan.proofs.ViewLaws.{fits}

-- a table stands for a term that is right
record Stands (s : Setting) (slot : Slot) (x : Term) : Type 0 where
  gives : node_of s x ≡ Some slot.node.0
  arrives : state s x ≡ slot.state
  costs : cut (cost s x) ≡ slot.cost
  runs : runnable s x ≡ true
  held : authorised s x ≡ true

-- tables stand for terms, each for one
abbrev AllStand : Setting → List Slot → List Term → Type 0
AllStand s [] [] = Unit {0}
AllStand s (slot ∷ slots) (x ∷ terms) = Stands s slot x × AllStand s slots terms
AllStand s _ _ = ⊥

-- a table, or why there is none, is what a term comes to
abbrev IsOf : Setting → Result Slot StepWhy → Term → Type 0
IsOf s (Ok slot) z = (term_fault s z ≡ None) × Stands s slot z
IsOf s (Err why) z = term_fault s z ≡ Some why

-- the fault of a term that gives a node, and of one that gives none
there_fault : (s : Setting) (z : Term) (n : ℕ) (runs : Bool) → node_of s z ≡ Some n → runnable s z ≡ runs
    → term_fault s z ≡ (if runs then breach_of s z else Some NotRunnable)
there_fault s z n runs gives is =
    ap (λ o. if is_none o then Some NotThePlan else if runnable s z then breach_of s z else Some NotRunnable) gives
    ∙ ap (λ b. if b then breach_of s z else Some NotRunnable) is

none_fault : (s : Setting) (z : Term) → node_of s z ≡ None → term_fault s z ≡ Some NotThePlan
none_fault s z gives = ap (λ o. if is_none o then Some NotThePlan else if runnable s z then breach_of s z else Some NotRunnable) gives

-- the table that a step places is what the term comes to that it makes
placed_is : (s : Setting) → IsReady s → (z : Term) (n : NodeId) (total : ℕ) (new : Option State) (runs : Bool) → node_of s z ≡ Some n.0
    → runnable s z ≡ runs → new ≡ (if runs then Some (state s z) else None) → (is_held s z ≡ true → authorised s z ≡ true)
    → cut (cost s z) ≡ total → IsOf s (placed s n total new) z
placed_is s ready z n total new false gives runs is held costs =
    subst (λ o. IsOf s (placed s n total o) z) (sym is) (there_fault s z n.0 false gives runs)
placed_is s ready z n total new true gives runs is held costs =
    subst (λ o. IsOf s (placed s n total o) z) (sym is)
    (subst (λ o. IsOf s (judged o table) z) (sym breaches) (by_breach (breach_of s z) refl))
  where
    table : Slot
    table = record { node = n; state = state s z; cost = total }

    breaches : breach_at s n (state s z) ≡ breach_of s z
    breaches =
        ap (λ p. option_map (Breach (holder s z)) (breach (plain_of s.policy (holder s z).0) (sealed_of s.policy (holder s z).0) p))
        (fits s ready z n.0 gives runs).shows

    by_breach : (o : Option StepWhy) → breach_of s z ≡ o → IsOf s (judged o table) z
    by_breach None clear = (
      there_fault s z n.0 true gives runs ∙ clear,
      record { gives = gives; arrives = refl; costs = costs; runs = runs; held = held (clear_held s z clear) },
    )
    by_breach (Some why) found = there_fault s z n.0 true gives runs ∙ found

-- the leaf of a table
leaf_is : (s : Setting) → IsReady s → (t : TableId) (place : Option ℕ) → leaf_of s t ≡ place → IsOf s (leaf_at s t place) (Leaf t)
leaf_is s ready t None gives = none_fault s (Leaf t) gives
leaf_is s ready t (Some n) gives =
    placed_is s ready (Leaf t) (record { 0 = n }) 0 (Some (state s (Leaf t))) true gives refl refl (λ held. held) refl

-- what a state shows is the profile of the term
shows : (s : Setting) → IsReady s → (x : Term) (n : ℕ) → node_of s x ≡ Some n → runnable s x ≡ true → shown s n (state s x) ≡ profile s x
shows s ready x n gives runs = (fits s ready x n gives runs).shows

-- a holder's state after a step that runs where a test passes
tested : (b : Bool) (h : SubjectId) (p : Profile)
    → at_holder h (option_map view_of (if b then Some p else None)) ≡ (if b then Some (record { holder = h; view = view_of p }) else None)
tested true h p = refl
tested false h p = refl

tested_both : (alike runs : Bool) (h : SubjectId) (p : Profile)
    → (if alike then at_holder h (option_map view_of (if runs then Some p else None)) else None)
    ≡ (if alike && runs then Some (record { holder = h; view = view_of p }) else None)
tested_both true runs h p = tested runs h p
tested_both false runs h p = refl

-- a cost that is cut before the next is added is that of the sum, cut
min_more : (m paid work : ℕ) → min (paid + work) m ≡ min (min paid m + work) m
min_more m paid work = omega arith

cut_more : (paid work : ℕ) → cut (paid + work) ≡ cut (cut paid + work)
cut_more paid work = min_more (2 ^ 128 - 1) paid work

min_both : (m left right : ℕ) → min (left + right) m ≡ min (min left m + min right m) m
min_both m left right = omega arith

cut_both : (left right : ℕ) → cut (left + right) ≡ cut (cut left + cut right)
cut_both left right = min_both (2 ^ 128 - 1) left right

-- the cost of a step on a table is that of the step on its term
worked : (s : Setting) (taking : Step) (slot : Slot) (x : Term) → Stands s slot x
    → cut (cost s x + work_on s taking x) ≡ cut (slot.cost + step_work s.basis taking slot.state.holder.0 slot.node.0 slot.state.view)
worked s taking slot x at =
    ap (λ o. cut (cost s x + option_map_or (λ n. step_work s.basis taking (holder s x).0 n (view_of (profile s x))) o 0)) at.gives
    ∙ ap (λ (st : State). cut (cost s x + step_work s.basis taking st.holder.0 slot.node.0 st.view)) at.arrives
    ∙ cut_more (cost s x) (step_work s.basis taking slot.state.holder.0 slot.node.0 slot.state.view)
    ∙ ap (λ paid. cut (paid + step_work s.basis taking slot.state.holder.0 slot.node.0 slot.state.view)) at.costs

-- an encryption, a decryption and a send
enc_is : (s : Setting) → IsReady s → (a : AttrId) (slot : Slot) (x : Term) → Stands s slot x
    → IsOf s (stepped s slot.node (step.Enc a) slot.cost slot.state None) (Enc a x)
enc_is s ready a slot x at =
    placed_is s ready (Enc a x) slot.node _ _ (has (profile s x).visible_plain a.0) at.gives
    (ap (λ b. b && has (profile s x).visible_plain a.0) at.runs)
    (ap (λ (st : State). at_holder st.holder (option_map view_of (run_enc a.0 (shown s slot.node.0 st)))) (sym at.arrives)
    ∙ ap (λ p. at_holder (holder s x) (option_map view_of (run_enc a.0 p))) (shows s ready x slot.node.0 at.gives at.runs)
    ∙ tested (has (profile s x).visible_plain a.0) (holder s x) (after_enc a.0 (profile s x)))
    (λ held. together _ _ at.held held)
    (worked s (step.Enc a) slot x at)

dec_is : (s : Setting) → IsReady s → (a : AttrId) (slot : Slot) (x : Term) → Stands s slot x
    → IsOf s (stepped s slot.node (step.Dec a) slot.cost slot.state None) (Dec a x)
dec_is s ready a slot x at =
    placed_is s ready (Dec a x) slot.node _ _ (has (profile s x).visible_encrypted a.0) at.gives
    (ap (λ b. b && has (profile s x).visible_encrypted a.0) at.runs)
    (ap (λ (st : State). at_holder st.holder (option_map view_of (run_dec a.0 (shown s slot.node.0 st)))) (sym at.arrives)
    ∙ ap (λ p. at_holder (holder s x) (option_map view_of (run_dec a.0 p))) (shows s ready x slot.node.0 at.gives at.runs)
    ∙ tested (has (profile s x).visible_encrypted a.0) (holder s x) (after_dec a.0 (profile s x)))
    (λ held. together _ _ at.held held)
    (worked s (step.Dec a) slot x at)

send_is : (s : Setting) → IsReady s → (to : SubjectId) (slot : Slot) (x : Term) → Stands s slot x
    → IsOf s (stepped s slot.node (step.Send to) slot.cost slot.state None) (Send to x)
send_is s ready to slot x at =
    placed_is s ready (Send to x) slot.node _ _ (may_get s (holder s x) to) at.gives
    (ap (λ b. b && may_get s (holder s x) to) at.runs)
    (ap (λ (st : State). if may_get s st.holder to then Some (record { holder = to; view = st.view }) else None) (sym at.arrives))
    (λ held. together _ _ at.held held)
    (worked s (step.Send to) slot x at)

-- an operation on one operand
one_is : (s : Setting) → IsReady s → (n : NodeId) (slot : Slot) (x : Term) → Stands s slot x → IsOf s (one_slot s n slot) (Un n x)
one_is s ready n slot x at = by_test (stands_on (kind_at s n.0) (Some slot.node.0)) refl
  where
    given : (b : Bool) → stands_on (kind_at s n.0) (Some slot.node.0) ≡ b → node_of s (Un n x) ≡ (if b then Some n.0 else None)
    given b is =
        ap (λ o. if stands_on (kind_at s n.0) o then Some n.0 else None) at.gives ∙ ap (λ b. if b then Some n.0 else None) is

    runs_at : node_of s (Un n x) ≡ Some n.0
        → ran s n (step.Un n) slot.state None
        ≡ (if runs_one (schemes s) (op_at s n.0) (profile s x) then Some (state s (Un n x)) else None)
    runs_at gives =
        let on = (one_operand s n n.0 x gives).1 in
        ap (λ (st : State). at_holder st.holder (option_map view_of (one_profile s (op_at s n.0) (kind_at s n.0) st))) (sym at.arrives)
        ∙ ap (λ k. at_holder (holder s x) (option_map view_of (one_profile s (op_at s n.0) k (state s x)))) on.kind
        ∙ ap (λ p. at_holder (holder s x) (option_map view_of (run_one (schemes s) (op_at s n.0) p))) (shows s ready x on.operand.0 on.gives at.runs)
        ∙ tested (runs_one (schemes s) (op_at s n.0) (profile s x)) (holder s x) (after_one (op_at s n.0) (profile s x))

    costs : cut (cost s (Un n x)) ≡ cut (slot.cost + step_work s.basis (step.Un n) slot.state.holder.0 n.0 slot.state.view)
    costs =
        ap (λ (st : State). cut (cost s x + step_work s.basis (step.Un n) st.holder.0 n.0 st.view)) at.arrives
        ∙ cut_more (cost s x) (step_work s.basis (step.Un n) slot.state.holder.0 n.0 slot.state.view)
        ∙ ap (λ paid. cut (paid + step_work s.basis (step.Un n) slot.state.holder.0 n.0 slot.state.view)) at.costs

    by_test : (b : Bool) → stands_on (kind_at s n.0) (Some slot.node.0) ≡ b
        → IsOf s (if b then stepped s n (step.Un n) slot.cost slot.state None else Err NotThePlan) (Un n x)
    by_test false is = none_fault s (Un n x) (given false is)
    by_test true is =
        placed_is s ready (Un n x) n _ _ (runs_one (schemes s) (op_at s n.0) (profile s x)) (given true is)
        (ap (λ b. b && runs_one (schemes s) (op_at s n.0) (profile s x)) at.runs)
        (runs_at (given true is))
        (λ held. together _ _ at.held held)
        costs

-- an operation on two operands
two_is : (s : Setting) → IsReady s → (n : NodeId) (left right : Slot) (x y : Term) → Stands s left x → Stands s right y
    → IsOf s (two_slot s n left right) (Bin n x y)
two_is s ready n left right x y at other =
    by_test (stands_on_both (kind_at s n.0) (Some left.node.0) (Some right.node.0)) refl
  where
    runs : Bool
    runs = runs_two (schemes s) (op_at s n.0) (profile s x) (profile s y)

    alike : Bool
    alike = (holder s x).0 == (holder s y).0

    given : (b : Bool) → stands_on_both (kind_at s n.0) (Some left.node.0) (Some right.node.0) ≡ b
        → node_of s (Bin n x y) ≡ (if b then Some n.0 else None)
    given b is =
        ap (λ o. if stands_on_both (kind_at s n.0) o (node_of s y) then Some n.0 else None) at.gives
        ∙ ap (λ o. if stands_on_both (kind_at s n.0) (Some left.node.0) o then Some n.0 else None) other.gives
        ∙ ap (λ b. if b then Some n.0 else None) is

    runs_at : node_of s (Bin n x y) ≡ Some n.0
        → ran s n (step.Bin n) left.state (Some right.state) ≡ (if alike && runs then Some (state s (Bin n x y)) else None)
    runs_at gives =
        let on = (two_operands s n n.0 x y gives).1 in
        ap (λ (st : State). ran s n (step.Bin n) st (Some right.state)) (sym at.arrives)
        ∙ ap (λ (st : State). ran s n (step.Bin n) (state s x) (Some st)) (sym other.arrives)
        ∙ ap (λ k. if alike then at_holder (holder s x) (option_map view_of (two_profile s (op_at s n.0) k (state s x) (state s y))) else None) on.kind
        ∙ ap (λ p. if alike then at_holder (holder s x) (option_map view_of (run_two (schemes s) (op_at s n.0) p (shown s on.right_operand.0 (state s y)))) else None)
        (shows s ready x on.left_operand.0 on.left_gives at.runs)
        ∙ ap (λ q. if alike then at_holder (holder s x) (option_map view_of (run_two (schemes s) (op_at s n.0) (profile s x) q)) else None)
        (shows s ready y on.right_operand.0 on.right_gives other.runs)
        ∙ tested_both alike runs (holder s x) (after_two (op_at s n.0) (profile s x) (profile s y))

    work : ℕ
    work = step_work s.basis (step.Bin n) left.state.holder.0 n.0 left.state.view

    costs : cut (cost s (Bin n x y)) ≡ cut (cut (left.cost + right.cost) + work)
    costs =
        ap (λ (st : State). cut (cost s x + cost s y + step_work s.basis (step.Bin n) st.holder.0 n.0 st.view)) at.arrives
        ∙ cut_more (cost s x + cost s y) work
        ∙ ap (λ paid. cut (paid + work)) (cut_both (cost s x) (cost s y))
        ∙ ap (λ paid. cut (cut (paid + cut (cost s y)) + work)) at.costs
        ∙ ap (λ paid. cut (cut (left.cost + paid) + work)) other.costs

    by_test : (b : Bool) → stands_on_both (kind_at s n.0) (Some left.node.0) (Some right.node.0) ≡ b
        → IsOf s (if b then stepped s n (step.Bin n) (cut (left.cost + right.cost)) left.state (Some right.state) else Err NotThePlan) (Bin n x y)
    by_test false is = none_fault s (Bin n x y) (given false is)
    by_test true is =
        placed_is s ready (Bin n x y) n _ _ (alike && runs) (given true is)
        (ap (λ b. b && (runnable s y && (alike && runs))) at.runs ∙ ap (λ b. b && (alike && runs)) other.runs)
        (runs_at (given true is))
        (λ held. together _ _ at.held (together _ _ other.held held))
        costs

-- what is left after a step that makes a table, by the tables and by the terms
on_goes : (s : Setting) (place : ℕ) (table : Result Slot StepWhy) (z : Term) (slots : List Slot) (terms : List Term) (rest : List Step)
    → IsOf s table z → AllStand s slots terms
    → ((next : List Slot) (nexts : List Term) → AllStand s next nexts → slots_outcome s next (suc place) rest ≡ outcome_after s nexts (suc place) rest)
    → passed place (above slots table) (λ next. slots_outcome s next (suc place) rest)
    ≡ stopped place (term_fault s z) (outcome_after s (z ∷ terms) (suc place) rest)
on_goes s place (Ok slot) z slots terms rest is all later =
    later (slot ∷ slots) (z ∷ terms) (is.1, all) ∙ sym (ap (λ f. stopped place f (outcome_after s (z ∷ terms) (suc place) rest)) is.0)
on_goes s place (Err why) z slots terms rest is all later =
    sym (ap (λ f. stopped place f (outcome_after s (z ∷ terms) (suc place) rest)) is)

-- what a list comes to at its end
end_same : (s : Setting) (place : ℕ) (slot : Slot) (x : Term) → Stands s slot x
    → stopped place (last_slot s slot) (Ok (record { state = slot.state; cost = slot.cost })) ≡ stopped place (end_fault s x) (Ok (totals_of s x))
end_same s place slot x at =
    let fault : last_slot s slot ≡ end_fault s x =
    ap (λ o. if is_root s o then if is_goal s slot.state then None else Some NotTheGoal else Some NotThePlan) (sym at.gives)
    ∙ ap (λ st. if is_root s (node_of s x) then if is_goal s st then None else Some NotTheGoal else Some NotThePlan) (sym at.arrives) in
    ap (λ f. stopped place f (Ok (record { state = slot.state; cost = slot.cost }))) fault
    ∙ ap (λ st. stopped place (end_fault s x) (Ok (record { state = st; cost = slot.cost }))) (sym at.arrives)
    ∙ ap (λ c. stopped place (end_fault s x) (Ok (record { state = state s x; cost = c }))) (sym at.costs)

-- what the steps that are left come to, by the tables and by the terms
same_after : (s : Setting) → IsReady s → (slots : List Slot) (terms : List Term) → AllStand s slots terms → (place : ℕ) (steps : List Step)
    → slots_outcome s slots place steps ≡ outcome_after s terms place steps
unfolding slots_outcome
same_after s ready [] [] all place [] = refl
same_after s ready (slot ∷ []) (x ∷ []) all place [] = end_same s place slot x all.0
same_after s ready (slot ∷ other ∷ slots) (x ∷ y ∷ terms) all place [] = refl
same_after s ready (slot ∷ []) (x ∷ y ∷ terms) all place [] = absurd all.1
same_after s ready (slot ∷ other ∷ slots) (x ∷ []) all place [] = absurd all.1
same_after s ready [] (x ∷ terms) all place steps = absurd all
same_after s ready (slot ∷ slots) [] all place steps = absurd all
same_after s ready slots terms all place (step.Base t ∷ rest) =
    on_goes s place (leaf_at s t (leaf_of s t)) (Leaf t) slots terms rest (leaf_is s ready t (leaf_of s t) refl) all
    (λ next nexts stand. same_after s ready next nexts stand (suc place) rest)
same_after s ready [] [] all place (step.Enc a ∷ rest) = refl
same_after s ready (slot ∷ slots) (x ∷ terms) all place (step.Enc a ∷ rest) =
    on_goes s place _ (Enc a x) slots terms rest (enc_is s ready a slot x all.0) all.1
    (λ next nexts stand. same_after s ready next nexts stand (suc place) rest)
same_after s ready [] [] all place (step.Dec a ∷ rest) = refl
same_after s ready (slot ∷ slots) (x ∷ terms) all place (step.Dec a ∷ rest) =
    on_goes s place _ (Dec a x) slots terms rest (dec_is s ready a slot x all.0) all.1
    (λ next nexts stand. same_after s ready next nexts stand (suc place) rest)
same_after s ready [] [] all place (step.Send to ∷ rest) = refl
same_after s ready (slot ∷ slots) (x ∷ terms) all place (step.Send to ∷ rest) =
    on_goes s place _ (Send to x) slots terms rest (send_is s ready to slot x all.0) all.1
    (λ next nexts stand. same_after s ready next nexts stand (suc place) rest)
same_after s ready [] [] all place (step.Un n ∷ rest) = refl
same_after s ready (slot ∷ slots) (x ∷ terms) all place (step.Un n ∷ rest) =
    on_goes s place _ (Un n x) slots terms rest (one_is s ready n slot x all.0) all.1
    (λ next nexts stand. same_after s ready next nexts stand (suc place) rest)
same_after s ready [] [] all place (step.Bin n ∷ rest) = refl
same_after s ready (slot ∷ []) (x ∷ []) all place (step.Bin n ∷ rest) = refl
same_after s ready (slot ∷ []) (x ∷ y ∷ terms) all place (step.Bin n ∷ rest) = absurd all.1
same_after s ready (slot ∷ other ∷ slots) (x ∷ []) all place (step.Bin n ∷ rest) = absurd all.1
same_after s ready (right ∷ left ∷ slots) (y ∷ x ∷ terms) all place (step.Bin n ∷ rest) =
    on_goes s place _ (Bin n x y) slots terms rest (two_is s ready n left right x y all.1.0 all.0) all.1.1
    (λ next nexts stand. same_after s ready next nexts stand (suc place) rest)

-- what a list comes to by the tables is what it comes to
pub same_outcome : (s : Setting) → IsReady s → (steps : List Step) → slots_outcome s [] 0 steps ≡ steps_outcome s steps
same_outcome s ready steps = same_after s ready [] [] tt 0 steps

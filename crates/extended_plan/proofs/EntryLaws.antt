-- Looking states up among entries: what a label that is found tells, and what the least label of a goal tells.
use Rattle.std.proofs.Common.{◌≡◌, ℕ, ◌≤◌, Bool, true, false, List, [], ◌∷◌, Option, Some, None, if◌then◌else◌, refl, ◌∙◌, ap, arith, min, All}
use Rattle.std.specs.Prelude.{IfSome}
use Rattle.std.specs.List.{Contains}
use Rattle.std.proofs.lemmas.Bool.{eq-eqb, eqb-true}
use Rattle.std.proofs.lemmas.List.Elements.{All-head, All-tail, Contains-append_right, Contains-get_or}
use Rattle.std.proofs.Math.Path.{subst}
use Rattle.base_laws.proofs.BoolLaws.{both, together}
use Rattle.mq_base.specs.declared.attr_set.AttrSet.{AttrSet}
use Rattle.mq_base.specs.declared.ids.SubjectId.{SubjectId}
use Rattle.extended_plan.specs.declared.state.Entry.{Entry}
use Rattle.extended_plan.specs.declared.state.State.{State}
use Rattle.extended_plan.specs.Certificate.{is_goal, label_of, least_goal, least_with}
use Rattle.extended_plan.specs.Setting.{Setting}
use Rattle.extended_plan.specs.States.{state_eq}

-- the state of these parts
abbrev state_with : SubjectId → AttrSet → AttrSet → AttrSet → State
state_with holder enc ip ie = record { holder = holder; view = record { enc = enc; ip = ip; ie = ie } }

-- two states that the test takes for one are one, and it takes a state for itself
pub same_state : (s t : State) → state_eq s t ≡ true → s ≡ t
same_state s t same =
    let parts = both _ _ same in
    let sets = both _ _ parts.1 in
    let implicit = both _ _ sets.1 in
    ap (λ i. state_with (record { 0 = i }) s.view.enc s.view.ip s.view.ie) (eqb-true s.holder.0 t.holder.0 parts.0)
    ∙ ap (λ i. state_with t.holder (record { 0 = i }) s.view.ip s.view.ie) (eqb-true s.view.enc.0 t.view.enc.0 sets.0)
    ∙ ap (λ i. state_with t.holder t.view.enc (record { 0 = i }) s.view.ie) (eqb-true s.view.ip.0 t.view.ip.0 implicit.0)
    ∙ ap (λ i. state_with t.holder t.view.enc t.view.ip (record { 0 = i })) (eqb-true s.view.ie.0 t.view.ie.0 implicit.1)

pub state_eq-itself : (s : State) → state_eq s s ≡ true
state_eq-itself s =
    together _ _ (eq-eqb s.holder.0 s.holder.0 refl)
    (together _ _ (eq-eqb s.view.enc.0 s.view.enc.0 refl)
    (together _ _ (eq-eqb s.view.ip.0 s.view.ip.0 refl) (eq-eqb s.view.ie.0 s.view.ie.0 refl)))

-- the entry of a state and a label
abbrev entry_with : State → ℕ → Entry
entry_with st label = record { state = st; label = label }

-- a label that is found is that of an entry with this state
pub Contains-label : (es : List Entry) (st : State) (label : ℕ) → label_of es st ≡ Some label
    → Contains es (record { state = st; label = label })
Contains-label [] st label found = cc
Contains-label (e ∷ rest) st label found = by_test (state_eq e.state st) refl found (Contains-label rest st label)
  where
    by_test : (b : Bool) → state_eq e.state st ≡ b → (if b then Some e.label else label_of rest st) ≡ Some label
        → (label_of rest st ≡ Some label → Contains rest (record { state = st; label = label }))
        → Contains (e ∷ rest) (record { state = st; label = label })
    by_test true same is further =
        let one : e.label ≡ label = cc in
        subst (Contains (e ∷ rest)) (ap (λ t. entry_with t e.label) (same_state e.state st same) ∙ ap (entry_with st) one)
        (Contains-get_or (e ∷ rest) 0 e (omega arith))
    by_test false same is further = Contains-append_right (e ∷ []) rest (record { state = st; label = label }) (further is)

-- there is a least label, of at most so much
pub record IsUpTo (found : Option ℕ) (most : ℕ) : Type 0 where
  pub least : ℕ
  pub is : found ≡ Some least
  pub enough : least ≤ most

least_with-first : (n : ℕ) (other : Option ℕ) → least_with n other ≤ n
least_with-first n None = omega arith
least_with-first n (Some m) = omega arith

up_to-more : (b : Bool) (n : ℕ) (other : Option ℕ) (most : ℕ) → IsUpTo other most → IsUpTo (if b then Some (least_with n other) else other) most
up_to-more true n other most up =
    let with_other : least_with n other ≡ min n up.least = ap (least_with n) up.is in
    let enough : up.least ≤ most = up.enough in
    record { least = least_with n other; is = refl; enough = omega arith }
up_to-more false n other most up = up

-- the least label of a goal is at most that of any goal that is found
pub least_goal-found : (s : Setting) (es : List Entry) (st : State) (label : ℕ) → is_goal s st ≡ true → label_of es st ≡ Some label
    → IsUpTo (least_goal s es) label
least_goal-found s [] st label goal found = cc
least_goal-found s (e ∷ rest) st label goal found =
    by_test (state_eq e.state st) refl found (λ further. least_goal-found s rest st label goal further)
  where
    by_test : (b : Bool) → state_eq e.state st ≡ b → (if b then Some e.label else label_of rest st) ≡ Some label
        → (label_of rest st ≡ Some label → IsUpTo (least_goal s rest) label) → IsUpTo (least_goal s (e ∷ rest)) label
    by_test true same is further =
        let one : e.label ≡ label = cc in
        let first : least_with e.label (least_goal s rest) ≤ e.label = least_with-first e.label (least_goal s rest) in
        record {
          least = least_with e.label (least_goal s rest);
          is =
              ap (λ b. if b then Some (least_with e.label (least_goal s rest)) else least_goal s rest)
              (ap (is_goal s) (same_state e.state st same) ∙ goal);
          enough = omega arith;
        }
    by_test false same is further = up_to-more (is_goal s e.state) e.label (least_goal s rest) label (further is)

-- an entry that has at least this label, where it is a goal's; and one that is no goal's
abbrev pub IsGoalFrom : Setting → ℕ → Entry → Type 0
IsGoalFrom s low e = is_goal s e.state ≡ true → low ≤ e.label

abbrev pub IsNoGoal : Setting → Entry → Type 0
IsNoGoal s e = is_goal s e.state ≡ true → ⊥

-- where no goal has a label below a number, neither has the least
pub least_goal-above : (s : Setting) (low : ℕ) (es : List Entry) → All (IsGoalFrom s low) es
    → IfSome (least_goal s es) (λ least. low ≤ least)
least_goal-above s low [] all = tt
least_goal-above s low (e ∷ rest) all =
    by_test (is_goal s e.state) e.label (least_goal s rest) (All-head (IsGoalFrom s low) e rest all)
    (least_goal-above s low rest (All-tail (IsGoalFrom s low) e rest all))
  where
    by_test : (b : Bool) (n : ℕ) (other : Option ℕ) → (b ≡ true → low ≤ n) → IfSome other (λ least. low ≤ least)
        → IfSome (if b then Some (least_with n other) else other) (λ least. low ≤ least)
    by_test true n None here there = here refl
    by_test true n (Some m) here there = let first : low ≤ n = here refl in omega arith
    by_test false n other here there = there

-- where no goal is listed, there is no least label of one
pub least_goal-none : (s : Setting) (es : List Entry) → All (IsNoGoal s) es → least_goal s es ≡ None
least_goal-none s [] all = refl
least_goal-none s (e ∷ rest) all =
    by_test (is_goal s e.state) (All-head (IsNoGoal s) e rest all) (least_goal-none s rest (All-tail (IsNoGoal s) e rest all))
  where
    by_test : (b : Bool) → (b ≡ true → ⊥) → least_goal s rest ≡ None
        → (if b then Some (least_with e.label (least_goal s rest)) else least_goal s rest) ≡ None
    by_test true here there = absurd (here refl)
    by_test false here there = there

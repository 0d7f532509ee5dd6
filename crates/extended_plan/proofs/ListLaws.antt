-- A list of steps comes to a state and a cost exactly where it spells a valid extended plan: what the steps make and what terms spell
-- undo each other, and each term that was made on the way stands.
use Rattle.std.proofs.Common.{◌≡◌, ℕ, suc, ◌==◌, Bool, true, false, List, [], ◌∷◌, ◌++◌, Option, Some, None, Result, Ok, refl, sym, ◌∙◌, ap, append_assoc, arith}
use Rattle.std.specs.Prelude.{is_none, option_map, if◌then◌else◌}
use Rattle.std.specs.List.{AllByRecursion}
use Rattle.std.proofs.lemmas.Bool.{eqb-true}
use Rattle.std.proofs.lemmas.List.{append-nil}
use Rattle.base_laws.proofs.BoolLaws.{both, together}
use Rattle.mq_base.specs.declared.ids.AttrId.{AttrId}
use Rattle.mq_base.specs.declared.ids.NodeId.{NodeId}
use Rattle.mq_base.specs.declared.ids.SubjectId.{SubjectId}
use Rattle.mq_base.specs.declared.ids.TableId.{TableId}
use Rattle.mq_base.specs.declared.plan.Step.{Step}
use Rattle.mq_base.specs.declared.plan.Step.TheVariants as step
use Rattle.plan_algebra.specs.declared.kind.Kind.{Kind}
use Rattle.plan_algebra.specs.declared.kind.Kind.TheVariants as kind
use Rattle.policy_base.specs.Accepted.{plain_of, sealed_of}
use Rattle.view_authority.proofs.BreachLaws.{exactly}
use Rattle.extended_plan.specs.declared.state.PlanTotals.{PlanTotals}
use Rattle.extended_plan.specs.declared.step_no.StepNo.{StepNo}
use Rattle.extended_plan.specs.declared.step_no.StepWhy.{StepWhy}
use Rattle.extended_plan.specs.declared.step_no.StepWhy.TheVariants.{NotThePlan, NotRunnable, Breach, NotTheGoal}
use Rattle.extended_plan.specs.Certificate.{is_goal}
use Rattle.extended_plan.specs.Setting.{Setting, kind_at, root}
use Rattle.extended_plan.specs.States.{state}
use Rattle.extended_plan.specs.StepList.{breach_of, end_fault, is_root, last_fault, made, outcome_after, steps_outcome, stopped, taken, term_fault, totals_of}
use Rattle.extended_plan.specs.StepListLaws.{OutcomesAreExact, SpellsValid}
use Rattle.extended_plan.specs.Term.{Term, Leaf, Enc, Dec, Send, Un, Bin, holder, node_of, spell, stands_on, stands_on_both}
use Rattle.extended_plan.specs.Validity.{IsValid, authorised, is_held, profile, runnable}

-- a term that gives a subtree of the plan, with each step runnable and each table held by a subject that may hold it
pub record IsRight (s : Setting) (x : Term) : Type 0 where
  pub gives : is_none (node_of s x) ≡ false
  pub runs : runnable s x ≡ true
  pub held : authorised s x ≡ true

-- an operation gives a subtree only where its operands do
pub operand_gives : (k : Kind) (operand : Option ℕ) (n : ℕ) → is_none (if stands_on k operand then Some n else None) ≡ false
    → is_none operand ≡ false
operand_gives k (Some m) n gives = refl
operand_gives kind.Leaf None n gives = cc
operand_gives (kind.One x) None n gives = cc
operand_gives (kind.Two x y) None n gives = cc

pub operands_give : (k : Kind) (left right : Option ℕ) (n : ℕ) → is_none (if stands_on_both k left right then Some n else None) ≡ false
    → (is_none left ≡ false) × (is_none right ≡ false)
operands_give k (Some l) (Some r) n gives = (refl, refl)
operands_give kind.Leaf None right n gives = cc
operands_give (kind.One x) None right n gives = cc
operands_give (kind.Two x y) None right n gives = cc
operands_give kind.Leaf (Some l) None n gives = cc
operands_give (kind.One x) (Some l) None n gives = cc
operands_give (kind.Two x y) (Some l) None n gives = cc

-- the operands of a term that is right are
enc_right : (s : Setting) (a : AttrId) (x : Term) → IsRight s (Enc a x) → IsRight s x
enc_right s a x right = record { gives = right.gives; runs = (both _ _ right.runs).0; held = (both _ _ right.held).0 }

dec_right : (s : Setting) (a : AttrId) (x : Term) → IsRight s (Dec a x) → IsRight s x
dec_right s a x right = record { gives = right.gives; runs = (both _ _ right.runs).0; held = (both _ _ right.held).0 }

send_right : (s : Setting) (to : SubjectId) (x : Term) → IsRight s (Send to x) → IsRight s x
send_right s to x right = record { gives = right.gives; runs = (both _ _ right.runs).0; held = (both _ _ right.held).0 }

one_right : (s : Setting) (n : NodeId) (x : Term) → IsRight s (Un n x) → IsRight s x
one_right s n x right = record {
  gives = operand_gives (kind_at s n.0) (node_of s x) n.0 right.gives;
  runs = (both _ _ right.runs).0;
  held = (both _ _ right.held).0;
}

left_right : (s : Setting) (n : NodeId) (x y : Term) → IsRight s (Bin n x y) → IsRight s x
left_right s n x y right = record {
  gives = (operands_give (kind_at s n.0) (node_of s x) (node_of s y) n.0 right.gives).0;
  runs = (both _ _ right.runs).0;
  held = (both _ _ right.held).0;
}

right_right : (s : Setting) (n : NodeId) (x y : Term) → IsRight s (Bin n x y) → IsRight s y
right_right s n x y right = record {
  gives = (operands_give (kind_at s n.0) (node_of s x) (node_of s y) n.0 right.gives).1;
  runs = (both _ _ (both _ _ right.runs).1).0;
  held = (both _ _ (both _ _ right.held).1).0;
}

-- the holder of an authorised term may hold its table
pub own_held : (s : Setting) (x : Term) → authorised s x ≡ true → is_held s x ≡ true
own_held s (Leaf t) held = held
own_held s (Enc a x) held = (both _ _ held).1
own_held s (Dec a x) held = (both _ _ held).1
own_held s (Send to x) held = (both _ _ held).1
own_held s (Un n x) held = (both _ _ held).1
own_held s (Bin n x y) held = (both _ _ (both _ _ held).1).1

-- a holder may hold a table exactly where no condition is broken
unmapped : {A B : Type 0} (f : A → B) (o : Option A) → option_map f o ≡ None → o ≡ None
unmapped f None none = refl
unmapped f (Some x) none = cc

held_clear : (s : Setting) (x : Term) → is_held s x ≡ true → breach_of s x ≡ None
held_clear s x held =
    ap (option_map (Breach (holder s x))) ((exactly (plain_of s.policy (holder s x).0) (sealed_of s.policy (holder s x).0) (profile s x)).1 held)

pub clear_held : (s : Setting) (x : Term) → breach_of s x ≡ None → is_held s x ≡ true
clear_held s x clear =
    (exactly (plain_of s.policy (holder s x).0) (sealed_of s.policy (holder s x).0) (profile s x)).0 (unmapped _ _ clear)

-- nothing is wrong with a term that is right
right_clear : (s : Setting) (x : Term) → IsRight s x → term_fault s x ≡ None
right_clear s x right =
    ap (λ b. if b then Some NotThePlan else if runnable s x then breach_of s x else Some NotRunnable) right.gives
    ∙ ap (λ b. if b then breach_of s x else Some NotRunnable) right.runs
    ∙ held_clear s x (own_held s x right.held)

-- what it says of a term that nothing is wrong with it
pub record IsClear (s : Setting) (x : Term) : Type 0 where
  gives : is_none (node_of s x) ≡ false
  runs : runnable s x ≡ true
  held : is_held s x ≡ true

pub tests_clear : (outside runs : Bool) (o : Option StepWhy)
    → (if outside then Some NotThePlan else if runs then o else Some NotRunnable) ≡ None → (outside ≡ false) × (runs ≡ true) × (o ≡ None)
tests_clear true runs o none = cc
tests_clear false true o none = (refl, refl, none)
tests_clear false false o none = cc

pub fault_clear : (s : Setting) (x : Term) → term_fault s x ≡ None → IsClear s x
fault_clear s x none =
    let tests = tests_clear (is_none (node_of s x)) (runnable s x) (breach_of s x) none in
    record { gives = tests.0; runs = tests.1; held = clear_held s x tests.2 }

-- a step that makes terms, the last of which is right, passes
step_goes : (s : Setting) (terms next : List Term) (place : ℕ) (taking : Step) (rest : List Step) → made taking terms ≡ Some next
    → last_fault s next ≡ None → outcome_after s terms place (taking ∷ rest) ≡ outcome_after s next (suc place) rest
step_goes s terms next place taking rest makes clear =
    ap (λ m. taken s place m (λ z. outcome_after s z (suc place) rest)) makes
    ∙ ap (λ f. stopped place f (outcome_after s next (suc place) rest)) clear

-- where steps have been taken, which made one more term, the rest decides
record IsTaken (s : Setting) (terms : List Term) (place : ℕ) (steps rest : List Step) (x : Term) : Type 0 where
  after : ℕ
  goes : outcome_after s terms place (steps ++ rest) ≡ outcome_after s (x ∷ terms) after rest

-- one more step on the term that the steps before it made
last_taken : (s : Setting) (terms : List Term) (place : ℕ) (x made_of : Term) (taking : Step) (rest : List Step)
    → IsTaken s terms place (spell x) (taking ∷ rest) x → made taking (x ∷ terms) ≡ Some (made_of ∷ terms) → IsRight s made_of
    → IsTaken s terms place (spell x ++ taking ∷ []) rest made_of
last_taken s terms place x made_of taking rest before makes right = record {
  after = suc before.after;
  goes = ap (outcome_after s terms place) (append_assoc (spell x) (taking ∷ []) rest)
      ∙ before.goes
      ∙ step_goes s (x ∷ terms) (made_of ∷ terms) before.after taking rest makes (right_clear s made_of right);
}

-- the steps of a term that is right pass, and make the term
spelt_taken : (s : Setting) (x : Term) → IsRight s x → (terms : List Term) (place : ℕ) (rest : List Step)
    → IsTaken s terms place (spell x) rest x
spelt_taken s (Leaf t) right terms place rest = record {
  after = suc place;
  goes = step_goes s terms (Leaf t ∷ terms) place (step.Base t) rest refl (right_clear s (Leaf t) right);
}
spelt_taken s (Enc a x) right terms place rest =
    last_taken s terms place x (Enc a x) (step.Enc a) rest (spelt_taken s x (enc_right s a x right) terms place (step.Enc a ∷ rest)) refl right
spelt_taken s (Dec a x) right terms place rest =
    last_taken s terms place x (Dec a x) (step.Dec a) rest (spelt_taken s x (dec_right s a x right) terms place (step.Dec a ∷ rest)) refl right
spelt_taken s (Send to x) right terms place rest =
    last_taken s terms place x (Send to x) (step.Send to) rest (spelt_taken s x (send_right s to x right) terms place (step.Send to ∷ rest)) refl right
spelt_taken s (Un n x) right terms place rest =
    last_taken s terms place x (Un n x) (step.Un n) rest (spelt_taken s x (one_right s n x right) terms place (step.Un n ∷ rest)) refl right
spelt_taken s (Bin n x y) right terms place rest =
    let first = spelt_taken s x (left_right s n x y right) terms place (spell y ++ step.Bin n ∷ rest) in
    let second = spelt_taken s y (right_right s n x y right) (x ∷ terms) first.after (step.Bin n ∷ rest) in
    record {
      after = suc second.after;
      goes = ap (outcome_after s terms place) (append_assoc (spell x ++ spell y) (step.Bin n ∷ []) rest)
          ∙ ap (outcome_after s terms place) (append_assoc (spell x) (spell y) (step.Bin n ∷ rest))
          ∙ first.goes
          ∙ second.goes
          ∙ step_goes s (y ∷ x ∷ terms) (Bin n x y ∷ terms) second.after (step.Bin n) rest refl (right_clear s (Bin n x y) right);
    }

eqb_same : (n : ℕ) → (n == n) ≡ true
eqb_same n = grind arith

-- a valid term is right, and its end has no fault
valid_right : (s : Setting) (x : Term) → IsValid s x → IsRight s x
valid_right s x valid = record { gives = ap is_none valid.stands.gives; runs = valid.stands.runs; held = valid.stands.held }

valid_ends : (s : Setting) (x : Term) → IsValid s x → end_fault s x ≡ None
valid_ends s x valid =
    let at_root : is_root s (node_of s x) ≡ true = ap (is_root s) valid.stands.gives ∙ eqb_same (root s) in
    let by_user : ((holder s x).0 == s.policy.user.0) ≡ true = ap (λ (h : SubjectId). h.0 == s.policy.user.0) valid.by_user ∙ eqb_same s.policy.user.0 in
    let opened : ((profile s x).visible_encrypted == 0) ≡ true = ap (λ n. n == 0) valid.opened in
    ap (λ b. if b then if is_goal s (state s x) then None else Some NotTheGoal else Some NotThePlan) at_root
    ∙ ap (λ b. if b then None else Some NotTheGoal) (together _ _ by_user opened)

-- so its list comes to its totals
accepted : (s : Setting) (x : Term) → IsValid s x → steps_outcome s (spell x) ≡ Ok (totals_of s x)
accepted s x valid =
    let whole = spelt_taken s x (valid_right s x valid) [] 0 [] in
    ap (outcome_after s [] 0) (sym (append-nil (spell x)))
    ∙ whole.goes
    ∙ ap (λ f. stopped whole.after f (Ok (totals_of s x))) (valid_ends s x valid)

-- the steps of terms, the last made first in the list
abbrev pub spells : List Term → List Step
spells [] = []
spells (x ∷ terms) = spells terms ++ spell x

-- where steps are spelt as terms were made, the last step is the last that is spelt
one_more : (below operand : List Step) (taking : Step) (rest : List Step)
    → (below ++ (operand ++ taking ∷ [])) ++ rest ≡ (below ++ operand) ++ (taking ∷ rest)
one_more below operand taking rest =
    ap (λ z. z ++ rest) (sym (append_assoc below operand (taking ∷ []))) ∙ append_assoc (below ++ operand) (taking ∷ []) rest

two_more : (below first second : List Step) (taking : Step) (rest : List Step)
    → (below ++ ((first ++ second) ++ taking ∷ [])) ++ rest ≡ ((below ++ first) ++ second) ++ (taking ∷ rest)
two_more below first second taking rest =
    one_more below (first ++ second) taking rest ∙ ap (λ z. z ++ (taking ∷ rest)) (sym (append_assoc below first second))

respelt : (s : Setting) (p q : List Step) (totals : PlanTotals) → p ≡ q → SpellsValid s p totals → SpellsValid s q totals
respelt s p q totals same given =
    record { term = given.term; valid = given.valid; spelt = given.spelt ∙ same; comes = given.comes }

-- a list that is not stopped here has no fault here
stopped_ok : (place : ℕ) (fault : Option StepWhy) (rest : Result PlanTotals StepNo) (totals : PlanTotals) → stopped place fault rest ≡ Ok totals
    → (fault ≡ None) × (rest ≡ Ok totals)
stopped_ok place None rest totals ok = (refl, ok)
stopped_ok place (Some why) rest totals ok = cc

-- a term with nothing wrong, whose operands are right, is right
enc_made : (s : Setting) (a : AttrId) (x : Term) → IsRight s x → term_fault s (Enc a x) ≡ None → IsRight s (Enc a x)
enc_made s a x right none =
    let clear = fault_clear s (Enc a x) none in
    record { gives = clear.gives; runs = clear.runs; held = together _ _ right.held clear.held }

dec_made : (s : Setting) (a : AttrId) (x : Term) → IsRight s x → term_fault s (Dec a x) ≡ None → IsRight s (Dec a x)
dec_made s a x right none =
    let clear = fault_clear s (Dec a x) none in
    record { gives = clear.gives; runs = clear.runs; held = together _ _ right.held clear.held }

send_made : (s : Setting) (to : SubjectId) (x : Term) → IsRight s x → term_fault s (Send to x) ≡ None → IsRight s (Send to x)
send_made s to x right none =
    let clear = fault_clear s (Send to x) none in
    record { gives = clear.gives; runs = clear.runs; held = together _ _ right.held clear.held }

one_made : (s : Setting) (n : NodeId) (x : Term) → IsRight s x → term_fault s (Un n x) ≡ None → IsRight s (Un n x)
one_made s n x right none =
    let clear = fault_clear s (Un n x) none in
    record { gives = clear.gives; runs = clear.runs; held = together _ _ right.held clear.held }

two_made : (s : Setting) (n : NodeId) (x y : Term) → IsRight s x → IsRight s y → term_fault s (Bin n x y) ≡ None → IsRight s (Bin n x y)
two_made s n x y left right none =
    let clear = fault_clear s (Bin n x y) none in
    record { gives = clear.gives; runs = clear.runs; held = together _ _ left.held (together _ _ right.held clear.held) }

leaf_made : (s : Setting) (t : TableId) → term_fault s (Leaf t) ≡ None → IsRight s (Leaf t)
leaf_made s t none =
    let clear = fault_clear s (Leaf t) none in
    record { gives = clear.gives; runs = clear.runs; held = clear.held }

-- the only term that is left, where it is right and its end has no fault, is valid
goal_at : (s : Setting) (at : Option ℕ) → is_root s at ≡ true → at ≡ Some (root s)
goal_at s (Some n) at_root = ap (λ m. Some m) (eqb-true n (root s) at_root)
goal_at s None at_root = cc

end_tests : (at_root goal : Bool) → (if at_root then if goal then None else Some NotTheGoal else Some NotThePlan) ≡ None
    → (at_root ≡ true) × (goal ≡ true)
end_tests true true none = (refl, refl)
end_tests true false none = cc
end_tests false goal none = cc

same_subject : (p q : SubjectId) → (p.0 == q.0) ≡ true → p ≡ q
same_subject p q same = ap (λ (n : ℕ). record { 0 = n }) (eqb-true p.0 q.0 same)

end_valid : (s : Setting) (x : Term) → IsRight s x → end_fault s x ≡ None → IsValid s x
end_valid s x right none =
    let tests = end_tests (is_root s (node_of s x)) (is_goal s (state s x)) none in
    let goal = both _ _ tests.1 in
    record {
      stands = record { gives = goal_at s (node_of s x) tests.0; runs = right.runs; held = right.held };
      by_user = same_subject (holder s x) s.policy.user goal.0;
      opened = eqb-true (profile s x).visible_encrypted 0 goal.1;
    }

same_totals : (p q : PlanTotals) → (let ends : Result PlanTotals StepNo = Ok q in ends ≡ Ok p) → p ≡ q
same_totals p q same = cc

-- a list that comes to totals after terms that are right spells a valid term with these, behind their steps
valid_from : (s : Setting) (terms : List Term) → AllByRecursion (IsRight s) terms → (place : ℕ) (steps : List Step) (totals : PlanTotals)
    → outcome_after s terms place steps ≡ Ok totals → SpellsValid s (spells terms ++ steps) totals
valid_from s [] right place [] totals ok = cc
valid_from s (x ∷ []) right place [] totals ok =
    let ends = stopped_ok place (end_fault s x) (Ok (totals_of s x)) totals ok in
    record {
      term = x;
      valid = end_valid s x right.0 ends.0;
      spelt = sym (append-nil (spell x));
      comes = same_totals totals (totals_of s x) ends.1;
    }
valid_from s (y ∷ x ∷ terms) right place [] totals ok = cc
valid_from s terms right place (step.Base t ∷ rest) totals ok =
    let goes = stopped_ok place (term_fault s (Leaf t)) (outcome_after s (Leaf t ∷ terms) (suc place) rest) totals ok in
    respelt s _ _ totals (append_assoc (spells terms) (step.Base t ∷ []) rest)
    (valid_from s (Leaf t ∷ terms) (leaf_made s t goes.0, right) (suc place) rest totals goes.1)
valid_from s [] right place (step.Enc a ∷ rest) totals ok = cc
valid_from s (x ∷ terms) right place (step.Enc a ∷ rest) totals ok =
    let goes = stopped_ok place (term_fault s (Enc a x)) (outcome_after s (Enc a x ∷ terms) (suc place) rest) totals ok in
    respelt s _ _ totals (one_more (spells terms) (spell x) (step.Enc a) rest)
    (valid_from s (Enc a x ∷ terms) (enc_made s a x right.0 goes.0, right.1) (suc place) rest totals goes.1)
valid_from s [] right place (step.Dec a ∷ rest) totals ok = cc
valid_from s (x ∷ terms) right place (step.Dec a ∷ rest) totals ok =
    let goes = stopped_ok place (term_fault s (Dec a x)) (outcome_after s (Dec a x ∷ terms) (suc place) rest) totals ok in
    respelt s _ _ totals (one_more (spells terms) (spell x) (step.Dec a) rest)
    (valid_from s (Dec a x ∷ terms) (dec_made s a x right.0 goes.0, right.1) (suc place) rest totals goes.1)
valid_from s [] right place (step.Send to ∷ rest) totals ok = cc
valid_from s (x ∷ terms) right place (step.Send to ∷ rest) totals ok =
    let goes = stopped_ok place (term_fault s (Send to x)) (outcome_after s (Send to x ∷ terms) (suc place) rest) totals ok in
    respelt s _ _ totals (one_more (spells terms) (spell x) (step.Send to) rest)
    (valid_from s (Send to x ∷ terms) (send_made s to x right.0 goes.0, right.1) (suc place) rest totals goes.1)
valid_from s [] right place (step.Un n ∷ rest) totals ok = cc
valid_from s (x ∷ terms) right place (step.Un n ∷ rest) totals ok =
    let goes = stopped_ok place (term_fault s (Un n x)) (outcome_after s (Un n x ∷ terms) (suc place) rest) totals ok in
    respelt s _ _ totals (one_more (spells terms) (spell x) (step.Un n) rest)
    (valid_from s (Un n x ∷ terms) (one_made s n x right.0 goes.0, right.1) (suc place) rest totals goes.1)
valid_from s [] right place (step.Bin n ∷ rest) totals ok = cc
valid_from s (y ∷ []) right place (step.Bin n ∷ rest) totals ok = cc
valid_from s (y ∷ x ∷ terms) right place (step.Bin n ∷ rest) totals ok =
    let goes = stopped_ok place (term_fault s (Bin n x y)) (outcome_after s (Bin n x y ∷ terms) (suc place) rest) totals ok in
    respelt s _ _ totals (two_more (spells terms) (spell x) (spell y) (step.Bin n) rest)
    (valid_from s (Bin n x y ∷ terms) (two_made s n x y right.1.0 right.0 goes.0, right.1.1) (suc place) rest totals goes.1)

-- what lists come to is exact
pub outcomes_exact : OutcomesAreExact
outcomes_exact s = record {
  accepted = accepted s;
  valid = λ steps totals ok. valid_from s [] tt 0 steps totals ok;
}

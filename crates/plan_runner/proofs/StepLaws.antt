-- The step at a place is the first of those that are left there.
use Rattle.std.proofs.Common.{◌≡◌, ℕ, ◌+◌, ◌<◌, List, ◌∷◌, length, drop, get_or, refl, sym, ◌∙◌, ap, subst}
use Rattle.std.specs.Prelude.{Result, Err, IsErrAnd}
use Rattle.std.proofs.lemmas.List.{drop_more}
use Rattle.mq_base.specs.declared.plan.Step.{Step}
use Rattle.mq_base.specs.declared.plan.Step.TheVariants as step
use Rattle.mq_base.specs.declared.table.PlainTable.{PlainTable}
use Rattle.extended_plan.specs.Setting.{Setting}
use Rattle.provider_engine.specs.declared.held.Held.{Held}
use Rattle.row_algebra.specs.Contents.{Contents}
use Rattle.plan_runner.specs.declared.stop.RunStop.{RunStop}
use Rattle.plan_runner.specs.inside.UnderWay.{IsOnOneStep, IsUnderWay}

pub at_step : (s : Setting) (keys : List (List ℕ)) (contents : Contents) (steps : List Step) (place : ℕ) (waiting : List PlainTable)
    (stack : List Held) (d taking : Step) → place < length steps → get_or steps place d ≡ taking
    → IsUnderWay s keys contents (drop place steps) place waiting stack
    → IsUnderWay s keys contents (taking ∷ drop (place + 1) steps) place waiting stack
at_step s keys contents steps place waiting stack d taking below is under =
    subst (λ left. IsUnderWay s keys contents left place waiting stack)
    (drop_more steps place d below ∙ ap (λ first. first ∷ drop (place + 1) steps) is) under

-- the same with the tables that wait, or those on the stack, as they are taken
pub with_waiting : (s : Setting) (keys : List (List ℕ)) (contents : Contents) (left : List Step) (place : ℕ) (waiting others : List PlainTable)
    (stack : List Held) → waiting ≡ others → IsUnderWay s keys contents left place waiting stack
    → IsUnderWay s keys contents left place others stack
with_waiting s keys contents left place waiting others stack same under =
    subst (λ tables. IsUnderWay s keys contents left place tables stack) same under

pub with_stack : (s : Setting) (keys : List (List ℕ)) (contents : Contents) (left : List Step) (place : ℕ) (waiting : List PlainTable)
    (stack others : List Held) → stack ≡ others → IsUnderWay s keys contents left place waiting stack
    → IsUnderWay s keys contents left place waiting others
with_stack s keys contents left place waiting stack others same under =
    subst (λ tables. IsUnderWay s keys contents left place waiting tables) same under

-- a step that is no leaf and no operation on two tables is on one
pub is_on_one : (taking : Step) → ((t : _) → taking ≡ step.Base t → ⊥) → ((n : _) → taking ≡ step.Bin n → ⊥) → IsOnOneStep taking
is_on_one (step.Base t) no_base no_two = no_base t refl
is_on_one (step.Bin n) no_base no_two = no_two n refl
is_on_one (step.Enc a) no_base no_two = tt
is_on_one (step.Dec a) no_base no_two = tt
is_on_one (step.Send to) no_base no_two = tt
is_on_one (step.Un n) no_base no_two = tt

-- an error that is handed on is the one that came
pub same_error : {A : Type 0} (B : Type 0) (r : Result A RunStop) (e f : RunStop) → r ≡ Err f → IsErrAnd r (λ given. given ≡ e)
    → ◌≡◌ {A = Result B RunStop} (Err e) (Err f)
same_error {A} B r e f is given =
    ap (λ (stop : RunStop). Err stop) (sym (subst (λ (o : Result A RunStop). IsErrAnd o (λ given. given ≡ e)) is given))

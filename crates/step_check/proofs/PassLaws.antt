-- What is left of a list after a step of it was taken, by the tables on the stack.
use Rattle.std.proofs.Common.{◌≡◌, ℕ, suc, ◌+◌, ◌<◌, ◌≤◌, List, length, get_or, drop, Result, Ok, Err, sym, ◌∙◌, ap, add-one}
use Rattle.std.proofs.lemmas.List.{drop_all, drop_more}
use Rattle.mq_base.specs.declared.plan.Step.{Step}
use Rattle.step_check.specs.declared.stack.Slot.{Slot}
use Rattle.extended_plan.specs.declared.step_no.StepWhy.{StepWhy}
use Rattle.extended_plan.specs.Setting.{Setting}
use Rattle.step_check.specs.inside.Slots.{passed, slots_after, slots_end, slots_outcome}

-- one step more, by what it makes of the tables
step-passed : (s : Setting) (slots : List Slot) (steps : List Step) (at : ℕ) (d : Step) (made : Result (List Slot) StepWhy) → at < length steps
    → slots_after s (get_or steps at d) slots ≡ made
    → slots_outcome s slots at (drop at steps) ≡ passed at made (λ next. slots_outcome s next (suc at) (drop (at + 1) steps))
unfolding slots_outcome
step-passed s slots steps at d made below is =
    ap (slots_outcome s slots at) (drop_more steps at d below)
    ∙ ap (λ m. passed at m (λ next. slots_outcome s next (suc at) (drop (at + 1) steps))) is

-- where it makes no table, the list fails there
pub steps-stop : (s : Setting) (slots : List Slot) (steps : List Step) (at : ℕ) (d : Step) (why : StepWhy) → at < length steps
    → slots_after s (get_or steps at d) slots ≡ Err why
    → slots_outcome s slots at (drop at steps) ≡ Err (record { at = at; why = why })
steps-stop s slots steps at d why below is = step-passed s slots steps at d (Err why) below is

-- where it makes one, the steps after it decide
pub steps-more : (s : Setting) (slots next : List Slot) (steps : List Step) (at : ℕ) (d : Step) → at < length steps
    → slots_after s (get_or steps at d) slots ≡ Ok next
    → slots_outcome s slots at (drop at steps) ≡ slots_outcome s next (at + 1) (drop (at + 1) steps)
steps-more s slots next steps at d below is =
    step-passed s slots steps at d (Ok next) below is ∙ ap (λ n. slots_outcome s next n (drop (at + 1) steps)) (sym (add-one at))

-- where no step is left, the list is at its end
pub steps-end : (s : Setting) (slots : List Slot) (steps : List Step) (at : ℕ) → length steps ≤ at
    → slots_outcome s slots at (drop at steps) ≡ slots_end s at slots
unfolding slots_outcome
steps-end s slots steps at past = ap (slots_outcome s slots at) (drop_all at steps past)

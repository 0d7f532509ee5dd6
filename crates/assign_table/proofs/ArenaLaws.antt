-- What stands at the places of the arena after one more state is settled.
use Rattle.std.proofs.Common.{◌≡◌, ℕ, ◌+◌, ◌-◌, ◌≤◌, ◌<◌, ◌⊎◌, inl, inr, Bool, List, [], ◌∷◌, ◌++◌, length, get_or, drop, slice_get, Some, refl, sym, ◌∙◌, ap, subst, arith, false}
use Rattle.std.proofs.lemmas.List.{drop-append-le, get_or-drop, get_or_append_left, get_or_push, length_push, map-append}
use Rattle.std.proofs.lemmas.List.Elements.{All-map}
use Rattle.std.proofs.lemmas.List.Folds.{list_any_none}
use Rattle.std.proofs.lemmas.List.{length-drop}
use Rattle.std.proofs.lemmas.Option.{slice_get-get_or, slice_get_within}
use Rattle.std.specs.List.{list_any}
use Rattle.extended_plan.specs.declared.state.State.{State}
use Rattle.assign_table.specs.declared.way.Settled.{Settled}
use Rattle.assign_table.specs.inside.Order.{states_of}

-- a number is below another or not, and below the next one it is below or there
pub below-or-above : (i k : ℕ) → (i < k) ⊎ (k ≤ i)
below-or-above i k = grind arith

pub below-or-last : (i k : ℕ) → i < k + 1 → (i < k) ⊎ (i ≡ k)
below-or-last i k low = grind arith

-- a place before the end keeps what stands there
pub push-before : (arena : List Settled) (e : Settled) (place : ℕ) → place < length arena
    → slice_get (arena ++ e ∷ []) place ≡ slice_get arena place
push-before arena e place within =
    let longer : length (arena ++ e ∷ []) ≡ length arena + 1 = length_push arena e in
    slice_get-get_or (arena ++ e ∷ []) place e (omega arith)
    ∙ ap Some (get_or_append_left arena (e ∷ []) e place within)
    ∙ sym (slice_get-get_or arena place e within)

-- the new place has the new one
pub push-last : (arena : List Settled) (e : Settled) → slice_get (arena ++ e ∷ []) (length arena) ≡ Some e
push-last arena e =
    let longer : length (arena ++ e ∷ []) ≡ length arena + 1 = length_push arena e in
    slice_get-get_or (arena ++ e ∷ []) (length arena) e (omega arith) ∙ ap Some (get_or_push arena e e (length arena) refl)

pub push-kept : (arena : List Settled) (e : Settled) (place : ℕ) (f : Settled) → slice_get arena place ≡ Some f
    → slice_get (arena ++ e ∷ []) place ≡ Some f
push-kept arena e place f there = push-before arena e place (slice_get_within arena place f there) ∙ there

-- what stands at a place stood there before, or is new
pub record IsNewAt (arena : List Settled) (e : Settled) (place : ℕ) (f : Settled) : Type 0 where
  pub last : place ≡ length arena
  pub new : f ≡ e

pub push-cases : (arena : List Settled) (e : Settled) (place : ℕ) (f : Settled) → slice_get (arena ++ e ∷ []) place ≡ Some f
    → (slice_get arena place ≡ Some f) ⊎ IsNewAt arena e place f
push-cases arena e place f there = by_order (below-or-above place (length arena))
  where
    by_order : (place < length arena) ⊎ (length arena ≤ place) → (slice_get arena place ≡ Some f) ⊎ IsNewAt arena e place f
    by_order (inl before) = inl (sym (push-before arena e place before) ∙ there)
    by_order (inr after) =
        let within : place < length (arena ++ e ∷ []) = slice_get_within (arena ++ e ∷ []) place f there in
        let longer : length (arena ++ e ∷ []) ≡ length arena + 1 = length_push arena e in
        let last : place ≡ length arena = omega arith in
        let here : Some e ≡ Some f = sym (push-last arena e) ∙ subst (λ p. slice_get (arena ++ e ∷ []) p ≡ Some f) last there in
        inr (record { last = last; new = cc })

-- a block with one more
pub states_of-push : (from : ℕ) (arena : List Settled) (e : Settled) → from ≤ length arena
    → states_of (drop from (arena ++ e ∷ [])) ≡ states_of (drop from arena) ++ e.state ∷ []
states_of-push from arena e within =
    ap states_of (drop-append-le from arena (e ∷ []) within) ∙ map-append (λ (f : Settled). f.state) (drop from arena) (e ∷ [])

-- a test fails at each state of a block where it does at each place
pub block-none : (p : State → Bool) (from : ℕ) (arena : List Settled)
    → ((place : ℕ) (e : Settled) → from ≤ place → slice_get arena place ≡ Some e → p e.state ≡ false)
    → list_any p (states_of (drop from arena)) ≡ false
block-none p from arena fails =
    list_any_none p (states_of (drop from arena))
    (All-map (λ (st : State). p st ≡ false) (λ (e : Settled). e.state) (drop from arena)
    (λ k d within.
    let short : length (drop from arena) ≡ length arena - from = length-drop from arena in
    subst (λ (e : Settled). p e.state ≡ false) (sym (get_or-drop from arena k d))
    (fails (from + k) (get_or arena (from + k) d) (omega arith) (slice_get-get_or arena (from + k) d (omega arith)))))

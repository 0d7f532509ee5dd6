-- Laws of a walk over a text whose quotes are doubled.
use Rattle.std.proofs.Common.{◌≡◌, ℕ, ◌+◌, ◌<◌, ◌≤◌, ◌==◌, Bool, true, false, cond, List, [], ◌∷◌, ◌++◌, length, get_or, drop, refl, arith, append_assoc, ap}
use Rattle.std.proofs.lemmas.List.{drop_more, drop_all, drop-drop}
use Rattle.query_bind.specs.Bound.{undoubled}
use Rattle.query_bind.specs.inside.Results.{step_of}

-- the text from a byte on
undoubled-step : (b : ℕ) (rest : List ℕ) → undoubled (b ∷ rest) ≡ b ∷ undoubled (drop (step_of b) (b ∷ rest))
undoubled-step b [] = by_quote (b == 39)
  where
    by_quote : (q : Bool) → (b ∷ []) ≡ b ∷ undoubled (drop (cond q 2 1) (b ∷ []))
    by_quote true = refl
    by_quote false = refl
undoubled-step b (c ∷ rest) = by_quote (b == 39)
  where
    by_quote : (q : Bool) → cond q (b ∷ undoubled rest) (b ∷ undoubled (c ∷ rest)) ≡ b ∷ undoubled (drop (cond q 2 1) (b ∷ c ∷ rest))
    by_quote true = refl
    by_quote false = refl

pub undoubled-more : (inside : List ℕ) (at : ℕ) → at < length inside
    → undoubled (drop at inside) ≡ get_or inside at 0 ∷ undoubled (drop (at + step_of (get_or inside at 0)) inside)
undoubled-more inside at below =
    let whole = drop_more inside at 0 below in
    let step = undoubled-step (get_or inside at 0) (drop (at + 1) inside) in
    rw (← whole, drop-drop) at step

pub undoubled-end : (inside : List ℕ) (at : ℕ) → length inside ≤ at → undoubled (drop at inside) ≡ []
undoubled-end inside at past = rw (drop_all at inside past) refl

-- past a byte: how many there are so far, and which
pub counted-more : (inside : List ℕ) (at count step : ℕ) → at < length inside → step ≡ step_of (get_or inside at 0)
    → length (undoubled inside) ≡ count + length (undoubled (drop at inside))
    → length (undoubled inside) ≡ count + 1 + length (undoubled (drop (at + step) inside))
counted-more inside at count step below same before =
    let more = ap length (undoubled-more inside at below) in
    rw same (omega (arith, more, before))

pub made-more : (inside text : List ℕ) (at step : ℕ) → at < length inside → step ≡ step_of (get_or inside at 0)
    → undoubled inside ≡ text ++ undoubled (drop at inside)
    → undoubled inside ≡ (text ++ get_or inside at 0 ∷ []) ++ undoubled (drop (at + step) inside)
made-more inside text at step below same before = rw (same, before, undoubled-more inside at below, append_assoc) refl

pub ruleset walks = (counted-more, made-more, undoubled-end)

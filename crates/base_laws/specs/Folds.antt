-- Folds from the left, over the numbers below a bound.
use Rattle.std.specs.Prelude.{ℕ, zero, suc, bit_or}

-- what is gathered from the numbers below n, taken in ascending order
abbrev pub fold_to : {A : Type 0} → (A → ℕ → A) → A → ℕ → A
fold_to step start zero = start
fold_to step start (suc n) = step (fold_to step start n) n

-- the union of the sets that belong to the numbers below n
abbrev pub union_to : (ℕ → ℕ) → ℕ → ℕ
union_to set zero = 0
union_to set (suc n) = bit_or (union_to set n) (set n)

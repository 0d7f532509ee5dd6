-- Laws of an array of 64 places that is filled from the first on.
use Rattle.std.proofs.Common.{◌≡◌, ℕ, suc, ◌+◌, ◌-◌, ◌<◌, ◌≤◌, List, ◌++◌, length, map, replicate, set, arith, append_assoc}
use Rattle.std.specs.List.{range_with_len}
use Rattle.std.proofs.lemmas.List.{append-nil, set_at}
use Rattle.std.proofs.lemmas.List.FromFn.{length-map-range_with_len, map-range_with_len_more}

-- the values of the first places, and the same one after them
abbrev pub filled : {X : Type 0} → (ℕ → X) → X → ℕ → List X
filled f d i = map f (range_with_len 0 i) ++ replicate (64 - i) d

-- past a place
pub filled-more : {X : Type 0} (f : ℕ → X) (d value : X) (xs : List X) (i at : ℕ) → i < 64 → xs ≡ filled f d i → at ≡ i → value ≡ f i
    → set xs at value ≡ filled f d (i + 1)
filled-more f d value xs i at below made there is =
    let left : 64 - i ≡ suc (64 - (i + 1)) = omega arith in
    let long : length (map f (range_with_len 0 i)) ≡ i = length-map-range_with_len f 0 i in
    rw (there, made, left, map-range_with_len_more f 0 i i (omega arith), append_assoc, ← is)
    (set_at (map f (range_with_len 0 i)) d (replicate (64 - (i + 1)) d) value i long)

pub filled-end : {X : Type 0} (f : ℕ → X) (d : X) (xs : List X) (i : ℕ) → 64 ≤ i → i ≤ 64 → xs ≡ filled f d i → xs ≡ map f (range_with_len 0 64)
filled-end f d xs i past upto made =
    let last : i ≡ 64 = omega (arith, past, upto) in
    rw (made, last) (append-nil (map f (range_with_len 0 64)))

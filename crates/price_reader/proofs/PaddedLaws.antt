-- How far a padded list has been made.
use Rattle.std.proofs.Common.{◌≡◌, ℕ, suc, ◌+◌, ◌-◌, ◌^◌, ◌<◌, List, [], ◌++◌, length, get_or, take, map, replicate, set, refl, ◌∙◌, ap, arith, append_assoc}
use Rattle.std.proofs.lemmas.List.{length-map, length-take, map_more, set_at}
use Rattle.std.proofs.Math.Seq.{take-length}
use Rattle.std.specs.Prelude.{slice_index}
use Rattle.base_laws.proofs.PlaceLaws.{set-holds, replicate-holds}
use Rattle.price_reader.specs.Outcome.{padded}
use Rattle.price_reader.specs.inside.Checks.{Fits64, AllFit64}

-- what the first items give, and the value of none after them
abbrev pub padded_to : {A B : Type 0} → ℕ → B → (A → B) → List A → ℕ → List B
padded_to size past value xs n = map value (take n xs) ++ replicate (size - n) past

-- past an item
pub padded_to-more : {A B : Type 0} (size : ℕ) (past : B) (value : A → B) (xs : List A) (n : ℕ) (x : A) (made : List B) (given : B)
    → n < length xs → n < size → made ≡ padded_to size past value xs n → x ≡ get_or xs n x → given ≡ value x
    → set made n given ≡ padded_to size past value xs (n + 1)
padded_to-more size past value xs n x made given below small made_is there found =
    let left : size - n ≡ suc (size - (n + 1)) = omega arith in
    let done = map value (take n xs) in
    let short : length done ≡ n = simp (length-map, length-take) (omega arith) in
    let more = map_more value xs n x below in
    let here : given ≡ value (get_or xs n x) = found ∙ ap value there in
    rw (made_is, left, more, append_assoc, ← here) (set_at done past (replicate (size - (n + 1)) past) given n short)

pub padded_to-end : {A B : Type 0} (size : ℕ) (past : B) (value : A → B) (xs : List A) (n : ℕ) → n ≡ length xs
    → padded_to size past value xs n ≡ padded size past value xs
padded_to-end size past value xs n whole = rw (whole, take-length) refl

zero_fits : 0 < 2 ^ 64
zero_fits = omega arith

-- numbers within 64 bits
pub fits-start : (n : ℕ) → Fits64 (replicate n 0)
fits-start n k = replicate-holds (λ x. x < 2 ^ 64) n 0 k 0 zero_fits zero_fits

pub fits-set : (numbers : List ℕ) (i x : ℕ) → Fits64 numbers → x < 2 ^ 64 → Fits64 (set numbers i x)
fits-set numbers i x each one k = set-holds (λ x. x < 2 ^ 64) numbers i x k 0 each one

pub all_fit-start : (n : ℕ) → AllFit64 (replicate n (replicate 16 0))
all_fit-start n k m = replicate-holds (λ (row : List ℕ). slice_index row m < 2 ^ 64) n (replicate 16 0) k [] (fits-start 16 m) zero_fits

pub all_fit-set : (lists : List (List ℕ)) (i : ℕ) (row : List ℕ) → AllFit64 lists → Fits64 row → AllFit64 (set lists i row)
all_fit-set lists i row each one k m = set-holds (λ (row : List ℕ). slice_index row m < 2 ^ 64) lists i row k [] (λ j. each j m) (one m)

pub ruleset padding = (padded_to-more, padded_to-end, fits-start, fits-set, all_fit-start, all_fit-set)

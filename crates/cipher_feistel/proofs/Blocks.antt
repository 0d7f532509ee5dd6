-- Blocks and their halves, and that blocks of one even length have equal cells only where they are equal.
use Rattle.std.proofs.Common.{◌≡◌, ℕ, ◌*◌, ◌/◌, ◌%◌, ◌≤◌, List, ◌++◌, length, take, drop, ap, arith, refl, sym, ◌∙◌, length-append}
use Rattle.std.proofs.lemmas.List.{length-take-le, length-drop, take_at, drop_at, take-append-drop}
use Rattle.cipher_feistel.specs.Feistel.{Halves, after_rounds, halves_of, joined, sealed}
use Rattle.cipher_feistel.proofs.Rounds.{HasLengths, after_rounds_cancel, after_rounds_lengths}

-- the halves of a block of 2 n bytes have n
pub halves_of_lengths : (block : List ℕ) (n : ℕ) → length block ≡ 2 * n → HasLengths (halves_of block) n
unfolding halves_of
halves_of_lengths block n e =
    let front = length-take-le (length block / 2) block (omega arith) in
    let back = length-drop (length block / 2) block in
    record { of_left = omega arith; of_right = omega arith }

-- the halves of a block join to it
joined-halves_of : (block : List ℕ) → joined (halves_of block) ≡ block
unfolding joined halves_of
joined-halves_of block = take-append-drop _ block

-- two joined halves of one length are cut again in the middle
halves_of-joined : (h : Halves) (n : ℕ) → HasLengths h n → halves_of (joined h) ≡ h
unfolding joined halves_of
halves_of-joined h n sized =
    let whole = length-append h.left h.right in
    let middle : length h.left ≡ length (h.left ++ h.right) / 2 = omega arith in
    let front = take_at h.left h.right _ middle in
    let back = drop_at h.left h.right _ middle in
    λ i. record { left = front i; right = back i }

-- ---- the steps of a call

-- a block that was copied and cut in the middle
pub halves_cut : (block copy left right : List ℕ) → copy ≡ block → left ≡ take (length copy / 2) copy → right ≡ drop (length copy / 2) copy →
    halves_of block ≡ record { left = left; right = right }
unfolding halves_of
halves_cut block copy left right same front back =
    let cut_front : take (length block / 2) block ≡ left = cc in
    let cut_back : drop (length block / 2) block ≡ right = cc in
    λ i. record { left = cut_front i; right = cut_back i }

-- the halves of a block after eight rounds join to its cell
pub sealed_from_rounds : (key block left right : List ℕ) (rounds : ℕ) → rounds ≡ 8 →
    after_rounds key rounds (halves_of block) ≡ record { left = left; right = right } → left ++ right ≡ sealed key block
unfolding sealed joined
sealed_from_rounds key block left right rounds eight e = ap joined (sym e) ∙ ap (λ n. joined (after_rounds key n (halves_of block))) eight

-- halves that eight rounds take to those of a cell join to its block
pub sealed_from_halves : (key cell left right : List ℕ) → length left ≡ length right →
    after_rounds key 8 (record { left = left; right = right }) ≡ halves_of cell → sealed key (left ++ right) ≡ cell
unfolding sealed joined
sealed_from_halves key cell left right same e =
    let block : Halves = record { left = left; right = right } in
    let sized : HasLengths block (length left) = record { of_left = refl; of_right = sym same } in
    ap (λ (h : Halves). joined (after_rounds key 8 h)) (halves_of-joined block (length left) sized) ∙ ap joined e ∙ joined-halves_of cell

-- lists of one even length, of at most 128 bytes, have equal cells only where they are equal
pub sealed_cancel : (key block other : List ℕ) → length block % 2 ≡ 0 → length block ≤ 128 → length other ≡ length block →
    sealed key other ≡ sealed key block → other ≡ block
unfolding sealed
sealed_cancel key block other even short same e =
    let fits : length block / 2 ≤ 64 = omega arith in
    let sized = halves_of_lengths block (length block / 2) (omega arith) in
    let sized_other = halves_of_lengths other (length block / 2) (omega arith) in
    let after = after_rounds_lengths key (length block / 2) fits 8 (halves_of block) sized in
    let after_other = after_rounds_lengths key (length block / 2) fits 8 (halves_of other) sized_other in
    let cells = sym (halves_of-joined _ (length block / 2) after_other) ∙ ap halves_of e ∙ halves_of-joined _ (length block / 2) after in
    let halves = after_rounds_cancel key (length block / 2) fits 8 (halves_of other) (halves_of block) sized_other sized cells in
    sym (joined-halves_of other) ∙ ap joined halves ∙ joined-halves_of block

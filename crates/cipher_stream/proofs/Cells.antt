-- What a cell spells, and that sealing and opening undo each other.
use Rattle.std.proofs.Common.{◌≡◌, ℕ, ◌+◌, ◌-◌, ◌^◌, ◌<◌, ◌≤◌, List, ◌++◌, length, take, drop, get_or, refl, sym, ap, ◌∙◌, arith, inl, inr}
use Rattle.std.proofs.lemmas.List.{append_assoc, length-take, length-drop, length-take-le, get_or-take, get_or-drop, get_or_past, take-append-drop, drop-drop, take_rest, drop_all, append-nil}
use borrow.Rule.Slice.PartMut.{put_mid}
use Rattle.std.proofs.lemmas.Nat.{be_bytes_4, be_bytes_8, from_be_bytes-to_be_bytes_4, from_be_bytes-to_be_bytes_8}
use Rattle.std.proofs.lemmas.Bool.{cases_lt}
use Rattle.std.specs.Int.{w32, w64, to_be_bytes}
use Rattle.cipher_stream.specs.Stream.{seed_of, covered, sealed, step_of, row_of}
use Rattle.cipher_stream.proofs.Covering.{covered_from-covered_from}

-- the three parts written one after another into a slice are the cell
pub sealed_written : (out key step_bytes row_bytes block body : List ℕ) (step row k : ℕ)
    → k ≡ length (put_mid 4 8 (step_bytes ++ drop 4 out) row_bytes) - 12
    → step_bytes ≡ to_be_bytes w32 step → row_bytes ≡ to_be_bytes w64 row → body ≡ covered (seed_of key step) row block
    → put_mid 12 k (put_mid 4 8 (step_bytes ++ drop 4 out) row_bytes) body ≡ sealed key step row block
unfolding sealed
sealed_written out key step_bytes row_bytes block body step row k to_end step_is row_is body_is =
    let rest = drop 8 (drop 4 out) in
    let reaches : length rest ≤ k = omega (arith, rw (step_is, row_is) at to_end) in
    rw (step_is, row_is, body_is)
    (ap (λ (past : List ℕ). to_be_bytes w32 step ++ to_be_bytes w64 row ++ (covered (seed_of key step) row block ++ past)) (drop_all k rest reaches)
    ∙ ap (λ (xs : List ℕ). to_be_bytes w32 step ++ to_be_bytes w64 row ++ xs) (append-nil (covered (seed_of key step) row block)))

-- the step, the row and the rest of a cell that was sealed
pub sealed_step : (key : List ℕ) (step row : ℕ) (block : List ℕ) → step < 2 ^ 32 → step_of (sealed key step row block) ≡ step
unfolding sealed step_of
sealed_step key step row block small = from_be_bytes-to_be_bytes_4 step small

pub sealed_row : (key : List ℕ) (step row : ℕ) (block : List ℕ) → row < 2 ^ 64 → row_of (sealed key step row block) ≡ row
unfolding sealed row_of
sealed_row key step row block small = from_be_bytes-to_be_bytes_8 row small

pub sealed_rest : (key : List ℕ) (step row : ℕ) (block : List ℕ) → drop 12 (sealed key step row block) ≡ covered (seed_of key step) row block
unfolding sealed
sealed_rest key step row block = refl

-- what opening a cell gives
pub opened : (key cell part out : List ℕ) (step row : ℕ) → step ≡ step_of cell → row ≡ row_of cell → part ≡ take (length cell - 12) (drop 12 cell)
    → out ≡ covered (seed_of key step) row part → out ≡ covered (seed_of key (step_of cell)) (row_of cell) (drop 12 cell)
opened key cell part out step row step_is row_is part_is out_is = rw (step_is, row_is, part_is, take_rest cell 12) at out_is

-- a sealed block is what opening its cell gives
pub block_of_sealed : (key : List ℕ) (step row : ℕ) (block cell : List ℕ) → step < 2 ^ 32 → row < 2 ^ 64 → sealed key step row block ≡ cell
    → block ≡ covered (seed_of key (step_of cell)) (row_of cell) (drop 12 cell)
block_of_sealed key step row block cell small_step small_row is =
    rw (← is, sealed_step key step row block small_step, sealed_row key step row block small_row, sealed_rest key step row block, covered_from-covered_from (seed_of key step) row 0 block)
    refl

-- each element of a part of a list of bytes is a byte
bytes_of_take : (xs : List ℕ) (n : ℕ) → ((i : ℕ) → get_or xs i 0 < 256) → (i : ℕ) → get_or (take n xs) i 0 < 256
bytes_of_take xs n small i =
    elim (cases_lt i n) [
      | inl below ↦ rw (get_or-take n xs i 0 below) (small i)
      | inr above ↦ rw (get_or_past (take n xs) i 0 (omega (arith, length-take n xs))) (omega arith)
    ]

bytes_of_drop : (xs : List ℕ) (n : ℕ) → ((i : ℕ) → get_or xs i 0 < 256) → (i : ℕ) → get_or (drop n xs) i 0 < 256
bytes_of_drop xs n small i = rw (get_or-drop n xs i 0) (small (n + i))

-- sealing what a cell opens to gives the cell
pub sealed_of_opened : (key cell block : List ℕ) → 12 ≤ length cell → ((i : ℕ) → get_or cell i 0 < 256)
    → block ≡ covered (seed_of key (step_of cell)) (row_of cell) (drop 12 cell)
    → sealed key (step_of cell) (row_of cell) block ≡ cell
unfolding sealed step_of row_of
sealed_of_opened key cell block long small is =
    let after = drop 4 cell in
    let step : to_be_bytes w32 (step_of cell) ≡ take 4 cell =
    be_bytes_4 (take 4 cell) (step_of cell) (length-take-le 4 cell (omega arith)) (bytes_of_take cell 4 small) refl in
    let row : to_be_bytes w64 (row_of cell) ≡ take 8 after =
    be_bytes_8 (take 8 after) (row_of cell) (length-take-le 8 after (omega (arith, length-drop 4 cell))) (bytes_of_take after 8 (bytes_of_drop cell 4 small)) refl in
    let rest : covered (seed_of key (step_of cell)) (row_of cell) block ≡ drop 12 cell =
    ap (covered (seed_of key (step_of cell)) (row_of cell)) is
    ∙ covered_from-covered_from (seed_of key (step_of cell)) (row_of cell) 0 (drop 12 cell) in
    ap (λ (xs : List ℕ). xs ++ to_be_bytes w64 (row_of cell) ++ covered (seed_of key (step_of cell)) (row_of cell) block) step
    ∙ ap (λ (xs : List ℕ). take 4 cell ++ xs ++ covered (seed_of key (step_of cell)) (row_of cell) block) row
    ∙ ap (λ (xs : List ℕ). take 4 cell ++ take 8 after ++ xs) (rest ∙ sym (drop-drop 8 4 cell))
    ∙ append_assoc (take 4 cell) (take 8 after) (drop 8 after)
    ∙ ap (λ (xs : List ℕ). take 4 cell ++ xs) (take-append-drop 8 after)
    ∙ take-append-drop 4 cell

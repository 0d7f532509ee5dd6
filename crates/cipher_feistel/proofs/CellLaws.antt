-- Cells are as long as their blocks, and determine them.
use Rattle.std.proofs.Common.{◌≡◌, ℕ, ◌+◌, ◌/◌, List, length, arith, length-append}
use Rattle.cipher_feistel.specs.Feistel.{Halves, after_rounds, halves_of, joined, sealed}
use Rattle.cipher_feistel.specs.Laws.{IsBlock}
use Rattle.cipher_feistel.proofs.Rounds.{HasLengths, after_rounds_lengths}
use Rattle.cipher_feistel.proofs.Blocks.{halves_of_lengths, sealed_cancel}

-- two halves of n bytes join to 2 n
length-joined : (h : Halves) (n : ℕ) → HasLengths h n → length (joined h) ≡ n + n
unfolding joined
length-joined h n sized = omega (arith, sized.of_left, sized.of_right, length-append h.left h.right)

-- a cell is as long as its block
pub cell_length : (key block : List ℕ) → IsBlock block → length (sealed key block) ≡ length block
unfolding sealed
cell_length key block fits =
    let sized = after_rounds_lengths key (length block / 2) (omega (arith, fits.short)) 8 (halves_of block)
    (halves_of_lengths block (length block / 2) (omega (arith, fits.even))) in
    omega (arith, fits.even, length-joined (after_rounds key 8 (halves_of block)) (length block / 2) sized)

-- blocks of one length have equal cells only where they are equal
pub cells_determine : (key block other : List ℕ) → IsBlock block → length other ≡ length block
    → sealed key other ≡ sealed key block → other ≡ block
cells_determine key block other fits same e = sealed_cancel key block other fits.even (omega (arith, fits.short)) same e

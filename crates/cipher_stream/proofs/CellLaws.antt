-- A cell's length, the place that it names, and that it determines its block.
use Rattle.std.proofs.Common.{◌≡◌, ℕ, ◌+◌, ◌^◌, ◌<◌, List, [], ◌∷◌, length, drop, arith, refl, sym, ap, ◌∙◌}
use Rattle.cipher_stream.specs.Stream.{seed_of, covered_from, covered, sealed}
use Rattle.cipher_stream.specs.Laws.{NamesItsPlace}
use Rattle.cipher_stream.proofs.Covering.{covered_from-covered_from}
use Rattle.cipher_stream.proofs.Cells.{sealed_step, sealed_row, sealed_rest}

length-covered_from : (seed : List ℕ) (row place : ℕ) (block : List ℕ) → length (covered_from seed row place block) ≡ length block
length-covered_from seed row place [] = refl
length-covered_from seed row place (byte ∷ rest) = omega (arith, length-covered_from seed row (place + 1) rest)

-- a cell has twelve bytes more than its block
pub cell_length : (key : List ℕ) (step row : ℕ) (block : List ℕ) → length (sealed key step row block) ≡ length block + 12
unfolding sealed
cell_length key step row block = omega (arith, length-covered_from (seed_of key step) row 0 block)

-- a cell names its step and its row
pub names_its_place : (key : List ℕ) (step row : ℕ) (block : List ℕ) → step < 2 ^ 32 → row < 2 ^ 64
    → NamesItsPlace (sealed key step row block) step row
names_its_place key step row block step_fits row_fits =
    record { its_step = sealed_step key step row block step_fits; its_row = sealed_row key step row block row_fits }

-- blocks have equal cells at one place only where they are equal
pub cells_determine : (key : List ℕ) (step row : ℕ) (block other : List ℕ) → sealed key step row block ≡ sealed key step row other
    → block ≡ other
cells_determine key step row block other same =
    let rest : covered (seed_of key step) row block ≡ covered (seed_of key step) row other =
    sym (sealed_rest key step row block) ∙ ap (drop 12) same ∙ sealed_rest key step row other in
    sym (covered_from-covered_from (seed_of key step) row 0 block)
    ∙ ap (covered (seed_of key step) row) rest
    ∙ covered_from-covered_from (seed_of key step) row 0 other

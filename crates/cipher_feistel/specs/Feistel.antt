-- What the deterministic seal is: the two halves of a block, turned eight times under a key, where each
-- turn xors one half with hashes of the other. docs/CIPHERS.md, "Deterministic seal".
use Rattle.std.specs.Prelude.{ℕ, zero, suc, ◌/◌, List, ◌∷◌, ◌++◌, length, take, drop, bit_xor}
use Rattle.std.specs.Simd.Lanes.{zip2}
use Rattle.sha2.specs.Sha256.{sha256}

-- The two halves of a block.
pub record Halves : Type 0 where
  pub left : List ℕ
  pub right : List ℕ

-- The bytes of a list, each xored with the byte at its place in the other list, as far as both go.
unfoldable pub xored : List ℕ → List ℕ → List ℕ
xored bytes others = zip2 bit_xor bytes others

-- The hash of the key, the byte 68, the number of the round, the number of the part and the right half.
unfoldable pub round_hash : List ℕ → ℕ → ℕ → List ℕ → List ℕ
round_hash key round part right = sha256 (key ++ 68 ∷ round ∷ part ∷ right)

-- The mask of a round: the hashes of part 0 and part 1, joined and cut to the length of the right half.
unfoldable pub mask : List ℕ → ℕ → List ℕ → List ℕ
mask key round right = take (length right) (round_hash key round 0 right ++ round_hash key round 1 right)

-- One round: the right half goes to the left, and the left half, xored with the mask, to the right.
unfoldable pub turned : List ℕ → ℕ → Halves → Halves
turned key round halves = record {
  left = halves.right;
  right = xored halves.left (mask key round halves.right);
}

-- The halves after the first so many rounds, which are numbered from 0.
unfoldable pub after_rounds : List ℕ → ℕ → Halves → Halves
after_rounds key zero halves = halves
after_rounds key (suc round) halves = turned key round (after_rounds key round halves)

-- A block cut in the middle.
unfoldable pub halves_of : List ℕ → Halves
halves_of block = record {
  left = take (length block / 2) block;
  right = drop (length block / 2) block;
}

-- The left half and then the right half.
unfoldable pub joined : Halves → List ℕ
joined halves = halves.left ++ halves.right

-- The cell of a block: its halves after eight rounds, joined.
unfoldable pub sealed : List ℕ → List ℕ → List ℕ
sealed key block = joined (after_rounds key 8 (halves_of block))

-- A round's mask: its length, and how many hashes a half needs.
use Rattle.std.proofs.Common.{◌≡◌, ℕ, ◌≤◌, List, ◌++◌, length, arith, length-append}
use Rattle.std.proofs.lemmas.List.{length-take-le}
use Rattle.sha2.proofs.Facts256.{length-sha256}
use Rattle.cipher_feistel.specs.Feistel.{mask, round_hash, xored}
use Rattle.cipher_feistel.proofs.Xored.{xored-append, xored-append_right, xored_front}

module _ (key : List ℕ) (round : ℕ) (right : List ℕ) where
  -- a hash has 32 bytes
  length-round_hash : (part : ℕ) → length (round_hash key round part right) ≡ 32
  unfolding round_hash
  length-round_hash part = length-sha256 _

  -- a mask is as long as the half that it is made of
  pub length-mask : length right ≤ 64 → length (mask key round right) ≡ length right
  unfolding mask
  length-mask short =
      let first = length-round_hash 0 in
      let second = length-round_hash 1 in
      let both = length-append (round_hash key round 0 right) (round_hash key round 1 right) in
      length-take-le _ _ (omega arith)

  -- the cut to the half's length changes nothing in an xor
  xored_mask : (left : List ℕ) → length left ≡ length right →
      xored left (mask key round right) ≡ xored left (round_hash key round 0 right ++ round_hash key round 1 right)
  unfolding mask
  xored_mask left same = rw (← same) (xored_front left (round_hash key round 0 right ++ round_hash key round 1 right))

  -- a half of up to 32 bytes needs the first hash alone
  pub one_hash : (left : List ℕ) → length left ≡ length right → length left ≤ 32 →
      xored left (round_hash key round 0 right) ≡ xored left (mask key round right)
  one_hash left same short =
      let first = length-round_hash 0 in
      let cut = xored_mask left same in
      let part = xored-append_right left (round_hash key round 0 right) (round_hash key round 1 right) (omega arith) in
      cc

  -- the first 32 bytes of a longer one are xored with the first hash, and the others with the second
  pub two_hashes : (left front back : List ℕ) → left ≡ front ++ back → length left ≡ length right → length front ≡ 32 →
      xored front (round_hash key round 0 right) ++ xored back (round_hash key round 1 right) ≡ xored left (mask key round right)
  two_hashes left front back parts same full =
      let first = length-round_hash 0 in
      let cut = xored_mask left same in
      let halves = xored-append front back (round_hash key round 0 right) (round_hash key round 1 right) (omega arith) in
      cc

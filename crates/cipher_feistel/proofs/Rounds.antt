-- Each round can be undone, and so can any number of them: halves of one length that are turned into the same are the same.
use Rattle.std.proofs.Common.{◌≡◌, ℕ, suc, zero, ◌+◌, ◌-◌, ◌<◌, ◌≤◌, List, length, ap, arith, add-one, ◌∙◌}
use Rattle.cipher_feistel.specs.Feistel.{Halves, after_rounds, mask, turned, xored}
use Rattle.cipher_feistel.proofs.Masks.{length-mask}
use Rattle.cipher_feistel.proofs.Xored.{length-xored, xored_twice}

-- both halves have n bytes
pub record HasLengths (h : Halves) (n : ℕ) : Type 0 where
  pub of_left : length h.left ≡ n
  pub of_right : length h.right ≡ n

-- where the mask of the left half was xored onto the right one, a round takes it off and puts both in their places
pub turned_back : (key : List ℕ) (round : ℕ) (left right : List ℕ) → length left ≡ length right → length left ≤ 64 →
    turned key round (record { left = xored right (mask key round left); right = left }) ≡ record { left = left; right = right }
unfolding turned
turned_back key round left right same short =
    let long = length-mask key round left short in
    let twice = xored_twice right (mask key round left) (omega arith) in
    λ i. record { left = left; right = twice i }

module _ (key : List ℕ) (n : ℕ) (short : n ≤ 64) where
  -- a round keeps the lengths
  turned_lengths : (round : ℕ) (h : Halves) → HasLengths h n → HasLengths (turned key round h) n
  unfolding turned
  turned_lengths round h sized =
      let long = length-mask key round h.right (omega arith) in
      let kept = length-xored h.left (mask key round h.right) (omega arith) in
      record { of_left = sized.of_right; of_right = omega arith }

  -- a round takes no two halves to the same
  turned_cancel : (round : ℕ) (a b : Halves) → HasLengths a n → HasLengths b n → turned key round a ≡ turned key round b → a ≡ b
  unfolding turned
  turned_cancel round a b sized_a sized_b e =
      let rights : a.right ≡ b.right = ap (λ (h : Halves). h.left) e in
      let xors : xored a.left (mask key round a.right) ≡ xored b.left (mask key round b.right) = ap (λ (h : Halves). h.right) e in
      let long_a = length-mask key round a.right (omega arith) in
      let long_b = length-mask key round b.right (omega arith) in
      let twice_a = xored_twice a.left (mask key round a.right) (omega arith) in
      let twice_b = xored_twice b.left (mask key round b.right) (omega arith) in
      let lefts : a.left ≡ b.left = cc in
      λ i. record { left = lefts i; right = rights i }

  -- rounds keep the lengths
  pub after_rounds_lengths : (rounds : ℕ) (h : Halves) → HasLengths h n → HasLengths (after_rounds key rounds h) n
  unfolding after_rounds
  after_rounds_lengths zero h sized = sized
  after_rounds_lengths (suc rounds) h sized = turned_lengths rounds (after_rounds key rounds h) (after_rounds_lengths rounds h sized)

  -- rounds take no two halves to the same
  pub after_rounds_cancel : (rounds : ℕ) (a b : Halves) → HasLengths a n → HasLengths b n →
      after_rounds key rounds a ≡ after_rounds key rounds b → a ≡ b
  unfolding after_rounds
  after_rounds_cancel zero a b sized_a sized_b e = e
  after_rounds_cancel (suc rounds) a b sized_a sized_b e =
      after_rounds_cancel rounds a b sized_a sized_b
      (turned_cancel rounds (after_rounds key rounds a) (after_rounds key rounds b)
      (after_rounds_lengths rounds a sized_a) (after_rounds_lengths rounds b sized_b) e)

-- ---- the steps of a loop

-- no round
pub after_rounds_none : (key : List ℕ) (rounds : ℕ) (h : Halves) → rounds ≡ 0 → after_rounds key rounds h ≡ h
unfolding after_rounds
after_rounds_none key rounds h none = ap (λ n. after_rounds key n h) none

-- one more round
pub after_rounds_more : (key : List ℕ) (rounds : ℕ) (h now next : Halves) →
    after_rounds key rounds h ≡ now → turned key rounds now ≡ next → after_rounds key (rounds + 1) h ≡ next
unfolding after_rounds
after_rounds_more key rounds h now next before turn = rw (add-one rounds) (ap (turned key rounds) before ∙ turn)

-- the last of some rounds
pub after_rounds_last : (key : List ℕ) (rounds : ℕ) (h now next : Halves) → 0 < rounds →
    after_rounds key (rounds - 1) h ≡ now → turned key (rounds - 1) now ≡ next → after_rounds key rounds h ≡ next
after_rounds_last key rounds h now next some before turn =
    let same : rounds ≡ rounds - 1 + 1 = omega arith in
    ap (λ n. after_rounds key n h) same ∙ after_rounds_more key (rounds - 1) h now next before turn

-- Gaps are from 1 to 255, so heights rise with the digit and fit two bytes.
use Rattle.std.proofs.Common.{◌≡◌, ◌≢◌, ℕ, zero, suc, ◌+◌, ◌-◌, ◌*◌, ◌/◌, ◌%◌, ◌<◌, ◌≤◌, List, ap, ◌∙◌, arith, refl, add-one, add-suc, add-zero, zero-add, sym, ◌^◌, inl, inr}
use Rattle.std.proofs.lemmas.Bool.{cases_order}
use Rattle.cipher_order.specs.Order.{gap, gap_block, height}

pub gap_positive : (key earlier : List ℕ) (i : ℕ) → 1 ≤ gap key earlier i
unfolding gap
gap_positive key earlier i = omega arith

pub gap_limit : (key earlier : List ℕ) (i : ℕ) → gap key earlier i ≤ 255
unfolding gap
gap_limit key earlier i = omega arith

-- what the gaps below digit i add up to
unfoldable pub risen : List ℕ → List ℕ → ℕ → ℕ
risen key earlier zero = 0
risen key earlier (suc d) = height key earlier d

pub risen_none : (key earlier : List ℕ) → 0 ≡ risen key earlier 0
unfolding risen
risen_none key earlier = refl

-- the gaps below digit i and its own reach its height
pub height_is : (key earlier : List ℕ) (i : ℕ) → height key earlier i ≡ risen key earlier i + gap key earlier i
unfolding risen height
height_is key earlier zero = sym (zero-add (gap key earlier 0))
height_is key earlier (suc d) = refl

pub risen_height : (key earlier : List ℕ) (d : ℕ) → risen key earlier (d + 1) ≡ height key earlier d
unfolding risen
risen_height key earlier d = rw add-one refl

pub risen_more : (key earlier : List ℕ) (i : ℕ) → risen key earlier (i + 1) ≡ risen key earlier i + gap key earlier i
risen_more key earlier i = risen_height key earlier i ∙ height_is key earlier i

pub risen_limit : (key earlier : List ℕ) (i : ℕ) → risen key earlier i ≤ 255 * i
unfolding risen
risen_limit key earlier zero = omega arith
risen_limit key earlier (suc d) = omega (arith, gap_limit key earlier d, height_is key earlier d, risen_limit key earlier d)

-- a digit's height fits two bytes
pub height_limit : (key earlier : List ℕ) (d : ℕ) → d ≤ 256 → height key earlier d < 2 ^ 16
height_limit key earlier d h = omega (arith, gap_limit key earlier d, height_is key earlier d, risen_limit key earlier d)

height_grows : (key earlier : List ℕ) (d k : ℕ) → height key earlier d + k ≤ height key earlier (d + k)
unfolding height
height_grows key earlier d zero = rw (add-zero d) (omega arith)
height_grows key earlier d (suc k) = rw (add-suc d k) (omega (arith, gap_positive key earlier (suc (d + k)), height_grows key earlier d k))

-- a greater digit is higher
pub height_rises : (key earlier : List ℕ) (d e : ℕ) → d < e → height key earlier d < height key earlier e
height_rises key earlier d e h =
    let same : d + (e - d) ≡ e = omega arith in
    let grown = height_grows key earlier d (e - d) in
    omega (arith, rw same at grown)

-- where the digits below i are lower than wanted and digit i is higher, none is as high as wanted
pub none_as_high : (key earlier : List ℕ) (i wanted : ℕ) → ((d : ℕ) → d < i → height key earlier d < wanted) → wanted < height key earlier i → (d : ℕ) → height key earlier d ≢ wanted
none_as_high key earlier i wanted lower higher d same = elim (cases_order d i) [
  | inl equals ↦ omega (arith, ap (height key earlier) equals)
  | inr (inl below) ↦ omega (arith, lower d below)
  | inr (inr above) ↦ omega (arith, height_rises key earlier i d above)
]

-- the block that gave digit i its gap serves the next digit, unless that begins a block
pub at_hand_more : (key earlier block : List ℕ) (i : ℕ) → block ≡ gap_block key earlier (i / 32) → (i + 1) % 32 ≢ 0 → block ≡ gap_block key earlier ((i + 1) / 32)
at_hand_more key earlier block i h other = h ∙ ap (gap_block key earlier) (omega arith)

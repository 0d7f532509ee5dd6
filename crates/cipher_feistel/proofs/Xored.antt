-- Lists xored byte by byte: lengths, fronts, and that the same xor twice gives the list back.
use Rattle.std.proofs.Common.{◌≡◌, ℕ, suc, zero, ◌+◌, ◌<◌, ◌≤◌, List, [], ◌∷◌, ◌++◌, length, get_or, take, drop, set, refl, ap, arith, add-one, ◌∙◌}
use Rattle.std.specs.Prelude.{bit_xor}
use Rattle.std.specs.Int.Bits.{xor_assoc, xor_self, xor_zero_r}
use Rattle.std.specs.Simd.Lanes.{zip2}
use Rattle.std.proofs.lemmas.Simd.{length-zip2}
use Rattle.cipher_feistel.specs.Feistel.{xored}

-- a list xored with one as long keeps its length
pub length-xored : (xs ys : List ℕ) → length xs ≡ length ys → length (xored xs ys) ≡ length xs
unfolding xored
length-xored xs ys e = length-zip2 bit_xor xs ys e

-- a number xored twice by the same is itself
xor_twice : (x y : ℕ) → bit_xor (bit_xor x y) y ≡ x
xor_twice x y = xor_assoc x y y ∙ ap (bit_xor x) (xor_self y) ∙ xor_zero_r x

-- the same xor twice gives the list back
pub xored_twice : (xs ys : List ℕ) → length xs ≡ length ys → xored (xored xs ys) ys ≡ xs
unfolding xored
xored_twice [] ys e = refl
xored_twice (x ∷ xs) [] e = absurd (omega arith)
xored_twice (x ∷ xs) (y ∷ ys) e =
    let rest : zip2 bit_xor (zip2 bit_xor xs ys) ys ≡ xs = xored_twice xs ys (omega arith) in
    let first = xor_twice x y in
    cc

-- what stands past the first list's end is not used
pub xored_front : (xs ys : List ℕ) → xored xs (take (length xs) ys) ≡ xored xs ys
unfolding xored
xored_front [] ys = refl
xored_front (x ∷ xs) [] = refl
xored_front (x ∷ xs) (y ∷ ys) = ap (λ zs. bit_xor x y ∷ zs) (xored_front xs ys)

-- nor is what follows a list that is long enough
pub xored-append_right : (xs ys zs : List ℕ) → length xs ≤ length ys → xored xs (ys ++ zs) ≡ xored xs ys
unfolding xored
xored-append_right [] ys zs h = refl
xored-append_right (x ∷ xs) [] zs h = absurd (omega arith)
xored-append_right (x ∷ xs) (y ∷ ys) zs h = ap (λ ws. bit_xor x y ∷ ws) (xored-append_right xs ys zs (omega arith))

-- joined lists are xored part by part
pub xored-append : (ws xs ys zs : List ℕ) → length ws ≡ length ys → xored (ws ++ xs) (ys ++ zs) ≡ xored ws ys ++ xored xs zs
unfolding xored
xored-append [] xs [] zs e = refl
xored-append [] xs (y ∷ ys) zs e = absurd (omega arith)
xored-append (w ∷ ws) xs [] zs e = absurd (omega arith)
xored-append (w ∷ ws) xs (y ∷ ys) zs e = ap (λ rest. bit_xor w y ∷ rest) (xored-append ws xs ys zs (omega arith))

-- ---- a list whose first bytes are xored, one more at each step

-- none is
pub xored_none : (xs ys : List ℕ) → xs ≡ xored [] ys ++ xs
unfolding xored
xored_none xs ys = refl

xored_next : (xs ys : List ℕ) (i : ℕ) → i < length xs → i < length ys →
    set (xored (take i xs) ys ++ drop i xs) i (bit_xor (get_or (xored (take i xs) ys ++ drop i xs) i 0) (get_or ys i 0))
    ≡ xored (take (suc i) xs) ys ++ drop (suc i) xs
unfolding xored
xored_next [] ys i h k = absurd (omega arith)
xored_next (x ∷ xs) [] i h k = absurd (omega arith)
xored_next (x ∷ xs) (y ∷ ys) zero h k = refl
xored_next (x ∷ xs) (y ∷ ys) (suc i) h k = ap (λ rest. bit_xor x y ∷ rest) (xored_next xs ys i (omega arith) (omega arith))

-- one more is
pub xored_more : (now xs ys : List ℕ) (i : ℕ) → i < length xs → i < length ys → now ≡ xored (take i xs) ys ++ drop i xs →
    set now i (bit_xor (get_or now i 0) (get_or ys i 0)) ≡ xored (take (i + 1) xs) ys ++ drop (i + 1) xs
xored_more now xs ys i h k e =
    ap (λ zs. set zs i (bit_xor (get_or zs i 0) (get_or ys i 0))) e ∙ rw (add-one i) (xored_next xs ys i h k)

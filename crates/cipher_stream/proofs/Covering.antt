-- The stream that covers a block comes off again.
use Rattle.std.proofs.Common.{◌≡◌, ℕ, ◌+◌, List, [], ◌∷◌, bit_xor, refl, ap, ◌∙◌}
use lib.Bits.{xor_assoc, xor_self, xor_zero_r}
use Rattle.cipher_stream.specs.Stream.{stream_byte, covered_from}

xor_twice : (x y : ℕ) → bit_xor (bit_xor x y) y ≡ x
xor_twice x y = xor_assoc x y y ∙ ap (bit_xor x) (xor_self y) ∙ xor_zero_r x

-- the stream comes off again
pub covered_from-covered_from : (seed : List ℕ) (row place : ℕ) (block : List ℕ)
    → covered_from seed row place (covered_from seed row place block) ≡ block
covered_from-covered_from seed row place [] = refl
covered_from-covered_from seed row place (byte ∷ rest) =
    ap (λ (x : ℕ). x ∷ covered_from seed row (place + 1) (covered_from seed row (place + 1) rest)) (xor_twice byte (stream_byte seed row place))
    ∙ ap (λ (xs : List ℕ). byte ∷ xs) (covered_from-covered_from seed row (place + 1) rest)

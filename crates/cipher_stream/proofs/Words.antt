-- The bytes that the generator draws from word 0 on are the bytes of the row's stream.
use Rattle.std.proofs.Common.{◌≡◌, ℕ, zero, suc, ◌+◌, ◌-◌, ◌*◌, ◌/◌, ◌%◌, ◌^◌, ◌<◌, List, length, get_or, refl, ap, ◌∙◌, arith, inl, inr}
use Rattle.std.proofs.lemmas.List.{length-append, get_or_append_left, get_or-append_right, get_or-take}
use Rattle.std.proofs.lemmas.Bool.{cases_lt}
use Rattle.std.specs.Int.{w32, to_le_bytes}
use Rattle.rand_core.specs.Stream.{Stream, fill_bytes}
use Rattle.rand_core.specs.Steps.{word_bytes, fill_via_u32, steps_u32, stream_of}
use Rattle.rand_core.proofs.StepsLemmas.{fill_bytes-value}
use Rattle.rand_chacha.specs.ChaCha.{ChaCha, word_at, next_word, key_of}
use Rattle.cipher_stream.specs.Stream.{stream_byte}

-- a generator at a place of a stream
abbrev pub at_word : List ℕ → ℕ → ℕ → ChaCha
at_word key row place = record { key = key; stream = row; word_pos = place }

-- the bytes of the first k words, and the generator after them
abbrev pub drawn : List ℕ → ℕ → ℕ → List ℕ × ChaCha
drawn key row k = word_bytes (to_le_bytes w32) (next_word 10) k (at_word key row 0)

after_words : (key : List ℕ) (row k : ℕ) → k < 2 ^ 68 → (drawn key row k).1 ≡ at_word key row k
unfolding word_bytes
after_words key row zero small = refl
after_words key row (suc k) small =
    let before = after_words key row k (omega arith) in
    let place : (k + 1) % 2 ^ 68 ≡ suc k = omega arith in
    ap (λ (g : ChaCha). (next_word 10 g).1) before ∙ ap (at_word key row) place

length_words : (key : List ℕ) (row k : ℕ) → length (drawn key row k).0 ≡ 4 * k
unfolding word_bytes
length_words key row zero = refl
length_words key row (suc k) =
    let before = length_words key row k in
    length-append (drawn key row k).0 _ ∙ omega arith

word_byte : (key : List ℕ) (row k i : ℕ) → k < 2 ^ 68 → i < 4 * k
    → get_or (drawn key row k).0 i 0 ≡ get_or (to_le_bytes w32 (word_at 10 key row (i / 4))) (i % 4) 0
unfolding word_bytes
word_byte key row zero i small within = absurd (omega arith)
word_byte key row (suc k) i small within =
    let long = length_words key row k in
    let after = after_words key row k (omega arith) in
    elim (cases_lt i (4 * k)) [
      | inl below ↦
          get_or_append_left (drawn key row k).0 _ 0 i (omega arith)
          ∙ word_byte key row k i (omega arith) below
      | inr last ↦
          let word : k ≡ i / 4 = omega arith in
          let place : i - 4 * k ≡ i % 4 = omega arith in
          get_or-append_right (drawn key row k).0 _ (4 * k) i 0 long last
          ∙ ap (λ (g : ChaCha). get_or (to_le_bytes w32 (next_word 10 g).0) (i - 4 * k) 0) after
          ∙ ap (λ (n : ℕ). get_or (to_le_bytes w32 (word_at 10 key row n)) (i - 4 * k) 0) word
          ∙ ap (λ (n : ℕ). get_or (to_le_bytes w32 (word_at 10 key row (i / 4))) n 0) place
    ]

-- a byte of those that fill n places
filled_byte : (seed : List ℕ) (row n i : ℕ) → n < 2 ^ 68 → i < n
    → get_or (fill_via_u32 (next_word 10) n (at_word (key_of seed) row 0)).0 i 0 ≡ stream_byte seed row i
unfolding stream_byte
filled_byte seed row n i small within =
    get_or-take n (drawn (key_of seed) row ((n + 3) / 4)).0 i 0 within
    ∙ word_byte (key_of seed) row ((n + 3) / 4) i (omega arith) (omega arith)

-- what `fill_bytes` writes at the start of a row's stream
pub filled : (seed : List ℕ) (row n : ℕ) (g : ChaCha) (xs : List ℕ) (u : Stream) → n < 2 ^ 68 → g ≡ at_word (key_of seed) row 0
    → (xs, u) ≡ fill_bytes n (stream_of (steps_u32 (next_word 10)) g)
    → (i : ℕ) → i < n → get_or xs i 0 ≡ stream_byte seed row i
filled seed row n g xs u small start call i within =
    ap (λ (ys : List ℕ). get_or ys i 0) (fill_bytes-value (steps_u32 (next_word 10)) n g xs u call)
    ∙ ap (λ (h : ChaCha). get_or (fill_via_u32 (next_word 10) n h).0 i 0) start
    ∙ filled_byte seed row n i small within

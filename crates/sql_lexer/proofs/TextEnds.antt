-- The end of a text in quotes, as the search for it goes from byte to byte.
use Rattle.std.proofs.Common.{◌≡◌, ◌≢◌, ℕ, ◌+◌, ◌<◌, ◌≤◌, List, [], ◌∷◌, length, get_or, drop, Option, Some, None, refl, ap, ◌∙◌, arith, length-drop, get_or-drop, add-zero}
use Rattle.std.specs.Prelude.{option_map}
use Rattle.std.proofs.lemmas.List.{drop_more, drop_all}
use Rattle.sql_lexer.specs.Lexing.{text_end}
use Rattle.sql_lexer.proofs.Bytes.{quote_is, quote_is_not}

-- the end that is found in the rest, counted from `at` bytes before
abbrev pub past : ℕ → Option ℕ → Option ℕ
past at found = option_map (λ n. at + n) found

-- nothing is passed at the start
pub past-start : (found : Option ℕ) → past 0 found ≡ found
past-start None = refl
past-start (Some n) = ap (λ x. Some x) (omega arith)

past-past : (m n : ℕ) (found : Option ℕ) → past m (option_map (λ k. k + n) found) ≡ past (m + n) found
past-past m n None = refl
past-past m n (Some k) = ap (λ x. Some x) (omega arith)

pub text_end-other : (b : ℕ) (rest : List ℕ) → b ≢ 39 → text_end (b ∷ rest) ≡ option_map (λ n. n + 1) (text_end rest)
text_end-other b [] other = rw (quote_is_not b other) refl
text_end-other b (c ∷ rest) other = rw (quote_is_not b other) refl

pub text_end-doubled : (b c : ℕ) (rest : List ℕ) → b ≡ 39 → c ≡ 39 → text_end (b ∷ c ∷ rest) ≡ option_map (λ n. n + 2) (text_end rest)
text_end-doubled b c rest quote again = rw (quote_is b quote, quote_is c again) refl

text_end-end : (b : ℕ) (rest : List ℕ) → b ≡ 39 → (0 < length rest → get_or rest 0 0 ≢ 39) → text_end (b ∷ rest) ≡ Some 1
text_end-end b [] quote alone = rw (quote_is b quote) refl
text_end-end b (c ∷ rest) quote alone = rw (quote_is b quote, quote_is_not c (alone (omega arith))) refl

-- a byte that is no quote is passed
pub past-other : (bytes : List ℕ) (at : ℕ) → at < length bytes → get_or bytes at 0 ≢ 39
    → past at (text_end (drop at bytes)) ≡ past (at + 1) (text_end (drop (at + 1) bytes))
past-other bytes at below other =
    rw (drop_more bytes at 0 below, text_end-other (get_or bytes at 0) (drop (at + 1) bytes) other) (past-past at 1 _)

-- a doubled quote is passed
pub past-doubled : (bytes : List ℕ) (at : ℕ) → at + 1 < length bytes → get_or bytes at 0 ≡ 39 → get_or bytes (at + 1) 0 ≡ 39
    → past at (text_end (drop at bytes)) ≡ past (at + 2) (text_end (drop (at + 2) bytes))
past-doubled bytes at below quote again =
    let here : at < length bytes = omega arith in
    let next : at + 1 + 1 ≡ at + 2 = omega arith in
    let second : drop (at + 1) bytes ≡ get_or bytes (at + 1) 0 ∷ drop (at + 2) bytes =
    drop_more bytes (at + 1) 0 below ∙ ap (λ i. get_or bytes (at + 1) 0 ∷ drop i bytes) next in
    rw (drop_more bytes at 0 here, second, text_end-doubled (get_or bytes at 0) (get_or bytes (at + 1) 0) (drop (at + 2) bytes) quote again)
    (past-past at 2 _)

first_of-drop : (bytes : List ℕ) (at : ℕ) → get_or (drop at bytes) 0 0 ≡ get_or bytes at 0
first_of-drop bytes at = get_or-drop at bytes 0 0 ∙ ap (λ i. get_or bytes i 0) (add-zero at)

-- a quote that no quote follows is the end
pub past-end : (bytes : List ℕ) (at : ℕ) → at < length bytes → get_or bytes at 0 ≡ 39
    → (at + 1 < length bytes → get_or bytes (at + 1) 0 ≢ 39) → past at (text_end (drop at bytes)) ≡ Some (at + 1)
past-end bytes at below quote alone =
    rw (
      drop_more bytes at 0 below,
      text_end-end (get_or bytes at 0) (drop (at + 1) bytes) quote
          (λ some. rw (first_of-drop bytes (at + 1)) (alone (omega (arith, length-drop (at + 1) bytes)))),
    ) refl

-- where no byte is left, there is no end
pub past-none : (bytes : List ℕ) (at : ℕ) → length bytes ≤ at → past at (text_end (drop at bytes)) ≡ None
past-none bytes at none_left = rw (drop_all at bytes none_left) refl

pub ruleset ends = (past-start, past-other, past-doubled, past-end, past-none)

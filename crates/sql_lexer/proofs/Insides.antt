-- What the end of a text in quotes is, in the words of the tokens: what is inside ends no text, and a quote stands behind it.
use Rattle.std.proofs.Common.{◌≡◌, ◌≢◌, ◌⊎◌, inl, inr, ℕ, suc, ◌+◌, ◌<◌, ◌≤◌, List, [], ◌∷◌, ◌++◌, length, take, Option, Some, None, refl, sym, ap, ◌∙◌, arith, append_assoc, length-append}
use Rattle.std.specs.Prelude.{option_map, IfSome}
use Rattle.std.proofs.lemmas.List.{take_at}
use Rattle.sql_lexer.specs.Lexing.{is_quote, text_end}
use Rattle.sql_lexer.specs.Longest.{IsInside, IsText}
use Rattle.sql_lexer.proofs.Bytes.{is_from_quote, is_not_from_quote}
use Rattle.sql_lexer.proofs.Runs.{branch, one_and}
use Rattle.sql_lexer.proofs.TextEnds.{past, past-start, text_end-other, text_end-doubled}

-- after the first n of the bytes, the last of which is a quote, a text has ended
pub record Ended (bytes : List ℕ) (n : ℕ) : Type 0 where
  pub inside : List ℕ
  pub more : List ℕ
  pub split : bytes ≡ inside ++ 39 ∷ more
  pub count : n ≡ length inside + 1
  pub ends_none : IsInside inside

-- what the end that is found says of the bytes
abbrev pub Finds : List ℕ → Option ℕ → Type 0
Finds bytes None = IsInside bytes
Finds bytes (Some n) = Ended bytes n

inside-other : (b : ℕ) (inside : List ℕ) → b ≢ 39 → IsInside inside → IsInside (b ∷ inside)
inside-other b [] other ends_none = other
inside-other b (c ∷ rest) other ends_none = inr (other, ends_none)

finds-end : (b : ℕ) (rest : List ℕ) → b ≡ 39 → Ended (b ∷ rest) 1
finds-end b rest quote = record { inside = []; more = rest; split = ap (λ c. c ∷ rest) quote; count = refl; ends_none = tt }

finds-doubled : (b c : ℕ) (rest : List ℕ) (found : Option ℕ) → b ≡ 39 → c ≡ 39 → Finds rest found
    → Finds (b ∷ c ∷ rest) (option_map (λ n. n + 2) found)
finds-doubled b c rest None quote again finds = inl (quote, again, finds)
finds-doubled b c rest (Some n) quote again finds = record {
  inside = b ∷ c ∷ finds.inside;
  more = finds.more;
  split = ap (λ bytes. b ∷ c ∷ bytes) finds.split;
  count = omega (arith, finds.count);
  ends_none = inl (quote, again, finds.ends_none);
}

finds-other : (b c : ℕ) (rest : List ℕ) (found : Option ℕ) → b ≢ 39 → Finds (c ∷ rest) found
    → Finds (b ∷ c ∷ rest) (option_map (λ n. n + 1) found)
finds-other b c rest None other finds = inr (other, finds)
finds-other b c rest (Some n) other finds = record {
  inside = b ∷ finds.inside;
  more = finds.more;
  split = ap (λ bytes. b ∷ bytes) finds.split;
  count = omega (arith, finds.count);
  ends_none = inside-other b finds.inside other finds.ends_none;
}

pub text_end-finds : (bytes : List ℕ) → Finds bytes (text_end bytes)
text_end-finds [] = tt
text_end-finds (b ∷ []) =
    branch (Finds (b ∷ [])) (is_quote b) (Some 1) None
    (λ quote. finds-end b [] (is_from_quote b quote)) (λ other. is_not_from_quote b other)
text_end-finds (b ∷ c ∷ rest) =
    let after_doubled : Finds rest (text_end rest) = text_end-finds rest in
    let after_other : Finds (c ∷ rest) (text_end (c ∷ rest)) = text_end-finds (c ∷ rest) in
    branch (Finds (b ∷ c ∷ rest)) (is_quote b) _ _
    (λ quote. branch (Finds (b ∷ c ∷ rest)) (is_quote c) _ _
    (λ again. finds-doubled b c rest (text_end rest) (is_from_quote b quote) (is_from_quote c again) after_doubled)
    (λ alone. finds-end b (c ∷ rest) (is_from_quote b quote)))
    (λ other. finds-other b c rest (text_end (c ∷ rest)) (is_not_from_quote b other) after_other)

-- the text that has ended, with its first quote
pub ended_text : (b : ℕ) (rest : List ℕ) (n : ℕ) → b ≡ 39 → Ended rest n → IsText (take (1 + n) (b ∷ rest))
ended_text b rest n quote ended =
    let whole : rest ≡ (ended.inside ++ 39 ∷ []) ++ ended.more = ended.split ∙ sym (append_assoc ended.inside (39 ∷ []) ended.more) in
    let long : length (ended.inside ++ 39 ∷ []) ≡ n = omega (arith, length-append ended.inside (39 ∷ []), ended.count) in
    let front : take n rest ≡ ended.inside ++ 39 ∷ [] = ap (take n) whole ∙ take_at (ended.inside ++ 39 ∷ []) ended.more n long in
    rw one_and (record { inside = ended.inside; spelled = rw (quote, front) refl; ends_none = ended.ends_none })

pub ended_within : (rest : List ℕ) (n : ℕ) → Ended rest n → n ≤ length rest
ended_within rest n ended =
    omega (arith, ended.count, ap length ended.split, length-append ended.inside (39 ∷ ended.more))

past-more : (m n : ℕ) (found : Option ℕ) → option_map (λ k. k + n) (past m found) ≡ past (n + m) found
past-more m n None = refl
past-more m n (Some k) = ap (λ x. Some x) (omega arith)

-- what is inside ends no text, whatever stands behind it
pub text_end-inside : (inside rest : List ℕ) → IsInside inside → text_end (inside ++ rest) ≡ past (length inside) (text_end rest)
text_end-inside [] rest ends_none = sym (past-start (text_end rest))
text_end-inside (b ∷ []) rest other =
    text_end-other b rest other ∙ ap (option_map (λ n. n + 1)) (sym (past-start (text_end rest))) ∙ past-more 0 1 (text_end rest)
text_end-inside (b ∷ c ∷ inside) rest ends_none =
    by_pair ends_none (text_end-inside inside rest) (text_end-inside (c ∷ inside) rest)
  where
    by_pair : ((b ≡ 39) × (c ≡ 39) × IsInside inside) ⊎ ((b ≢ 39) × IsInside (c ∷ inside))
        → (IsInside inside → text_end (inside ++ rest) ≡ past (length inside) (text_end rest))
        → (IsInside (c ∷ inside) → text_end (c ∷ (inside ++ rest)) ≡ past (suc (length inside)) (text_end rest))
        → text_end (b ∷ c ∷ (inside ++ rest)) ≡ past (suc (suc (length inside))) (text_end rest)
    by_pair (inl pair) after_pair after_one =
        let count : 2 + length inside ≡ suc (suc (length inside)) = omega arith in
        text_end-doubled b c (inside ++ rest) pair.0 pair.1 ∙ ap (option_map (λ n. n + 2)) (after_pair pair.2)
        ∙ past-more (length inside) 2 (text_end rest) ∙ ap (λ n. past n (text_end rest)) count
    by_pair (inr one) after_pair after_one =
        let count : 1 + suc (length inside) ≡ suc (suc (length inside)) = omega arith in
        text_end-other b (c ∷ (inside ++ rest)) one.0 ∙ ap (option_map (λ n. n + 1)) (after_one one.1)
        ∙ past-more (suc (length inside)) 1 (text_end rest) ∙ ap (λ n. past n (text_end rest)) count

-- an end that is found takes a byte
pub text_end-filled : (bytes : List ℕ) → IfSome (text_end bytes) (λ n. 0 < n)
text_end-filled bytes = by_end (text_end bytes) (text_end-finds bytes)
  where
    by_end : (found : Option ℕ) → Finds bytes found → IfSome found (λ n. 0 < n)
    by_end None finds = tt
    by_end (Some n) finds = omega (arith, finds.count)

-- What stands in front decides the tokens of the rest of a text.
use Rattle.std.proofs.Common.{◌≡◌, ℕ, zero, suc, ◌+◌, ◌-◌, ◌<◌, List, [], ◌∷◌, length, take, drop, Ok, Err, refl, sym, ap, ◌∙◌, arith, add-zero}
use Rattle.sql_lexer.specs.declared.token.TokenKind.{TokenKind}
use Rattle.mq_base.specs.Refusal.{refusal}
use Rattle.sql_lexer.specs.Codes.{bad_char, open_text}
use Rattle.sql_lexer.specs.declared.fronts.Front.TheVariants.{White, Taken, Bad, Open}
use Rattle.sql_lexer.specs.Lexing.{front_of, lexed_from, with_first}

-- passing over bytes is beginning behind them
pub lexed_from-skip : (skip at : ℕ) (bytes : List ℕ) → lexed_from skip at bytes ≡ lexed_from 0 (at + skip) (drop skip bytes)
unfolding lexed_from
lexed_from-skip zero at [] = refl
lexed_from-skip (suc skip) at [] = refl
lexed_from-skip zero at (b ∷ rest) = ap (λ place. lexed_from 0 place (b ∷ rest)) (sym (add-zero at))
lexed_from-skip (suc skip) at (b ∷ rest) =
    let place : at + 1 + skip ≡ at + suc skip = omega arith in
    lexed_from-skip skip (at + 1) rest ∙ ap (λ p. lexed_from 0 p (drop skip rest)) place

-- behind white space
pub lexed_from-white : (at : ℕ) (rest : List ℕ) → front_of rest ≡ White → 0 < length rest
    → lexed_from 0 at rest ≡ lexed_from 0 (at + 1) (drop 1 rest)
unfolding lexed_from
lexed_from-white at [] front some = absurd (omega arith)
lexed_from-white at (b ∷ rest) front some = rw (front, lexed_from) refl

-- a token, and what is behind it
pub lexed_from-taken : (at : ℕ) (rest : List ℕ) (kind : TokenKind) (n : ℕ) → front_of rest ≡ Taken kind n → 0 < n → 0 < length rest
    → lexed_from 0 at rest ≡ with_first (record { kind = kind; text = take n rest; at = at }) (lexed_from 0 (at + n) (drop n rest))
unfolding lexed_from
lexed_from-taken at [] kind n front filled some = absurd (omega arith)
lexed_from-taken at (b ∷ rest) kind zero front filled some = absurd (omega arith)
lexed_from-taken at (b ∷ rest) kind (suc n) front filled some =
    let less : suc n - 1 ≡ n = omega arith in
    let place : at + 1 + n ≡ at + suc n = omega arith in
    rw (front, lexed_from, less, lexed_from-skip n (at + 1) rest, place) refl

pub lexed_from-bad : (at : ℕ) (rest : List ℕ) → front_of rest ≡ Bad → 0 < length rest → lexed_from 0 at rest ≡ Err (refusal bad_char at 0)
unfolding lexed_from
lexed_from-bad at [] front some = absurd (omega arith)
lexed_from-bad at (b ∷ rest) front some = rw (front, lexed_from) refl

pub lexed_from-open : (at : ℕ) (rest : List ℕ) → front_of rest ≡ Open → 0 < length rest → lexed_from 0 at rest ≡ Err (refusal open_text at 0)
unfolding lexed_from
lexed_from-open at [] front some = absurd (omega arith)
lexed_from-open at (b ∷ rest) front some = rw (front, lexed_from) refl

pub lexed_from-end : (at : ℕ) (rest : List ℕ) → length rest ≡ 0 → lexed_from 0 at rest ≡ Ok []
unfolding lexed_from
lexed_from-end at [] none_left = refl
lexed_from-end at (b ∷ rest) none_left = absurd (omega arith)

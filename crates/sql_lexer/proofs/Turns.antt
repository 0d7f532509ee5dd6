-- The invariant of the loop over a text, and what each turn keeps of it.
use Rattle.std.proofs.Common.{◌≡◌, ℕ, ◌+◌, ◌-◌, ◌<◌, ◌≤◌, List, [], ◌∷◌, ◌++◌, map, length, take, drop, Result, Ok, Err, IsUtf8, refl, sym, ap, ◌∙◌, arith, append_assoc, length-drop}
use Rattle.std.specs.Str.{IsCharBoundary}
use Rattle.std.proofs.lemmas.List.{map_push, append-nil}
use Rattle.std.proofs.lemmas.Str.{IsUtf8-drop}
use Rattle.sql_lexer.specs.declared.token.TokenKind.{TokenKind}
use Rattle.sql_lexer.specs.declared.token.Token.{Token}
use Rattle.mq_base.specs.declared.refusal.Refusal.{Refusal}
use Rattle.mq_base.specs.Refusal.{refusal}
use Rattle.sql_lexer.specs.Codes.{bad_char, open_text}
use Rattle.sql_lexer.specs.declared.fronts.Front.TheVariants.{White, Taken, Bad, Open}
use Rattle.sql_lexer.specs.Lexing.{front_of, lexed, lexed_from, with_first, Lexeme, lexeme}
use Rattle.sql_lexer.specs.Longest.{IsLongest}
use Rattle.sql_lexer.proofs.LongestLaws.{front_stands}
use Rattle.sql_lexer.proofs.Cuts.{longest_cut, white_cut}
use Rattle.sql_lexer.proofs.Steps.{lexed_from-white, lexed_from-taken, lexed_from-bad, lexed_from-open, lexed_from-end}

-- the tokens of the rest of a text, behind those before
abbrev pub behind : List Lexeme → Result (List Lexeme) Refusal → Result (List Lexeme) Refusal
behind xs (Ok ys) = Ok (xs ++ ys)
behind xs (Err e) = Err e

behind-none : (r : Result (List Lexeme) Refusal) → behind [] r ≡ r
behind-none (Ok ys) = refl
behind-none (Err e) = refl

behind-push : (xs : List Lexeme) (x : Lexeme) (r : Result (List Lexeme) Refusal)
    → behind xs (with_first x r) ≡ behind (xs ++ x ∷ []) r
behind-push xs x (Ok ys) = ap (λ (zs : List Lexeme). Ok zs) (sym (append_assoc xs (x ∷ []) ys))
behind-push xs x (Err e) = refl

-- the loop's invariant: the tokens found stand before the rest, and the text has those and the ones of the rest
pub record Next (source : List ℕ) (ts : List Token) (rest : List ℕ) : Type 0 where
  pub within : length rest ≤ length source
  pub utf8 : IsUtf8 rest
  pub whole : lexed source ≡ behind (map lexeme ts) (lexed_from 0 (length source - length rest) rest)

-- at the start all is left
pub next-start : (source : List ℕ) → IsUtf8 source → Next source [] source
unfolding lexed
next-start source utf8 =
    let place : length source - length source ≡ 0 = omega arith in
    record {
      within = omega arith;
      utf8 = utf8;
      whole = rw place (sym (behind-none (lexed_from 0 0 source)));
    }

module _ (source : List ℕ) (ts : List Token) (rest : List ℕ) (next : Next source ts rest) where
  -- the place of what is left behind n bytes
  place_behind : (n : ℕ) → n ≤ length rest → length source - length (drop n rest) ≡ length source - length rest + n
  place_behind n within = omega (arith, next.within, length-drop n rest)

  -- white space is passed over
  pub cut-white : White ≡ front_of rest → 0 < length rest → IsCharBoundary rest 1
  cut-white front some = white_cut rest (front_stands rest White front) some next.utf8

  pub next-white : (after : List ℕ) → White ≡ front_of rest → 0 < length rest → after ≡ drop 1 rest → Next source ts after
  next-white after front some left = rw left (record {
    within = omega (arith, next.within, length-drop 1 rest);
    utf8 = IsUtf8-drop rest 1 next.utf8 (cut-white front some);
    whole = next.whole ∙ ap (behind (map lexeme ts))
        (lexed_from-white (length source - length rest) rest (sym front) some
        ∙ ap (λ place. lexed_from 0 place (drop 1 rest)) (sym (place_behind 1 (omega arith))));
  })

  -- a token is found
  pub cut-taken : (kind : TokenKind) (n : ℕ) → Taken kind n ≡ front_of rest → IsCharBoundary rest n
  cut-taken kind n front = (longest_cut kind n rest (front_stands rest (Taken kind n) front)).1 next.utf8

  pub next-taken : (kind : TokenKind) (n : ℕ) (t : Token) (after : List ℕ) → Taken kind n ≡ front_of rest
      → lexeme t ≡ record { kind = kind; text = take n rest; at = length source - length rest } → after ≡ drop n rest
      → Next source (ts ++ t ∷ []) after
  next-taken kind n t after front is left =
      let longest : IsLongest kind n rest = front_stands rest (Taken kind n) front in
      let filled : 0 < n = (longest_cut kind n rest longest).0 in
      let place : ℕ = length source - length rest in
      let later : Result (List Lexeme) Refusal = lexed_from 0 (length source - length (drop n rest)) (drop n rest) in
      rw left (record {
        within = omega (arith, next.within, length-drop n rest);
        utf8 = IsUtf8-drop rest n next.utf8 (cut-taken kind n front);
        whole =
            next.whole ∙ ap (behind (map lexeme ts))
            (lexed_from-taken place rest kind n (sym front) filled (omega (arith, filled, longest.within))
            ∙ ap (λ p. with_first (record { kind = kind; text = take n rest; at = place }) (lexed_from 0 p (drop n rest)))
            (sym (place_behind n longest.within)))
            ∙ ap (λ x. behind (map lexeme ts) (with_first x later)) (sym is)
            ∙ behind-push (map lexeme ts) (lexeme t) later
            ∙ ap (λ xs. behind xs later) (sym (map_push lexeme ts t));
      })

  pub passes : (kind : TokenKind) (n : ℕ) → Taken kind n ≡ front_of rest → length (drop n rest) < length rest
  passes kind n front =
      let longest : IsLongest kind n rest = front_stands rest (Taken kind n) front in
      omega (arith, length-drop n rest, (longest_cut kind n rest longest).0, longest.within)

  -- the refusals, and the end
  pub next-bad : Bad ≡ front_of rest → 0 < length rest → lexed source ≡ Err (refusal bad_char (length source - length rest) 0)
  next-bad front some = next.whole ∙ ap (behind (map lexeme ts)) (lexed_from-bad (length source - length rest) rest (sym front) some)

  pub next-open : Open ≡ front_of rest → 0 < length rest → lexed source ≡ Err (refusal open_text (length source - length rest) 0)
  next-open front some = next.whole ∙ ap (behind (map lexeme ts)) (lexed_from-open (length source - length rest) rest (sym front) some)

  pub next-end : length rest ≡ 0 → lexed source ≡ Ok (map lexeme ts)
  next-end none_left =
      next.whole ∙ ap (behind (map lexeme ts)) (lexed_from-end (length source - length rest) rest none_left)
      ∙ ap (λ (xs : List Lexeme). Ok xs) (append-nil (map lexeme ts))

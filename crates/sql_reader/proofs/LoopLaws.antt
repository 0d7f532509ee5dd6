-- The turns of a loop that reads phrases one behind the other: what was read so far, before what is still to be read.
use Rattle.std.proofs.Common.{◌≡◌, ℕ, zero, suc, ◌-◌, Bool, true, false, List, [], ◌∷◌, ◌++◌, map, length, Option, refl, sym, ap, ◌∙◌, arith, append_assoc, length-drop}
use Rattle.std.proofs.lemmas.List.{append-nil, length-map}
use Rattle.sql_lexer.specs.declared.token.Token.{Token}
use Rattle.sql_lexer.specs.Lexing.{Lexeme, lexeme}
use Rattle.sql_reader.specs.Readers.{Reading, Took, Stuck, next_is, give, and_then, bind, many_within, many}
use Rattle.sql_reader.specs.declared.reached.Reached.{Reached}
use Rattle.sql_reader.specs.declared.stop.Stop.{Stop}
use Rattle.sql_reader.specs.declared.stop.Stop.TheVariants.{Unexpected, NoMemory}
use Rattle.sql_reader.specs.inside.Answers.{Refuses, left}

-- a reading of phrases, behind those before
abbrev pub carry : {X : Type 0} → List X → Reading (List X) → Reading (List X)
carry xs (Took ys rest) = Took (xs ++ ys) rest
carry xs (Stuck place) = Stuck place

-- the whole reads as these values, and then as at most so many phrases of what is left
pub record Stands {X : Type 0} (whole : Reading (List X)) (test : Lexeme → Bool) (q : List Lexeme → Reading X) (xs : List X) (turns : ℕ) (ts : List Lexeme) : Type 0 where
  pub goes_on : whole ≡ carry xs (many_within turns test q ts)

carry-first : {X : Type 0} (x : X) (r : Reading (List X)) → and_then (λ xs. give (x ∷ xs)) r ≡ carry (x ∷ []) r
carry-first x (Took xs rest) = refl
carry-first x (Stuck place) = refl

carry-next : {X : Type 0} (xs : List X) (x : X) (r : Reading (List X)) → carry xs (and_then (λ ys. give (x ∷ ys)) r) ≡ carry (xs ++ x ∷ []) r
carry-next xs x (Took ys rest) = ap (λ zs. Took zs rest) (sym (append_assoc xs (x ∷ []) ys))
carry-next xs x (Stuck place) = refl

-- at the start the first was read
pub stands-start : {X : Type 0} (test : Lexeme → Bool) (q : List Lexeme → Reading X) (x : X) (tokens : List Token) (from : Reached)
    → Stands (bind (many test q) (λ xs. give (x ∷ xs)) (left tokens from)) test q (x ∷ []) (length tokens - from.at) (left tokens from)
unfolding many
stands-start test q x tokens from =
    let turns : length (left tokens from) ≡ length tokens - from.at = omega (arith, length-drop from.at (map lexeme tokens), length-map tokens lexeme) in
    record {
      goes_on = carry-first x (many test q (left tokens from)) ∙ ap (λ n. carry (x ∷ []) (many_within n test q (left tokens from))) turns;
    }

-- at each turn one more is read
read-first : {X : Type 0} (test : Lexeme → Bool) (q : List Lexeme → Reading X) (ts : List Lexeme) (n : ℕ) (r : Reading X) → next_is test ts ≡ true
    → q ts ≡ r → many_within (suc n) test q ts ≡ and_then (λ y. bind (many_within n test q) (λ ys. give (y ∷ ys))) r
read-first test q ts n r passes is = rw (passes, is) refl

module _ {X : Type 0} {test : Lexeme → Bool} {q : List Lexeme → Reading X} {whole : Reading (List X)} {xs : List X} {ts : List Lexeme} where
  pub stands-next : (n : ℕ) (x : X) (rest : List Lexeme) → Stands whole test q xs (suc n) ts → next_is test ts ≡ true → q ts ≡ Took x rest
      → Stands whole test q (xs ++ x ∷ []) n rest
  stands-next n x rest stands passes is = record {
    goes_on = stands.goes_on ∙ ap (carry xs) (read-first test q ts n (Took x rest) passes is) ∙ carry-next xs x (many_within n test q rest);
  }

  pub stands-stuck : (n : ℕ) (place : Option ℕ) → Stands whole test q xs (suc n) ts → next_is test ts ≡ true → q ts ≡ Stuck place → whole ≡ Stuck place
  stands-stuck n place stands passes is = stands.goes_on ∙ ap (carry xs) (read-first test q ts n (Stuck place) passes is)

  -- and in the end all are read: no turn is left, or no phrase begins
  pub stands-none : Stands whole test q xs zero ts → whole ≡ Took xs ts
  stands-none stands = stands.goes_on ∙ ap (λ ys. Took ys ts) (append-nil xs)

  pub stands-end : (n : ℕ) → Stands whole test q xs (suc n) ts → next_is test ts ≡ false → whole ≡ Took xs ts
  stands-end n stands fails =
      let ended : many_within (suc n) test q ts ≡ Took [] ts = rw fails refl in
      stands.goes_on ∙ ap (carry xs) ended ∙ ap (λ ys. Took ys ts) (append-nil xs)

-- a refusal that is passed on
pub passed_on : {X Y : Type 0} (e : Stop) (r : Reading X) (whole : Reading Y) → Refuses e r
    → ((place : Option ℕ) → r ≡ Stuck place → whole ≡ Stuck place) → Refuses e whole
passed_on (Unexpected place) r whole refuses to = to place refuses
passed_on NoMemory r whole refuses to = tt

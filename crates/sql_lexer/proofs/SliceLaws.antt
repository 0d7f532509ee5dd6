-- The tokens of a text are slices of it, in order and apart, each the longest where it begins; and a refusal is true of its place.
use Rattle.std.proofs.Common.{◌≡◌, ℕ, zero, suc, ◌+◌, ◌-◌, ◌<◌, true, List, [], ◌∷◌, map, length, take, drop, Result, Ok, Err, refl, sym, ap, subst, ◌∙◌, arith, length-take-le, add-zero}
use Rattle.std.specs.Prelude.{All, IfOk}
use Rattle.std.proofs.lemmas.List.{drop-drop}
use Rattle.std.proofs.lemmas.List.Elements.{All-nil, All-cons}
use Rattle.sql_lexer.specs.declared.token.TokenKind.{TokenKind}
use Rattle.sql_lexer.specs.declared.token.Token.{Token}
use Rattle.mq_base.specs.declared.refusal.Refusal.{Refusal}
use Rattle.mq_base.specs.Refusal.{refusal}
use Rattle.sql_lexer.specs.declared.refusal.LexNo.{LexNo}
use Rattle.sql_lexer.specs.declared.refusal.LexNo.TheVariants.{BadChar, OpenText, NoMemory}
use Rattle.sql_lexer.specs.declared.fronts.Front.{Front}
use Rattle.sql_lexer.specs.declared.fronts.Front.TheVariants.{White, Taken, Bad, Open}
use Rattle.std.specs.Result.{result_map_both}
use Rattle.mq_base.specs.Refusal.{Answers}
use Rattle.sql_lexer.specs.Codes.{bad_char, open_text, lexical_refusal}
use Rattle.sql_lexer.specs.Lexing.{is_white, front_of, lexed, lexed_from, with_first, Lexeme, lexeme}
use Rattle.sql_lexer.specs.Longest.{IsLongest, BeginsNone, IsOpen, StandsBefore, IsLongestIn, OnlyWhite, TakesLongest}
use Rattle.sql_lexer.specs.Slices.{IsSliceOf, IsFilled, AreApart, AreSlices}
use Rattle.sql_lexer.proofs.LongestLaws.{front_stands}
use Rattle.sql_lexer.proofs.Cuts.{longest_cut}
use Rattle.sql_lexer.proofs.Steps.{lexed_from-skip, lexed_from-white, lexed_from-taken, lexed_from-bad, lexed_from-open, lexed_from-end}

-- what is told of the tokens of a source from a place on
record AreCut (source : List ℕ) (from : ℕ) (xs : List Lexeme) : Type 0 where
  pub slices : All (IsSliceOf source) xs
  pub filled : All IsFilled xs
  pub apart : AreApart from xs
  pub longest : All (IsLongestIn source) xs
  pub white : OnlyWhite from source xs

-- a refusal is true of its place in the source
record TrueOf (source : List ℕ) (told : Refusal) : Type 0 where
  pub none : (at : ℕ) → told ≡ refusal bad_char at 0 → BeginsNone (drop at source)
  pub open_ : (at : ℕ) → told ≡ refusal open_text at 0 → IsOpen (drop at source)

abbrev IsTold : List ℕ → ℕ → Result (List Lexeme) Refusal → Type 0
IsTold source from (Ok xs) = AreCut source from xs
IsTold source from (Err bad) = TrueOf source bad

told-end : (source : List ℕ) (from : ℕ) → drop from source ≡ [] → AreCut source from []
told-end source from none_left = record {
  slices = All-nil (IsSliceOf source);
  filled = All-nil IsFilled;
  apart = tt;
  longest = All-nil (IsLongestIn source);
  white = rw none_left refl;
}

apart-white : (at : ℕ) (xs : List Lexeme) → AreApart (at + 1) xs → AreApart at xs
apart-white at [] apart = tt
apart-white at (x ∷ xs) apart = (omega (arith, apart.0), apart.1)

white-more : (source : List ℕ) (at b : ℕ) (rest : List ℕ) (xs : List Lexeme) → drop at source ≡ b ∷ rest → drop (at + 1) source ≡ rest
    → is_white b ≡ true → AreApart (at + 1) xs → OnlyWhite (at + 1) source xs → OnlyWhite at source xs
white-more source at b rest [] here there white apart only =
    rw (here, white) (rw there at only)
white-more source at b rest (x ∷ xs) here there white apart only =
    let count : x.at - at ≡ suc (x.at - (at + 1)) = omega (arith, apart.0) in
    (rw (here, count, white) (rw there at (only.0)), only.1)

-- white space in front changes nothing of what is told
told-white : (source : List ℕ) (at b : ℕ) (rest : List ℕ) (r : Result (List Lexeme) Refusal) → drop at source ≡ b ∷ rest
    → drop (at + 1) source ≡ rest → is_white b ≡ true → IsTold source (at + 1) r → IsTold source at r
told-white source at b rest (Ok xs) here there white told = record {
  slices = told.slices;
  filled = told.filled;
  apart = apart-white at xs told.apart;
  longest = told.longest;
  white = white-more source at b rest xs here there white told.apart told.white;
}
told-white source at b rest (Err bad) here there white told = told

-- nor does a token in front
told-first : (source : List ℕ) (at n : ℕ) (bytes : List ℕ) (kind : TokenKind) (r : Result (List Lexeme) Refusal) → drop at source ≡ bytes
    → 0 < n → IsLongest kind n bytes → IsTold source (at + n) r
    → IsTold source at (with_first (record { kind = kind; text = take n bytes; at = at }) r)
told-first source at n bytes kind (Ok xs) here filled longest told =
    let x : Lexeme = record { kind = kind; text = take n bytes; at = at } in
    let long : length (take n bytes) ≡ n = length-take-le n bytes longest.within in
    let none_between : at - at ≡ 0 = omega arith in
    record {
      slices = All-cons (IsSliceOf source) x xs (rw (here, long) refl) told.slices;
      filled = All-cons IsFilled x xs (omega (arith, long)) told.filled;
      apart = (omega arith, subst (λ m. AreApart (at + m) xs) (sym long) told.apart);
      longest = All-cons (IsLongestIn source) x xs (rw (here, long) longest) told.longest;
      white = (rw none_between refl, subst (λ m. OnlyWhite (at + m) source xs) (sym long) told.white);
    }
told-first source at n bytes kind (Err bad) here filled longest told = told

one-two : bad_char ≡ open_text → ⊥
one-two same = omega (arith, same)

lexed_from-passed : (skip at b : ℕ) (rest : List ℕ) → lexed_from skip (at + 1) rest ≡ lexed_from (suc skip) at (b ∷ rest)
unfolding lexed_from
lexed_from-passed skip at b rest = refl

-- what is lexed from a place on is told of the source there
lexed_from-told : (skip at : ℕ) (bytes source : List ℕ) → drop at source ≡ bytes → IsTold source (at + skip) (lexed_from skip at bytes)
lexed_from-told zero at [] source here =
    rw (lexed_from-end at [] refl) (told-end source (at + zero) (rw add-zero here))
lexed_from-told (suc skip) at [] source here =
    rw (lexed_from-skip (suc skip) at [], lexed_from-end (at + suc skip) [] refl)
    (told-end source (at + suc skip) (sym (drop-drop (suc skip) at source) ∙ ap (drop (suc skip)) here))
lexed_from-told (suc skip) at (b ∷ rest) source here =
    let there : drop (at + 1) source ≡ rest = sym (drop-drop 1 at source) ∙ ap (drop 1) here in
    let place : at + 1 + skip ≡ at + suc skip = omega arith in
    subst (λ p. IsTold source p (lexed_from (suc skip) at (b ∷ rest))) place
    (subst (IsTold source (at + 1 + skip)) (lexed_from-passed skip at b rest) (lexed_from-told skip (at + 1) rest source there))
lexed_from-told zero at (b ∷ rest) source here =
    let there : drop (at + 1) source ≡ rest = sym (drop-drop 1 at source) ∙ ap (drop 1) here in
    rw add-zero (by_front there (front_of (b ∷ rest)) refl (front_stands (b ∷ rest) (front_of (b ∷ rest)) refl)
    (λ skip. lexed_from-told skip (at + 1) rest source there))
  where
    by_front : drop (at + 1) source ≡ rest → (front : Front) → front_of (b ∷ rest) ≡ front → StandsBefore (b ∷ rest) front
        → ((skip : ℕ) → IsTold source (at + 1 + skip) (lexed_from skip (at + 1) rest))
        → IsTold source at (lexed_from 0 at (b ∷ rest))
    by_front there White is stands later =
        rw (lexed_from-white at (b ∷ rest) is (omega arith))
        (told-white source at b rest (lexed_from 0 (at + 1) rest) here there stands (rw add-zero at (later 0)))
    by_front there (Taken kind zero) is stands later = absurd (omega (arith, (longest_cut kind zero (b ∷ rest) stands).0))
    by_front there (Taken kind (suc n)) is stands later =
        let place : at + 1 + n ≡ at + suc n = omega arith in
        let tail : IsTold source (at + suc n) (lexed_from 0 (at + suc n) (drop n rest)) =
        rw place at (rw (lexed_from-skip n (at + 1) rest) at (later n)) in
        rw (lexed_from-taken at (b ∷ rest) kind (suc n) is (omega arith) (omega arith))
        (told-first source at (suc n) (b ∷ rest) kind (lexed_from 0 (at + suc n) (drop n rest)) here (omega arith) stands tail)
    by_front there Bad is stands later = rw (lexed_from-bad at (b ∷ rest) is (omega arith)) (record {
      none = λ p same. subst (λ q. BeginsNone (drop q source)) (ap (λ (r : Refusal). r.at) same) (rw here stands);
      open_ = λ p same. absurd (one-two (ap (λ (r : Refusal). r.code) same));
    })
    by_front there Open is stands later = rw (lexed_from-open at (b ∷ rest) is (omega arith)) (record {
      none = λ p same. absurd (one-two (sym (ap (λ (r : Refusal). r.code) same)));
      open_ = λ p same. subst (λ q. IsOpen (drop q source)) (ap (λ (r : Refusal). r.at) same) (rw here stands);
    })

lexed-told : (text : List ℕ) → IsTold text 0 (lexed text)
unfolding lexed
lexed-told text = lexed_from-told 0 0 text text refl

-- an answer that is right gives slices
pub lexed-slices : (text : List ℕ) (result : Result (List Token) LexNo) → Answers lexical_refusal (result_map_both (map lexeme) (λ e. e) result) (lexed text) → IfOk result (AreSlices text)
lexed-slices text (Ok ts) lexes =
    let told = subst (IsTold text 0) lexes (lexed-told text) in
    record { slices = told.slices; filled = told.filled; apart = told.apart }
lexed-slices text (Err e) lexes = tt

-- and takes the longest token each time
pub lexed-longest : (text : List ℕ) (result : Result (List Token) LexNo) → Answers lexical_refusal (result_map_both (map lexeme) (λ e. e) result) (lexed text) → TakesLongest text result
lexed-longest text (Ok ts) lexes =
    let told = subst (IsTold text 0) lexes (lexed-told text) in
    record { longest = told.longest; white = told.white }
lexed-longest text (Err NoMemory) lexes = tt
lexed-longest text (Err (BadChar at)) lexes = (subst (IsTold text 0) lexes (lexed-told text)).none at refl
lexed-longest text (Err (OpenText at)) lexes = (subst (IsTold text 0) lexes (lexed-told text)).open_ at refl

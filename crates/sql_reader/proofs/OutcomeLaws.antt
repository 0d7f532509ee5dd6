-- The computed outcome is what the text reads as, by the grammar.
use Rattle.std.proofs.Common.{◌≡◌, ℕ, ◌<◌, List, [], ◌∷◌, ◌++◌, length, Option, Some, None, Result, Ok, Err, refl, sym, ap, subst, ◌∙◌, arith, append_assoc}
use Rattle.std.specs.Prelude.{option_map}
use Rattle.std.proofs.lemmas.List.{append-nil}
use Rattle.std.specs.Result.{result_map_both}
use Rattle.mq_base.specs.declared.refusal.Refusal.{Refusal}
use Rattle.mq_base.specs.Refusal.{refusal, Answers, Refuses}
use Rattle.sql_lexer.specs.declared.refusal.LexNo.{LexNo}
use Rattle.sql_lexer.specs.declared.refusal.LexNo.TheVariants as lexing
use Rattle.sql_lexer.specs.Codes.{bad_char, open_text, unexpected, number_range, lexical_refusal}
use Rattle.sql_lexer.specs.Lexing.{Lexeme, lexed}
use Rattle.sql_reader.specs.declared.raw.RawQuery.{RawQuery}
use Rattle.sql_reader.specs.declared.refusal.SqlNo.{SqlNo}
use Rattle.sql_reader.specs.declared.refusal.SqlNo.TheVariants.{BadChar, OpenText, Unexpected, NumberRange, NoMemory}
use Rattle.sql_reader.specs.Codes.{query_refusal}
use Rattle.sql_reader.specs.Syntax.{Query, query_of}
use Rattle.sql_reader.specs.Grammar.{query, IsQuery}
use Rattle.sql_reader.specs.Reading.{IsOnlyQuery, IsStuck, place_of, first_wide, IsQueryOf, IsUnexpected, IsOutOfRange, IsRead}
use Rattle.sql_reader.specs.Readers.{Reading, Took, Stuck}
use Rattle.sql_reader.specs.Law.{place_in, AreStuck, IsReadingOf}
use Rattle.sql_reader.specs.Outcome.{wide_place, ranged, read_outcome, lexed_outcome, query_outcome}
use Rattle.sql_reader.proofs.ReaderLaws.{IsAt, Takes, Stops, first_of}
use Rattle.sql_reader.proofs.ProductionLaws.{query-law}

-- a query is read from its tokens
pub read_back : (q : Query) (ts : List Lexeme) → IsQuery q ts → query.read ts ≡ Took q []
read_back q ts is = ap query.read (sym (append-nil ts)) ∙ query-law.complete q ts [] is refl

-- a list of tokens has at most one reading
pub reads_once : (q other : Query) (ts : List Lexeme) → IsQuery q ts → IsQuery other ts → other ≡ q
reads_once q other ts is other_is =
    let first : query.read ts ≡ Took q [] = read_back q ts is in
    let second : query.read ts ≡ Took other [] = read_back other ts other_is in
    cc

-- tokens that are all taken are that query alone
only_query : (q : Query) (ts : List Lexeme) → query.read ts ≡ Took q [] → IsOnlyQuery q ts
only_query q ts is =
    let took : Takes IsQuery query.read ts q [] = subst (IsAt IsQuery query.read ts) is (query-law.at ts) in
    record {
      is_query = subst (IsQuery q) (sym (took.joined ∙ append-nil took.front)) took.phrase;
      only = λ other is_other. let read : query.read ts ≡ Took other [] = read_back other ts is_other in cc;
    }

-- a query in front, with tokens behind it
query_in_front : (ts : List Lexeme) (q : Query) (t : Lexeme) (rest : List Lexeme) → query.read ts ≡ Took q (t ∷ rest) → AreStuck ts (Some t.at)
query_in_front ts q t rest is =
    let took : Takes IsQuery query.read ts q (t ∷ rest) = subst (IsAt IsQuery query.read ts) is (query-law.at ts) in
    record {
      front = took.front;
      rest = t ∷ rest;
      joined = took.joined;
      spot = refl;
      begins = record { behind = []; value = q; is_query = subst (IsQuery q) (sym (append-nil took.front)) took.phrase };
      stuck = λ begun.
          let read : query.read (took.front ++ (t ∷ begun.behind)) ≡ Took begun.value [] =
          ap query.read (sym (append_assoc took.front (t ∷ []) begun.behind)) ∙ read_back begun.value (took.front ++ t ∷ [] ++ begun.behind) begun.is_query in
          let again : query.read (took.front ++ (t ∷ begun.behind)) ≡ Took q (t ∷ begun.behind) = took.again (t ∷ begun.behind) refl in
          cc;
    }

-- tokens at which the reader stops
none_begins : (front rest : List Lexeme) (place : Option ℕ) → ((other : List Lexeme) → first_of other ≡ first_of rest → query.read (front ++ other) ≡ Stuck place)
    → IsStuck front rest
none_begins front [] place again = λ q is.
    let read : query.read front ≡ Took q [] = read_back q front is in
    let stuck : query.read front ≡ Stuck place = ap query.read (sym (append-nil front)) ∙ again [] refl in
    cc
none_begins front (t ∷ rest) place again = λ begun.
    let read : query.read (front ++ (t ∷ begun.behind)) ≡ Took begun.value [] =
    ap query.read (sym (append_assoc front (t ∷ []) begun.behind)) ∙ read_back begun.value ((front ++ t ∷ []) ++ begun.behind) begun.is_query in
    let stuck : query.read (front ++ (t ∷ begun.behind)) ≡ Stuck place = again (t ∷ begun.behind) refl in
    cc

stops_there : (ts : List Lexeme) (place : Option ℕ) → query.read ts ≡ Stuck place → AreStuck ts place
stops_there ts place is =
    let stops : Stops IsQuery query.read ts place = subst (IsAt IsQuery query.read ts) is (query-law.at ts) in
    record {
      front = stops.front;
      rest = stops.rest;
      joined = stops.joined;
      spot = stops.spot;
      begins = record { behind = stops.behind; value = stops.value; is_query = stops.phrase };
      stuck = none_begins stops.front stops.rest place stops.again;
    }

-- each list of tokens is what it is read as
reading-right : (ts : List Lexeme) (r : Reading Query) → query.read ts ≡ r → IsReadingOf ts r
reading-right ts (Took q []) is = only_query q ts is
reading-right ts (Took q (t ∷ rest)) is = query_in_front ts q t rest is
reading-right ts (Stuck place) is = stops_there ts place is

pub reads-right : (ts : List Lexeme) → IsReadingOf ts (query.read ts)
reads-right ts = reading-right ts (query.read ts) refl

-- what a text reads as, by an outcome
abbrev IsReadAs : List ℕ → Result Query Refusal → Type 0
IsReadAs text (Ok q) = IsQueryOf text q
IsReadAs text (Err told) = (e : SqlNo) → query_refusal e ≡ Some told → IsRead text (Err e)

abbrev code_in : Option Refusal → ℕ
code_in None = 0
code_in (Some told) = told.code

abbrev at_in : Option Refusal → ℕ
at_in None = 0
at_in (Some told) = told.at

-- a refusal with the number of `Unexpected` or `NumberRange` is that error
unexpected-read : (text : List ℕ) (at : ℕ) → IsUnexpected text at → (e : SqlNo) → query_refusal e ≡ Some (refusal unexpected at 0) → IsRead text (Err e)
unexpected-read text at is NoMemory same = tt
unexpected-read text at is (Unexpected p) same = subst (IsUnexpected text) (sym (ap at_in same)) is
unexpected-read text at is (BadChar p) same = let codes : bad_char ≡ unexpected = ap code_in same in absurd (omega (arith, codes))
unexpected-read text at is (OpenText p) same = let codes : open_text ≡ unexpected = ap code_in same in absurd (omega (arith, codes))
unexpected-read text at is (NumberRange p) same = let codes : number_range ≡ unexpected = ap code_in same in absurd (omega (arith, codes))

range-read : (text : List ℕ) (at : ℕ) → IsOutOfRange text at → (e : SqlNo) → query_refusal e ≡ Some (refusal number_range at 0) → IsRead text (Err e)
range-read text at is NoMemory same = tt
range-read text at is (NumberRange p) same = subst (IsOutOfRange text) (sym (ap at_in same)) is
range-read text at is (BadChar p) same = let codes : bad_char ≡ number_range = ap code_in same in absurd (omega (arith, codes))
range-read text at is (OpenText p) same = let codes : open_text ≡ number_range = ap code_in same in absurd (omega (arith, codes))
range-read text at is (Unexpected p) same = let codes : unexpected ≡ number_range = ap code_in same in absurd (omega (arith, codes))

-- the place at which tokens are stuck
spot_of : (end : ℕ) (rest : List Lexeme) (at : ℕ) → Some at ≡ place_in rest → at ≡ place_of end rest
spot_of end [] at is = cc
spot_of end (t ∷ rest) at is = cc

end_of : (end : ℕ) (rest : List Lexeme) → None ≡ place_in rest → end ≡ place_of end rest
end_of end [] is = refl
end_of end (t ∷ rest) is = cc

module _ (text : List ℕ) (ts : List Lexeme) (has_tokens : lexed text ≡ Ok ts) where
  stuck_at : (place : Option ℕ) (at : ℕ) → AreStuck ts place → ((rest : List Lexeme) → place ≡ place_in rest → at ≡ place_of (length text) rest)
      → IsUnexpected text at
  stuck_at place at stuck to = record {
    front = stuck.front;
    rest = stuck.rest;
    has_tokens = has_tokens ∙ ap (λ (us : List Lexeme). Ok us) stuck.joined;
    place = to stuck.rest stuck.spot;
    begins = stuck.begins;
    stuck = stuck.stuck;
  }

  ranged-read : (q : Query) → IsOnlyQuery q ts → (wide : Option Lexeme) → first_wide ts ≡ wide → IsReadAs text (ranged q (option_map (λ x. x.at) wide))
  ranged-read q only None is = record { tokens = ts; has_tokens = has_tokens; reads = only; in_range = is }
  ranged-read q only (Some wide) is = range-read text wide.at (record {
    tokens = ts;
    has_tokens = has_tokens;
    value = q;
    is_query = only.is_query;
    wide = wide;
    first = is;
    place = refl;
  })

  reading-read : (r : Reading Query) → query.read ts ≡ r → IsReadAs text (read_outcome (length text) (wide_place ts) r)
  reading-read (Took q []) is = ranged-read q (only_query q ts is) (first_wide ts) refl
  reading-read (Took q (t ∷ rest)) is = unexpected-read text t.at (stuck_at (Some t.at) t.at (query_in_front ts q t rest is) (λ other spot. spot_of (length text) other t.at spot))
  reading-read (Stuck (Some at)) is = unexpected-read text at (stuck_at (Some at) at (stops_there ts (Some at) is) (λ other spot. spot_of (length text) other at spot))
  reading-read (Stuck None) is = unexpected-read text (length text) (stuck_at None (length text) (stops_there ts None is) (λ other spot. end_of (length text) other spot))

-- the answer for a text, from the answer of the lexer
refuses-outcome : (text : List ℕ) (told : Option Refusal) → Refuses told (lexed text) → Refuses told (query_outcome text)
unfolding query_outcome
refuses-outcome text None refuses = tt
refuses-outcome text (Some told) refuses = ap (lexed_outcome (length text)) refuses

pub lexical-reads : (text : List ℕ) (e : SqlNo) (lexical : LexNo) → query_refusal e ≡ lexical_refusal lexical
    → Refuses (lexical_refusal lexical) (lexed text) → Refuses (query_refusal e) (query_outcome text)
lexical-reads text e lexical same refuses = rw same (refuses-outcome text (lexical_refusal lexical) refuses)

none_lexical : (lexical : LexNo) (code at : ℕ) → 2 < code → Some (refusal code at 0) ≡ lexical_refusal lexical → ⊥
none_lexical (lexing.BadChar p) code at above same = let codes : code ≡ bad_char = ap code_in same in omega (arith, codes, above)
none_lexical (lexing.OpenText p) code at above same = let codes : code ≡ open_text = ap code_in same in omega (arith, codes, above)
none_lexical lexing.NoMemory code at above same = let codes : code ≡ 0 = ap code_in same in omega (arith, codes, above)

pub lexical-grammar : (text : List ℕ) (e : SqlNo) (lexical : LexNo) → query_refusal e ≡ lexical_refusal lexical
    → Refuses (lexical_refusal lexical) (lexed text) → IsRead text (Err e)
lexical-grammar text NoMemory lexical same refuses = tt
lexical-grammar text (BadChar at) lexical same refuses = rw (← same) at refuses
lexical-grammar text (OpenText at) lexical same refuses = rw (← same) at refuses
lexical-grammar text (Unexpected at) lexical same refuses = absurd (none_lexical lexical unexpected at (omega arith) same)
lexical-grammar text (NumberRange at) lexical same refuses = absurd (none_lexical lexical number_range at (omega arith) same)

-- and from the answer for its tokens
abbrev AnswersText : Result RawQuery SqlNo → Result Query Refusal → Type 0
AnswersText result outcome = Answers query_refusal (result_map_both query_of (λ e. e) result) outcome

pub tokens-reads : (text : List ℕ) (ts : List Lexeme) (result : Result RawQuery SqlNo) → lexed text ≡ Ok ts
    → AnswersText result (read_outcome (length text) (wide_place ts) (query.read ts)) → AnswersText result (query_outcome text)
unfolding query_outcome
tokens-reads text ts result lexes reads = subst (AnswersText result) (sym (ap (lexed_outcome (length text)) lexes)) reads

answer-read : (text : List ℕ) (result : Result RawQuery SqlNo) (outcome : Result Query Refusal) → IsReadAs text outcome → AnswersText result outcome
    → IsRead text result
answer-read text (Ok q) outcome read answers = subst (IsReadAs text) answers read
answer-read text (Err NoMemory) outcome read answers = tt
answer-read text (Err (BadChar at)) outcome read answers = subst (IsReadAs text) answers read (BadChar at) refl
answer-read text (Err (OpenText at)) outcome read answers = subst (IsReadAs text) answers read (OpenText at) refl
answer-read text (Err (Unexpected at)) outcome read answers = subst (IsReadAs text) answers read (Unexpected at) refl
answer-read text (Err (NumberRange at)) outcome read answers = subst (IsReadAs text) answers read (NumberRange at) refl

pub tokens-grammar : (text : List ℕ) (ts : List Lexeme) (result : Result RawQuery SqlNo) → lexed text ≡ Ok ts
    → AnswersText result (read_outcome (length text) (wide_place ts) (query.read ts)) → IsRead text result
tokens-grammar text ts result lexes reads =
    answer-read text result (read_outcome (length text) (wide_place ts) (query.read ts)) (reading-read text ts lexes (query.read ts) refl) reads

-- The law of a reader: on every list it takes a phrase, or is stuck at the first token with which no phrase goes on; and
-- it reads each phrase back. Each way to put readers together keeps the law. It knows no query.
use Rattle.std.proofs.Common.{◌≡◌, inl, inr, ℕ, zero, suc, ◌<◌, ◌≤◌, Bool, true, false, List, [], ◌∷◌, ◌++◌, length, Option, Some, None, refl, sym, ap, subst, ◌∙◌, arith, append_assoc, length-append}
use Rattle.std.specs.Prelude.{if◌then◌else◌}
use Rattle.std.proofs.lemmas.List.{append-nil}
use Rattle.sql_lexer.specs.Lexing.{Lexeme}
use Rattle.sql_reader.specs.Phrases.{Is, One, Then, Or, Many}
use Rattle.sql_reader.specs.Law.{place_in}
use Rattle.sql_reader.specs.Readers.{Reading, Took, Stuck, next_is, give, taken, one, and_then, bind, alt, many_within, many}

-- the first token
abbrev pub first_of : List Lexeme → Option Lexeme
first_of [] = None
first_of (t ∷ ts) = Some t

-- the reader took a value: a phrase for it stands in front, and it is read alike before any rest with the same first token
pub record Takes {X : Type 0} (P : X → List Lexeme → Type 0) (p : List Lexeme → Reading X) (ts : List Lexeme) (x : X) (rest : List Lexeme) : Type 0 where
  pub front : List Lexeme
  pub joined : ts ≡ front ++ rest
  pub phrase : P x front
  pub again : (other : List Lexeme) → first_of other ≡ first_of rest → p (front ++ other) ≡ Took x other

-- the reader is stuck: what stands before the place begins a phrase, and it is stuck alike before any rest with the same
-- first token
pub record Stops {X : Type 0} (P : X → List Lexeme → Type 0) (p : List Lexeme → Reading X) (ts : List Lexeme) (place : Option ℕ) : Type 0 where
  pub front : List Lexeme
  pub rest : List Lexeme
  pub joined : ts ≡ front ++ rest
  pub spot : place ≡ place_in rest
  pub value : X
  pub behind : List Lexeme
  pub phrase : P value (front ++ behind)
  pub again : (other : List Lexeme) → first_of other ≡ first_of rest → p (front ++ other) ≡ Stuck place

abbrev pub IsAt : {X : Type 0} → (X → List Lexeme → Type 0) → (List Lexeme → Reading X) → List Lexeme → Reading X → Type 0
IsAt P p ts (Took x rest) = Takes P p ts x rest
IsAt P p ts (Stuck place) = Stops P p ts place

-- the law: `more` are the tokens with which a phrase that has been read may go on
pub record IsReader {X : Type 0} (P : X → List Lexeme → Type 0) (more : Lexeme → Bool) (p : List Lexeme → Reading X) : Type 0 where
  pub at : (ts : List Lexeme) → IsAt P p ts (p ts)
  pub complete : (x : X) (front rest : List Lexeme) → P x front → next_is more rest ≡ false → p (front ++ rest) ≡ Took x rest

-- some phrase
pub record Sample {X : Type 0} (P : X → List Lexeme → Type 0) : Type 0 where
  pub value : X
  pub tokens : List Lexeme
  pub phrase : P value tokens

-- what a phrase begins with, and what stands first in a phrase or behind it
pub record Starts {X : Type 0} (P : X → List Lexeme → Type 0) (test : Lexeme → Bool) : Type 0 where
  pub begins : (x : X) (ts : List Lexeme) → P x ts → next_is test ts ≡ true

pub record Follows {X : Type 0} (P : X → List Lexeme → Type 0) (more barred : Lexeme → Bool) : Type 0 where
  pub next : (x : X) (front rest : List Lexeme) → P x front → next_is more rest ≡ false → next_is barred (front ++ rest) ≡ false

-- no token passes both tests; each token that passes the second passes the first
abbrev pub AreApart : (Lexeme → Bool) → (Lexeme → Bool) → Type 0
AreApart f g = (t : Lexeme) → f t ≡ true → g t ≡ false

abbrev pub Covers : (Lexeme → Bool) → (Lexeme → Bool) → Type 0
Covers f g = (t : Lexeme) → f t ≡ false → g t ≡ false

-- the first token alone decides
next_is-apart : (f g : Lexeme → Bool) → AreApart f g → (ts : List Lexeme) → next_is f ts ≡ true → next_is g ts ≡ false
next_is-apart f g apart [] passes = refl
next_is-apart f g apart (t ∷ ts) passes = apart t passes

next_is-covers : (f g : Lexeme → Bool) → Covers f g → (ts : List Lexeme) → next_is f ts ≡ false → next_is g ts ≡ false
next_is-covers f g covers [] fails = refl
next_is-covers f g covers (t ∷ ts) fails = covers t fails

next_is-append : (f : Lexeme → Bool) (front rest : List Lexeme) → next_is f front ≡ true → next_is f (front ++ rest) ≡ true
next_is-append f [] rest passes = cc
next_is-append f (t ∷ ts) rest passes = passes

next_is-same : (f : Lexeme → Bool) (xs ys : List Lexeme) → first_of xs ≡ first_of ys → next_is f xs ≡ next_is f ys
next_is-same f [] [] same = refl
next_is-same f [] (y ∷ ys) same = cc
next_is-same f (x ∷ xs) [] same = cc
next_is-same f (x ∷ xs) (y ∷ ys) same = let here : x ≡ y = cc in ap f here

next_is-some : (f : Lexeme → Bool) (ts : List Lexeme) → next_is f ts ≡ true → 0 < length ts
next_is-some f [] passes = cc
next_is-some f (t ∷ ts) passes = omega arith

first_of-append : (front xs ys : List Lexeme) → first_of xs ≡ first_of ys → first_of (front ++ xs) ≡ first_of (front ++ ys)
first_of-append [] xs ys same = same
first_of-append (t ∷ ts) xs ys same = refl

-- a reader's law gives a phrase
phrase_at : {X : Type 0} (P : X → List Lexeme → Type 0) (p : List Lexeme → Reading X) (ts : List Lexeme) (r : Reading X) → IsAt P p ts r → Sample P
phrase_at P p ts (Took x rest) is = record { value = x; tokens = is.front; phrase = is.phrase }
phrase_at P p ts (Stuck place) is = record { value = is.value; tokens = is.front ++ is.behind; phrase = is.phrase }

pub sample_of : {X : Type 0} {P : X → List Lexeme → Type 0} {more : Lexeme → Bool} {p : List Lexeme → Reading X} → IsReader P more p → Sample P
sample_of {X} {P} {more} {p} law = phrase_at P p [] (p []) (law.at [])

-- the same for a wider relation, and a reader that agrees before any rest with the same first token
moved : {X : Type 0} (P Q : X → List Lexeme → Type 0) (p q : List Lexeme → Reading X) (ts : List Lexeme)
    → ((x : X) (us : List Lexeme) → P x us → Q x us)
    → ((front rest other : List Lexeme) → ts ≡ front ++ rest → first_of other ≡ first_of rest → q (front ++ other) ≡ p (front ++ other))
    → (r : Reading X) → IsAt P p ts r → IsAt Q q ts r
moved P Q p q ts to same (Took x rest) is = record {
  front = is.front;
  joined = is.joined;
  phrase = to x is.front is.phrase;
  again = λ other first. same is.front rest other is.joined first ∙ is.again other first;
}
moved P Q p q ts to same (Stuck place) is = record {
  front = is.front;
  rest = is.rest;
  joined = is.joined;
  spot = is.spot;
  value = is.value;
  behind = is.behind;
  phrase = to is.value (is.front ++ is.behind) is.phrase;
  again = λ other first. same is.front is.rest other is.joined first ∙ is.again other first;
}

-- the same law for more tokens
pub with_more : {X : Type 0} {P : X → List Lexeme → Type 0} {more : Lexeme → Bool} {p : List Lexeme → Reading X}
    → IsReader P more p → (wide : Lexeme → Bool) → Covers wide more → IsReader P wide p
with_more {X} {P} {more} {p} law wide covers = record {
  at = law.at;
  complete = λ x front rest phrase ends. law.complete x front rest phrase (next_is-covers wide more covers rest ends);
}

-- no token
give-at : {X : Type 0} (x : X) (ts : List Lexeme) → Takes (Is x) (give x) ts x ts
give-at x ts = record { front = []; joined = refl; phrase = (refl, refl); again = λ other first. refl }

pub give-law : {X : Type 0} (x : X) (more : Lexeme → Bool) → IsReader (Is x) more (give x)
give-law x more = record {
  at = give-at x;
  complete = λ y front rest phrase ends. rw (phrase.0, phrase.1) refl;
}

-- one token
one-end : {X : Type 0} (take : Lexeme → Option X) (ts : List Lexeme) → first_of ts ≡ None → one take ts ≡ Stuck None
one-end take [] first = refl
one-end take (t ∷ ts) first = cc

one-other : {X : Type 0} (take : Lexeme → Option X) (t : Lexeme) → take t ≡ None → (ts : List Lexeme) → first_of ts ≡ Some t → one take ts ≡ Stuck (Some t.at)
one-other take t none [] first = cc
one-other take t none (u ∷ ts) first = let here : u ≡ t = cc in rw (here, none) refl

one-at : {X : Type 0} (take : Lexeme → Option X) → Sample (One take) → (ts : List Lexeme) → IsAt (One take) (one take) ts (one take ts)
one-at take some [] = record {
  front = [];
  rest = [];
  joined = refl;
  spot = refl;
  value = some.value;
  behind = some.tokens;
  phrase = some.phrase;
  again = one-end take;
}
one-at take some (t ∷ ts) = by_taken (take t) refl
  where
    by_taken : (x : Option _) → take t ≡ x → IsAt (One take) (one take) (t ∷ ts) (taken x t.at ts)
    by_taken (Some x) is = record {
      front = t ∷ [];
      joined = refl;
      phrase = (t, refl, is);
      again = λ other first. rw is refl;
    }
    by_taken None is = record {
      front = [];
      rest = t ∷ ts;
      joined = refl;
      spot = refl;
      value = some.value;
      behind = some.tokens;
      phrase = some.phrase;
      again = one-other take t is;
    }

pub one-law : {X : Type 0} (take : Lexeme → Option X) (more : Lexeme → Bool) → Sample (One take) → IsReader (One take) more (one take)
one-law take more some = record {
  at = one-at take some;
  complete = λ x front rest phrase ends. rw (phrase.1, phrase.2) refl;
}

-- a phrase, and behind it another
module _ {X Y : Type 0} (P : X → List Lexeme → Type 0) (Q : X → Y → List Lexeme → Type 0) (p : List Lexeme → Reading X) (q : X → List Lexeme → Reading Y) where
  after_took : (ts : List Lexeme) (x : X) (rest : List Lexeme) → Takes P p ts x rest → (r : Reading Y) → IsAt (Q x) (q x) rest r
      → IsAt (Then P Q) (bind p q) ts r
  after_took ts x rest took (Took y later) is = record {
    front = took.front ++ is.front;
    joined = took.joined ∙ ap (λ us. took.front ++ us) is.joined ∙ sym (append_assoc took.front is.front later);
    phrase = record { value = x; front = took.front; rest = is.front; joined = refl; first = took.phrase; second = is.phrase };
    again = λ other first.
        let same : first_of (is.front ++ other) ≡ first_of rest = first_of-append is.front other later first ∙ ap first_of (sym is.joined) in
        ap (bind p q) (append_assoc took.front is.front other) ∙ ap (and_then q) (took.again (is.front ++ other) same) ∙ is.again other first;
  }
  after_took ts x rest took (Stuck place) is = record {
    front = took.front ++ is.front;
    rest = is.rest;
    joined = took.joined ∙ ap (λ us. took.front ++ us) is.joined ∙ sym (append_assoc took.front is.front is.rest);
    spot = is.spot;
    value = is.value;
    behind = is.behind;
    phrase = record {
      value = x;
      front = took.front;
      rest = is.front ++ is.behind;
      joined = append_assoc took.front is.front is.behind;
      first = took.phrase;
      second = is.phrase;
    };
    again = λ other first.
        let same : first_of (is.front ++ other) ≡ first_of rest = first_of-append is.front other is.rest first ∙ ap first_of (sym is.joined) in
        ap (bind p q) (append_assoc took.front is.front other) ∙ ap (and_then q) (took.again (is.front ++ other) same) ∙ is.again other first;
  }

  bind-at : ((x : X) → Sample (Q x)) → (ts : List Lexeme) (r : Reading X) → p ts ≡ r → IsAt P p ts r
      → ((x : X) (rest : List Lexeme) → p ts ≡ Took x rest → IsAt (Q x) (q x) rest (q x rest))
      → IsAt (Then P Q) (bind p q) ts (and_then q r)
  bind-at some ts (Took x rest) is took later = after_took ts x rest took (q x rest) (later x rest is)
  bind-at some ts (Stuck place) is stops later = record {
    front = stops.front;
    rest = stops.rest;
    joined = stops.joined;
    spot = stops.spot;
    value = (some stops.value).value;
    behind = stops.behind ++ (some stops.value).tokens;
    phrase = record {
      value = stops.value;
      front = stops.front ++ stops.behind;
      rest = (some stops.value).tokens;
      joined = sym (append_assoc stops.front stops.behind (some stops.value).tokens);
      first = stops.phrase;
      second = (some stops.value).phrase;
    };
    again = λ other first. ap (and_then q) (stops.again other first);
  }

pub bind-law : {X Y : Type 0} {P : X → List Lexeme → Type 0} {Q : X → Y → List Lexeme → Type 0} {p : List Lexeme → Reading X}
    {q : X → List Lexeme → Reading Y} {barred more : Lexeme → Bool} → IsReader P barred p → ((x : X) → IsReader (Q x) more (q x))
    → ((x : X) → Follows (Q x) more barred) → IsReader (Then P Q) more (bind p q)
bind-law {X} {Y} {P} {Q} {p} {q} {barred} {more} first second follows = record {
  at = λ ts. bind-at P Q p q (λ x. sample_of (second x)) ts (p ts) refl (first.at ts) (λ x rest is. (second x).at rest);
  complete = λ y front rest phrase ends.
      ap (λ us. bind p q (us ++ rest)) phrase.joined ∙ ap (bind p q) (append_assoc phrase.front phrase.rest rest)
      ∙ ap (and_then q) (first.complete phrase.value phrase.front (phrase.rest ++ rest) phrase.first
      ((follows phrase.value).next y phrase.rest rest phrase.second ends))
      ∙ (second phrase.value).complete y phrase.rest rest phrase.second ends;
}

-- behind one token no look-ahead is needed
abbrev pub no_more : Lexeme → Bool
no_more t = false

next_is-none : (ts : List Lexeme) → next_is no_more ts ≡ false
next_is-none [] = refl
next_is-none (t ∷ ts) = refl

pub one_then-law : {X Y : Type 0} {take : Lexeme → Option X} {Q : X → Y → List Lexeme → Type 0} {q : X → List Lexeme → Reading Y}
    {more : Lexeme → Bool} → Sample (One take) → ((x : X) → IsReader (Q x) more (q x)) → IsReader (Then (One take) Q) more (bind (one take) q)
one_then-law {X} {Y} {take} {Q} {q} {more} some second =
    bind-law (one-law take no_more some) second (λ x. record { next = λ y front rest phrase ends. next_is-none (front ++ rest) })

-- one phrase or the other
alt-first : {X : Type 0} (test : Lexeme → Bool) (p q : List Lexeme → Reading X) (ts : List Lexeme) → next_is test ts ≡ true → alt test p q ts ≡ p ts
alt-first test p q ts passes = rw passes refl

alt-second : {X : Type 0} (test : Lexeme → Bool) (p q : List Lexeme → Reading X) (ts : List Lexeme) → next_is test ts ≡ false → alt test p q ts ≡ q ts
alt-second test p q ts fails = rw fails refl

module _ {X : Type 0} (P Q : X → List Lexeme → Type 0) (test : Lexeme → Bool) (p q : List Lexeme → Reading X) where
  -- the first tokens decide alike
  decides : (ts front rest other : List Lexeme) → ts ≡ front ++ rest → first_of other ≡ first_of rest → next_is test (front ++ other) ≡ next_is test ts
  decides ts front rest other joined first =
      next_is-same test (front ++ other) ts (first_of-append front other rest first ∙ ap first_of (sym joined))

  alt-at : (ts : List Lexeme) → (next_is test ts ≡ true → IsAt P p ts (p ts)) → (next_is test ts ≡ false → IsAt Q q ts (q ts))
      → IsAt (Or P Q) (alt test p q) ts (alt test p q ts)
  alt-at ts passes fails = by_test (next_is test ts) refl
    where
      by_test : (b : Bool) → next_is test ts ≡ b → IsAt (Or P Q) (alt test p q) ts (if b then p ts else q ts)
      by_test true is =
          moved P (Or P Q) p (alt test p q) ts (λ x us phrase. inl phrase)
          (λ front rest other joined first. alt-first test p q (front ++ other) (decides ts front rest other joined first ∙ is)) (p ts) (passes is)
      by_test false is =
          moved Q (Or P Q) q (alt test p q) ts (λ x us phrase. inr phrase)
          (λ front rest other joined first. alt-second test p q (front ++ other) (decides ts front rest other joined first ∙ is)) (q ts) (fails is)

  alt-complete : (x : X) (front rest : List Lexeme) → Or P Q x front → (P x front → next_is test (front ++ rest) ≡ true)
      → (Q x front → next_is test (front ++ rest) ≡ false) → (P x front → p (front ++ rest) ≡ Took x rest)
      → (Q x front → q (front ++ rest) ≡ Took x rest) → alt test p q (front ++ rest) ≡ Took x rest
  alt-complete x front rest (inl phrase) passes fails first second = alt-first test p q (front ++ rest) (passes phrase) ∙ first phrase
  alt-complete x front rest (inr phrase) passes fails first second = alt-second test p q (front ++ rest) (fails phrase) ∙ second phrase

pub alt-law : {X : Type 0} {P Q : X → List Lexeme → Type 0} {test more : Lexeme → Bool} {p q : List Lexeme → Reading X}
    → IsReader P more p → IsReader Q more q → Starts P test → Follows Q more test → IsReader (Or P Q) more (alt test p q)
alt-law {X} {P} {Q} {test} {more} {p} {q} first second starts follows = record {
  at = λ ts. alt-at P Q test p q ts (λ passes. first.at ts) (λ fails. second.at ts);
  complete = λ x front rest phrase ends.
      alt-complete P Q test p q x front rest phrase (λ here. next_is-append test front rest (starts.begins x front here))
      (λ here. follows.next x front rest here ends) (λ here. first.complete x front rest here ends)
      (λ here. second.complete x front rest here ends);
}

-- what is read takes at least one token
abbrev Shortens : {X : Type 0} → (List Lexeme → Reading X) → Type 0
Shortens {X} p = (ts : List Lexeme) (x : X) (rest : List Lexeme) → p ts ≡ Took x rest → length rest < length ts

-- any number of phrases, each of which takes a token
module _ {X : Type 0} (test : Lexeme → Bool) (p : List Lexeme → Reading X) (shortens : Shortens p) where
  -- one turn, with a reader for what is left
  abbrev turn : (List Lexeme → Reading (List X)) → List Lexeme → Reading (List X)
  turn left = alt test (bind p (λ x. bind left (λ xs. give (x ∷ xs)))) (give [])

  -- readers that agree on what is left agree on the whole
  turn-same : (f g : List Lexeme → Reading (List X)) (ts : List Lexeme)
      → ((rest : List Lexeme) → length rest < length ts → f rest ≡ g rest) → turn f ts ≡ turn g ts
  turn-same f g ts same = by_test (next_is test ts)
    where
      by_reading : (r : Reading X) → p ts ≡ r
          → and_then (λ x. bind f (λ xs. give (x ∷ xs))) r ≡ and_then (λ x. bind g (λ xs. give (x ∷ xs))) r
      by_reading (Took x rest) is = ap (and_then (λ xs. give (x ∷ xs))) (same rest (shortens ts x rest is))
      by_reading (Stuck place) is = refl

      by_test : (b : Bool) → (if b then bind p (λ x. bind f (λ xs. give (x ∷ xs))) ts else give [] ts)
          ≡ (if b then bind p (λ x. bind g (λ xs. give (x ∷ xs))) ts else give [] ts)
      by_test true = by_reading (p ts) refl
      by_test false = refl

  -- any number of turns from the length on is enough
  enough : (m n : ℕ) (ts : List Lexeme) → length ts ≤ m → length ts ≤ n → many_within m test p ts ≡ many_within n test p ts
  enough zero zero ts below within = refl
  enough zero (suc n) [] below within = refl
  enough zero (suc n) (t ∷ ts) below within = absurd (omega arith)
  enough (suc m) zero [] below within = refl
  enough (suc m) zero (t ∷ ts) below within = absurd (omega arith)
  enough (suc m) (suc n) ts below within =
      turn-same (many_within m test p) (many_within n test p) ts (λ rest less. enough m n rest (omega arith) (omega arith))

  -- as many as there are: a turn, and as many as there are behind it
  many-turn : (ts : List Lexeme)
      → many test p ts ≡ alt test (bind p (λ x. bind (many test p) (λ xs. give (x ∷ xs)))) (give []) ts
  unfolding many
  many-turn [] = refl
  many-turn (t ∷ ts) =
      turn-same (many_within (length ts) test p) (λ us. many_within (length us) test p us) (t ∷ ts)
      (λ rest less. enough (length ts) (length rest) rest (omega arith) (omega arith))

module _ {X : Type 0} (P : X → List Lexeme → Type 0) (test barred : Lexeme → Bool) (p : List Lexeme → Reading X) (law : IsReader P barred p) (starts : Starts P test) where
  -- a phrase takes a token
  shorter : Shortens p
  shorter ts x rest is =
      let took : Takes P p ts x rest = subst (IsAt P p ts) is (law.at ts) in
      omega (arith, next_is-some test took.front (starts.begins x took.front took.phrase), ap length took.joined, length-append took.front rest)

  abbrev one_turn : List Lexeme → Reading (List X)
  one_turn = turn test p shorter (many test p)

  -- a turn of phrases is phrases
  abbrev IsMore : List X → List Lexeme → Type 0
  IsMore = Then P (λ x. Then (Many P) (λ xs. Is (x ∷ xs)))

  phrases : (xs : List X) (ts : List Lexeme) → Or IsMore (Is []) xs ts → Many P xs ts
  phrases xs ts (inr none) = rw (none.0) none.1
  phrases xs ts (inl some) =
      rw (some.second.second.0) (record {
        front = some.front;
        rest = some.second.front;
        joined =
            some.joined ∙ ap (λ us. some.front ++ us) (some.second.joined ∙ ap (λ us. some.second.front ++ us) some.second.second.1
            ∙ append-nil some.second.front);
        first = some.first;
        second = some.second.first;
      })

  one_more : (x : X) → Sample (Then (Many P) (λ xs. Is (x ∷ xs)))
  one_more x = record {
    value = x ∷ [];
    tokens = [];
    phrase = record { value = []; front = []; rest = []; joined = refl; first = refl; second = (refl, refl) };
  }

  none_more : (x : X) (xs : List X) → Sample (Is (x ∷ xs))
  none_more x xs = record { value = x ∷ xs; tokens = []; phrase = (refl, refl) }

  turn-at : (ts : List Lexeme) → ((rest : List Lexeme) → length rest < length ts → IsAt (Many P) (many test p) rest (many test p rest))
      → IsAt (Many P) (many test p) ts (many test p ts)
  turn-at ts later =
      subst (IsAt (Many P) (many test p) ts) (sym (many-turn test p shorter ts))
      (moved (Or IsMore (Is [])) (Many P) one_turn (many test p) ts phrases
      (λ front rest other joined first. many-turn test p shorter (front ++ other)) (one_turn ts)
      (alt-at IsMore (Is []) test (bind p (λ x. bind (many test p) (λ xs. give (x ∷ xs)))) (give []) ts
      (λ passes. bind-at P (λ x. Then (Many P) (λ xs. Is (x ∷ xs))) p (λ x. bind (many test p) (λ xs. give (x ∷ xs))) one_more ts (p ts) refl (law.at ts)
      (λ x rest is. bind-at (Many P) (λ xs. Is (x ∷ xs)) (many test p) (λ xs. give (x ∷ xs)) (none_more x) rest (many test p rest) refl
      (later rest (shorter ts x rest is)) (λ xs left was. give-at (x ∷ xs) left)))
      (λ fails. give-at [] ts)))

  many-at : (n : ℕ) (ts : List Lexeme) → length ts ≤ n → IsAt (Many P) (many test p) ts (many test p ts)
  many-at zero ts within = turn-at ts (λ rest less. absurd (omega arith))
  many-at (suc n) ts within = turn-at ts (λ rest less. many-at n rest (omega arith))

  -- what stands first in phrases or behind them
  phrases-next : (xs : List X) (front rest : List Lexeme) → Many P xs front → next_is barred rest ≡ false → AreApart test barred
      → next_is barred (front ++ rest) ≡ false
  phrases-next [] front rest none ends apart = rw none ends
  phrases-next (x ∷ xs) front rest some ends apart =
      let begins : next_is test some.front ≡ true = starts.begins x some.front some.first in
      rw (some.joined, append_assoc some.front some.rest rest)
      (next_is-apart test barred apart (some.front ++ (some.rest ++ rest)) (next_is-append test some.front (some.rest ++ rest) begins))

  many-complete : AreApart test barred → (xs : List X) (front rest : List Lexeme) → Many P xs front → next_is test rest ≡ false
      → next_is barred rest ≡ false → many test p (front ++ rest) ≡ Took xs rest
  many-complete apart [] front rest none no_turn ends =
      rw (none, many-turn test p shorter rest) (alt-second test (bind p (λ x. bind (many test p) (λ xs. give (x ∷ xs)))) (give []) rest no_turn)
  many-complete apart (x ∷ xs) front rest some no_turn ends =
      let begins : next_is test some.front ≡ true = starts.begins x some.front some.first in
      rw (some.joined, append_assoc some.front some.rest rest)
      (many-turn test p shorter (some.front ++ (some.rest ++ rest))
      ∙ alt-first test (bind p (λ x. bind (many test p) (λ xs. give (x ∷ xs)))) (give []) (some.front ++ (some.rest ++ rest))
      (next_is-append test some.front (some.rest ++ rest) begins)
      ∙ ap (and_then (λ y. bind (many test p) (λ ys. give (y ∷ ys))))
      (law.complete x some.front (some.rest ++ rest) some.first (phrases-next xs some.rest rest some.second ends apart))
      ∙ ap (and_then (λ ys. give (x ∷ ys))) (many-complete apart xs some.rest rest some.second no_turn ends))

  pub many-law : (more : Lexeme → Bool) → AreApart test barred → Covers more test → Covers more barred → IsReader (Many P) more (many test p)
  many-law more apart covers_test covers_barred = record {
    at = λ ts. many-at (length ts) ts (omega arith);
    complete = λ xs front rest some ends.
        many-complete apart xs front rest some (next_is-covers more test covers_test rest ends)
        (next_is-covers more barred covers_barred rest ends);
  }

-- what a phrase begins with
pub one-starts : {X : Type 0} {take : Lexeme → Option X} {test : Lexeme → Bool} → ((t : Lexeme) (x : X) → take t ≡ Some x → test t ≡ true)
    → Starts (One take) test
one-starts {X} {take} {test} passes = record { begins = λ x ts phrase. rw (phrase.1) (passes phrase.0 x phrase.2) }

pub then-starts : {X Y : Type 0} {P : X → List Lexeme → Type 0} {Q : X → Y → List Lexeme → Type 0} {test : Lexeme → Bool} → Starts P test
    → Starts (Then P Q) test
then-starts {X} {Y} {P} {Q} {test} starts = record {
  begins = λ y ts phrase.
      rw (phrase.joined) (next_is-append test phrase.front phrase.rest (starts.begins phrase.value phrase.front phrase.first));
}

pub or-starts : {X : Type 0} {P Q : X → List Lexeme → Type 0} {test : Lexeme → Bool} → Starts P test → Starts Q test → Starts (Or P Q) test
or-starts {X} {P} {Q} {test} first second = record { begins = begins }
  where
    begins : (x : X) (ts : List Lexeme) → Or P Q x ts → next_is test ts ≡ true
    begins x ts (inl phrase) = first.begins x ts phrase
    begins x ts (inr phrase) = second.begins x ts phrase

pub starts-wider : {X : Type 0} {P : X → List Lexeme → Type 0} {test : Lexeme → Bool} → Starts P test → (wide : Lexeme → Bool)
    → ((t : Lexeme) → test t ≡ true → wide t ≡ true) → Starts P wide
starts-wider {X} {P} {test} starts wide to = record { begins = λ x ts phrase. by_first ts (starts.begins x ts phrase) }
  where
    by_first : (ts : List Lexeme) → next_is test ts ≡ true → next_is wide ts ≡ true
    by_first [] passes = cc
    by_first (t ∷ ts) passes = to t passes

-- what stands first in a phrase or behind it
pub starts-follows : {X : Type 0} {P : X → List Lexeme → Type 0} {test more barred : Lexeme → Bool} → Starts P test → AreApart test barred
    → Follows P more barred
starts-follows {X} {P} {test} {more} {barred} starts apart = record {
  next = λ x front rest phrase ends.
      next_is-apart test barred apart (front ++ rest) (next_is-append test front rest (starts.begins x front phrase));
}

pub is-follows : {X : Type 0} {x : X} {more barred : Lexeme → Bool} → Covers more barred → Follows (Is x) more barred
is-follows {X} {x} {more} {barred} covers = record {
  next = λ y front rest phrase ends. rw (phrase.1) (next_is-covers more barred covers rest ends);
}

pub or-follows : {X : Type 0} {P Q : X → List Lexeme → Type 0} {more barred : Lexeme → Bool} → Follows P more barred → Follows Q more barred
    → Follows (Or P Q) more barred
or-follows {X} {P} {Q} {more} {barred} first second = record { next = next }
  where
    next : (x : X) (front rest : List Lexeme) → Or P Q x front → next_is more rest ≡ false → next_is barred (front ++ rest) ≡ false
    next x front rest (inl phrase) ends = first.next x front rest phrase ends
    next x front rest (inr phrase) ends = second.next x front rest phrase ends

pub then-follows : {X Y : Type 0} {P : X → List Lexeme → Type 0} {Q : X → Y → List Lexeme → Type 0} {more barred : Lexeme → Bool}
    → Follows P barred barred → ((x : X) → Follows (Q x) more barred) → Follows (Then P Q) more barred
then-follows {X} {Y} {P} {Q} {more} {barred} first second = record {
  next = λ y front rest phrase ends.
      rw (phrase.joined, append_assoc phrase.front phrase.rest rest)
      (first.next phrase.value phrase.front (phrase.rest ++ rest) phrase.first
      ((second phrase.value).next y phrase.rest rest phrase.second ends));
}

pub many-follows : {X : Type 0} {P : X → List Lexeme → Type 0} {test more barred : Lexeme → Bool} → Starts P test → AreApart test barred
    → Covers more barred → Follows (Many P) more barred
many-follows {X} {P} {test} {more} {barred} starts apart covers = record { next = next }
  where
    next : (xs : List X) (front rest : List Lexeme) → Many P xs front → next_is more rest ≡ false → next_is barred (front ++ rest) ≡ false
    next [] front rest none ends = rw none (next_is-covers more barred covers rest ends)
    next (x ∷ xs) front rest some ends =
        rw (some.joined, append_assoc some.front some.rest rest)
        (next_is-apart test barred apart (some.front ++ (some.rest ++ rest))
        (next_is-append test some.front (some.rest ++ rest) (starts.begins x some.front some.first)))

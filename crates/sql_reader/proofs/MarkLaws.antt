-- Tests of one token by sets of marks, and a token of each mark.
use Rattle.std.proofs.Common.{◌≡◌, ℕ, ◌==◌, Bool, true, false, ◌||◌, not, List, [], ◌∷◌, Some, None, refl, ap, ◌∙◌, eq-eqb}
use Rattle.std.specs.Prelude.{codes, if◌then◌else◌}
use Rattle.std.specs.List.{list_all, list_any}
use Rattle.std.proofs.lemmas.Bool.{eqb-true}
use Rattle.word_forms.specs.declared.keyword.Keyword.TheVariants as keyword
use Rattle.word_forms.specs.Keywords.{keyword_of, spelling}
use Rattle.sql_lexer.specs.declared.token.TokenKind.TheVariants as kind
use Rattle.sql_lexer.specs.Lexing.{Lexeme}
use Rattle.base_laws.proofs.BoolLaws.{both}
use Rattle.word_forms.proofs.KeywordLaws.{keyword_of-spelling}
use Rattle.sql_reader.specs.declared.mark.Mark.{Mark}
use Rattle.sql_reader.specs.declared.mark.Mark.TheVariants as mark
use Rattle.sql_reader.specs.Marks.{mark_of, mark_number, is_mark, is_one_of, symbol_mark}
use Rattle.sql_reader.specs.Phrases.{One}
use Rattle.sql_reader.specs.Grammar.{marked, sign, op_marked, op_in, literal_marked, literal_in, function_marked, function_in, Function}
use Rattle.sql_reader.proofs.ReaderLaws.{AreApart, Covers, Starts, Sample, one-starts}

-- whether a number is that of one of the marks
abbrev pub has : ℕ → List Mark → Bool
has m marks = list_any (λ k. m == mark_number k) marks

-- whether no mark stands in both lists, and whether each of the second stands in the first
abbrev pub are_apart : List Mark → List Mark → Bool
are_apart ks js = list_all (λ k. not (has (mark_number k) js)) ks

abbrev pub covers_all : List Mark → List Mark → Bool
covers_all ms ns = list_all (λ n. has (mark_number n) ms) ns

not-true : (x : Bool) → not x ≡ true → x ≡ false
not-true true fails = cc
not-true false fails = refl

has-apart : (m : ℕ) (ks js : List Mark) → has m ks ≡ true → are_apart ks js ≡ true → has m js ≡ false
has-apart m [] js found apart = cc
has-apart m (k ∷ ks) js found apart =
    let parts = both (not (has (mark_number k) js)) (are_apart ks js) apart in
    by_first (m == mark_number k) refl found (not-true (has (mark_number k) js) parts.0) (λ later. has-apart m ks js later parts.1)
  where
    by_first : (b : Bool) → (m == mark_number k) ≡ b → (b || has m ks) ≡ true → has (mark_number k) js ≡ false
        → (has m ks ≡ true → has m js ≡ false) → has m js ≡ false
    by_first true same found none later = ap (λ n. has n js) (eqb-true m (mark_number k) same) ∙ none
    by_first false other found none later = later found

has-covers : (m : ℕ) (ms ns : List Mark) → has m ms ≡ false → covers_all ms ns ≡ true → has m ns ≡ false
has-covers m ms [] none all = refl
has-covers m ms (n ∷ ns) none all =
    let parts = both (has (mark_number n) ms) (covers_all ms ns) all in
    by_first (m == mark_number n) refl parts.0 (has-covers m ms ns none parts.1)
  where
    by_first : (b : Bool) → (m == mark_number n) ≡ b → has (mark_number n) ms ≡ true → has m ns ≡ false → (b || has m ns) ≡ false
    by_first true same found later =
        let here : has m ms ≡ true = ap (λ i. has i ms) (eqb-true m (mark_number n) same) ∙ found in cc
    by_first false other found later = later

pub apart : (ks js : List Mark) → are_apart ks js ≡ true → AreApart (is_one_of ks) (is_one_of js)
apart ks js are t found = has-apart (mark_number (mark_of t)) ks js found are

pub covers : (ms ns : List Mark) → covers_all ms ns ≡ true → Covers (is_one_of ms) (is_one_of ns)
covers ms ns all t none = has-covers (mark_number (mark_of t)) ms ns none all

-- more marks take more tokens
has-more : (m : ℕ) (ms ns : List Mark) → has m ns ≡ true → covers_all ms ns ≡ true → has m ms ≡ true
has-more m ms ns found all = by_has (has m ms) refl
  where
    by_has : (b : Bool) → has m ms ≡ b → b ≡ true
    by_has true is = refl
    by_has false is = let none : has m ns ≡ false = has-covers m ms ns is all in cc

pub wider_marks : (ms ns : List Mark) → covers_all ms ns ≡ true → (t : Lexeme) → is_one_of ns t ≡ true → is_one_of ms t ≡ true
wider_marks ms ns all t found = has-more (mark_number (mark_of t)) ms ns found all

-- a token of a mark begins with it
marked-is : (k : Mark) (t x : Lexeme) → marked k t ≡ Some x → is_one_of (k ∷ []) t ≡ true
marked-is k t x is = by_test (is_mark k t) is
  where
    by_test : (b : Bool) → (if b then Some t else None) ≡ Some x → (b || false) ≡ true
    by_test true is = refl
    by_test false is = cc

pub mark-starts : (k : Mark) → Starts (sign k).spells (is_one_of (k ∷ []))
mark-starts k = one-starts (marked-is k)

-- a token of each mark
abbrev sample : Mark → Lexeme
sample (mark.Keyword k) = record { kind = kind.Word; text = spelling k; at = 0 }
sample mark.Name = record { kind = kind.Word; text = codes "a"; at = 0 }
sample mark.Number = record { kind = kind.Number; text = codes "0"; at = 0 }
sample mark.Text = record { kind = kind.Text; text = codes "''"; at = 0 }
sample mark.Comma = record { kind = kind.Symbol; text = codes ","; at = 0 }
sample mark.Dot = record { kind = kind.Symbol; text = codes "."; at = 0 }
sample mark.Open = record { kind = kind.Symbol; text = codes "("; at = 0 }
sample mark.Close = record { kind = kind.Symbol; text = codes ")"; at = 0 }
sample mark.Star = record { kind = kind.Symbol; text = codes "*"; at = 0 }
sample mark.Semicolon = record { kind = kind.Symbol; text = codes ";"; at = 0 }
sample mark.Eq = record { kind = kind.Symbol; text = codes "="; at = 0 }
sample mark.Ne = record { kind = kind.Symbol; text = codes "<>"; at = 0 }
sample mark.Lt = record { kind = kind.Symbol; text = codes "<"; at = 0 }
sample mark.Le = record { kind = kind.Symbol; text = codes "<="; at = 0 }
sample mark.Gt = record { kind = kind.Symbol; text = codes ">"; at = 0 }
sample mark.Ge = record { kind = kind.Symbol; text = codes ">="; at = 0 }

sample-mark : (k : Mark) → mark_of (sample k) ≡ k
unfolding keyword_of symbol_mark
sample-mark (mark.Keyword k) = rw (keyword_of-spelling k) refl
sample-mark mark.Name = refl
sample-mark mark.Number = refl
sample-mark mark.Text = refl
sample-mark mark.Comma = refl
sample-mark mark.Dot = refl
sample-mark mark.Open = refl
sample-mark mark.Close = refl
sample-mark mark.Star = refl
sample-mark mark.Semicolon = refl
sample-mark mark.Eq = refl
sample-mark mark.Ne = refl
sample-mark mark.Lt = refl
sample-mark mark.Le = refl
sample-mark mark.Gt = refl
sample-mark mark.Ge = refl

same_number : (n : ℕ) → (n == n) ≡ true
same_number n = eq-eqb n n refl

pub some_mark : (k : Mark) → Sample (sign k).spells
some_mark k =
    let is : is_mark k (sample k) ≡ true = ap (λ j. mark_number j == mark_number k) (sample-mark k) ∙ same_number (mark_number k) in
    record { value = sample k; tokens = sample k ∷ []; phrase = (sample k, refl, rw is refl) }

pub some_op : Sample (One op_in)
some_op = let t : Lexeme = sample mark.Eq in record { value = _; tokens = t ∷ []; phrase = (t, refl, ap op_marked (sample-mark mark.Eq)) }

pub some_literal : Sample (One literal_in)
some_literal = let t : Lexeme = sample mark.Text in
    record { value = _; tokens = t ∷ []; phrase = (t, refl, ap (λ k. literal_marked k t) (sample-mark mark.Text)) }

pub some_function : Sample (One function_in)
some_function = let t : Lexeme = sample (mark.Keyword keyword.Sum) in
    record { value = _; tokens = t ∷ []; phrase = (t, refl, ap (λ k. function_marked k t.at) (sample-mark (mark.Keyword keyword.Sum))) }

-- what a comparison, a literal and a function begin with
abbrev pub op_marks : List Mark
op_marks = mark.Eq ∷ mark.Ne ∷ mark.Lt ∷ mark.Le ∷ mark.Gt ∷ mark.Ge ∷ []

abbrev pub literal_marks : List Mark
literal_marks = mark.Number ∷ mark.Text ∷ []

abbrev pub function_marks : List Mark
function_marks = mark.Keyword keyword.Sum ∷ mark.Keyword keyword.Min ∷ mark.Keyword keyword.Max ∷ []

pub op-is : (k : Mark) (x : _) → op_marked k ≡ Some x → has (mark_number k) op_marks ≡ true
op-is mark.Eq x is = refl
op-is mark.Ne x is = refl
op-is mark.Lt x is = refl
op-is mark.Le x is = refl
op-is mark.Gt x is = refl
op-is mark.Ge x is = refl
op-is (mark.Keyword k) x is = cc
op-is mark.Name x is = cc
op-is mark.Number x is = cc
op-is mark.Text x is = cc
op-is mark.Comma x is = cc
op-is mark.Dot x is = cc
op-is mark.Open x is = cc
op-is mark.Close x is = cc
op-is mark.Star x is = cc
op-is mark.Semicolon x is = cc

literal-is : (k : Mark) (t : Lexeme) (x : _) → literal_marked k t ≡ Some x → has (mark_number k) literal_marks ≡ true
literal-is mark.Number t x is = refl
literal-is mark.Text t x is = refl
literal-is _ t x is = cc

pub function-is : (k : Mark) (at : ℕ) (x : Function) → function_marked k at ≡ Some x → has (mark_number k) function_marks ≡ true
function-is (mark.Keyword keyword.Sum) at x is = refl
function-is (mark.Keyword keyword.Min) at x is = refl
function-is (mark.Keyword keyword.Max) at x is = refl
function-is _ at x is = cc

pub op-starts : Starts (One op_in) (is_one_of op_marks)
op-starts = one-starts (λ t x is. op-is (mark_of t) x is)

pub literal-starts : Starts (One literal_in) (is_one_of literal_marks)
literal-starts = one-starts (λ t x is. literal-is (mark_of t) t x is)

pub function-starts : Starts (One function_in) (is_one_of function_marks)
function-starts = one-starts (λ t x is. function-is (mark_of t) t.at x is)

-- Each token that is written spells what it stands for.
use Rattle.std.proofs.Common.{◌≡◌, ℕ, ◌+◌, ◌-◌, ◌<◌, ◌==◌, true, false, List, [], ◌∷◌, ◌++◌, length, take, codes, Option, Some, None, refl, ap, arith, length-append}
use Rattle.std.specs.Prelude.{pos, unwrap_or}
use Rattle.std.proofs.lemmas.Bool.Decides.{nat_tests}
use Rattle.std.proofs.lemmas.List.{take_at}
use Rattle.word_forms.specs.declared.keyword.Keyword.{Keyword}
use Rattle.word_forms.specs.declared.keyword.Keyword.TheVariants as keyword
use Rattle.word_forms.specs.Keywords.{spelling}
use Rattle.word_forms.proofs.KeywordLaws.{keyword_of-spelling, is_word-spelling}
use Rattle.std.specs.Fmt.{signed_decimal}
use Rattle.mq_base.specs.declared.query.Agg.{Agg}
use Rattle.mq_base.specs.declared.query.Agg.TheVariants as agg
use Rattle.mq_base.specs.declared.query.CmpOp.{CmpOp}
use Rattle.mq_base.specs.declared.query.CmpOp.TheVariants as cmp
use Rattle.sql_lexer.specs.declared.token.TokenKind.{TokenKind}
use Rattle.sql_lexer.specs.declared.token.TokenKind.TheVariants as kind
use Rattle.sql_lexer.specs.declared.fronts.Front.TheVariants.{Taken}
use Rattle.sql_lexer.specs.Lexing.{is_short_symbol, is_long_symbol, front_of, Lexeme}
use Rattle.sql_lexer.specs.Longest.{IsWord}
use Rattle.sql_lexer.proofs.TokenFronts.{Stops, word_alone, number_alone, text_alone, short_alone, long_alone}
use Rattle.sql_reader.specs.declared.mark.Mark.{Mark}
use Rattle.sql_reader.specs.declared.mark.Mark.TheVariants as mark
use Rattle.sql_reader.specs.Marks.{word_mark_of, symbol_mark, mark_of, mark_number}
use Rattle.sql_reader.specs.Phrases.{One}
use Rattle.sql_reader.specs.Syntax.{Literal, Number, Text}
use Rattle.sql_reader.specs.Grammar as grammar
use Rattle.sql_reader.specs.Grammar.{sign, reserved, marked, op_in, literal_in, inside_of, Function, function_in}
use Rattle.sql_reader.specs.Reading.{is_wide, first_wide}
use Rattle.sql_reader.specs.Writable.{IsName, IsPaired}
use Rattle.query_print.specs.Spelling.{op_text, function_text, literal_text}
use Rattle.query_print.specs.inside.PrintParts.{IsInRange}
use Rattle.query_print.proofs.SpellLexing.{Any, Breaks, breaks_words, breaks_digits, breaks_texts, lexes_one}
use Rattle.query_print.proofs.SpellPhrases.{Spells, spells_as, spells_space, spells_apart}
use Rattle.query_print.proofs.SpellNumbers.{signed_decimal-number, integer_of-signed_decimal, signed_decimal-filled}

-- of the value nothing is told
abbrev pub Untold : {X : Type 0} → X → Type 0
Untold x = Unit {0}

narrow : (x : Lexeme) → is_wide x ≡ false → first_wide (x ∷ []) ≡ None
narrow x narrow_is = rw narrow_is refl

-- one token
spells_one : {X : Type 0} (take : Lexeme → Option X) (T : X → Type 0) (E : List ℕ → Type 0) (at : ℕ) (kind : TokenKind) (text : List ℕ) (x : X)
    → take (record { kind = kind; text = text; at = at }) ≡ Some x → T x → is_wide (record { kind = kind; text = text; at = at }) ≡ false
    → 0 < length text → ((more : List ℕ) → E more → front_of (text ++ more) ≡ Taken kind (length text))
    → Spells (One take) T E at text
spells_one take T E at kind text x takes told no_wide filled front =
    let token : Lexeme = record { kind = kind; text = text; at = at } in
    record {
      value = x;
      tokens = token ∷ [];
      phrase = (token, refl, takes);
      told = told;
      in_range = narrow token no_wide;
      lexing = lexes_one E at kind text filled front;
    }

-- a word
word_filled : (text : List ℕ) → IsWord text → 0 < length text
word_filled [] word = cc
word_filled (b ∷ rest) word = omega arith

-- a name
pub spells_name : (text : List ℕ) → IsName text → (at : ℕ) → Spells grammar.name.spells (λ x. x.text ≡ text) Breaks at text
spells_name text name at =
    let token : Lexeme = record { kind = kind.Word; text = text; at = at } in
    let marks : mark_of token ≡ mark.Name = ap word_mark_of name.no_keyword in
    spells_one (marked mark.Name) (λ x. x.text ≡ text) Breaks at kind.Word text token
    (rw (name.no_keyword) refl) refl (rw (name.no_keyword) refl) (word_filled text name.word)
    (λ more ends. word_alone text more name.word (breaks_words more ends))

-- a keyword in capitals
same_number : (n : ℕ) → (n == n) ≡ true
same_number n = grind (arith, nat_tests)

keyword_marked : (k : Keyword) (at : ℕ)
    → marked (mark.Keyword k) (record { kind = kind.Word; text = spelling k; at = at }) ≡ Some (record { kind = kind.Word; text = spelling k; at = at })
keyword_marked k at = rw (keyword_of-spelling k, same_number (mark_number (mark.Keyword k))) refl

keyword_no_number : (k : Keyword) → (mark_number (mark.Keyword k) == 1) ≡ false
keyword_no_number k = grind (arith, nat_tests)

keyword_narrow : (k : Keyword) (at : ℕ) → is_wide (record { kind = kind.Word; text = spelling k; at = at }) ≡ false
keyword_narrow k at = rw (keyword_of-spelling k, keyword_no_number k) refl

pub spells_keyword : (k : Keyword) (at : ℕ) → Spells (reserved k).spells Untold Breaks at (spelling k)
spells_keyword k at =
    let token : Lexeme = record { kind = kind.Word; text = spelling k; at = at } in
    spells_one (marked (mark.Keyword k)) Untold Breaks at kind.Word (spelling k) token
    (keyword_marked k at) tt (keyword_narrow k at) (word_filled (spelling k) (is_word-spelling k))
    (λ more ends. word_alone (spelling k) more (is_word-spelling k) (breaks_words more ends))

-- a keyword between spaces
pub spells_between : (k : Keyword) (at : ℕ) → Spells (reserved k).spells Untold Any at (32 ∷ (spelling k ++ 32 ∷ []))
spells_between k at = spells_space (spells_apart (spelling k) (λ more. refl) (spells_keyword k (at + 1)))

-- a symbol of one byte that begins no longer one
abbrev pub IsLone : ℕ → Type 0
IsLone b = (c : ℕ) → is_long_symbol b c ≡ false

lone_stops : (b : ℕ) (more : List ℕ) → IsLone b → Stops (is_long_symbol b) more
lone_stops b [] lone = tt
lone_stops b (c ∷ rest) lone = lone c

spells_symbol : (k : Mark) (b : ℕ) (at : ℕ) → is_short_symbol b ≡ true → IsLone b
    → marked k (record { kind = kind.Symbol; text = b ∷ []; at = at }) ≡ Some (record { kind = kind.Symbol; text = b ∷ []; at = at })
    → is_wide (record { kind = kind.Symbol; text = b ∷ []; at = at }) ≡ false → Spells (sign k).spells Untold Any at (b ∷ [])
spells_symbol k b at short lone marks no_wide =
    spells_one (marked k) Untold Any at kind.Symbol (b ∷ []) (record { kind = kind.Symbol; text = b ∷ []; at = at })
    marks tt no_wide (omega arith) (λ more any. short_alone b more short (lone_stops b more lone))

pub spells_dot : (at : ℕ) → Spells (sign mark.Dot).spells Untold Any at (codes ".")
unfolding symbol_mark
spells_dot at = spells_symbol mark.Dot 46 at refl (λ c. refl) refl refl

pub spells_open : (at : ℕ) → Spells (sign mark.Open).spells Untold Any at (codes "(")
unfolding symbol_mark
spells_open at = spells_symbol mark.Open 40 at refl (λ c. refl) refl refl

pub spells_close : (at : ℕ) → Spells (sign mark.Close).spells Untold Any at (codes ")")
unfolding symbol_mark
spells_close at = spells_symbol mark.Close 41 at refl (λ c. refl) refl refl

pub spells_star : (at : ℕ) → Spells (sign mark.Star).spells Untold Any at (codes "*")
unfolding symbol_mark
spells_star at = spells_symbol mark.Star 42 at refl (λ c. refl) refl refl

-- a comma, with the space behind it
pub spells_comma : (at : ℕ) → Spells (sign mark.Comma).spells Untold Any at (codes ", ")
unfolding symbol_mark
spells_comma at = spells_apart (codes ",") (λ more. tt) (spells_symbol mark.Comma 44 at refl (λ c. refl) refl refl)

-- the bytes begin with a space
abbrev Spaced : List ℕ → Type 0
Spaced [] = ⊥
Spaced (b ∷ rest) = b ≡ 32

-- a comparison before a space
op_front : (op : CmpOp) (more : List ℕ) → front_of (op_text op ++ 32 ∷ more) ≡ Taken kind.Symbol (length (op_text op))
op_front cmp.Eq more = short_alone 61 (32 ∷ more) refl refl
op_front cmp.Ne more = long_alone 60 62 (32 ∷ more) refl
op_front cmp.Lt more = short_alone 60 (32 ∷ more) refl refl
op_front cmp.Le more = long_alone 60 61 (32 ∷ more) refl
op_front cmp.Gt more = short_alone 62 (32 ∷ more) refl refl
op_front cmp.Ge more = long_alone 62 61 (32 ∷ more) refl

op_behind : (op : CmpOp) (more : List ℕ) → Spaced more → front_of (op_text op ++ more) ≡ Taken kind.Symbol (length (op_text op))
op_behind op [] spaced = absurd spaced
op_behind op (b ∷ rest) spaced = rw spaced (op_front op rest)

op_taken : (op : CmpOp) (at : ℕ) → op_in (record { kind = kind.Symbol; text = op_text op; at = at }) ≡ Some op
unfolding symbol_mark
op_taken cmp.Eq at = refl
op_taken cmp.Ne at = refl
op_taken cmp.Lt at = refl
op_taken cmp.Le at = refl
op_taken cmp.Gt at = refl
op_taken cmp.Ge at = refl

op_narrow : (op : CmpOp) (at : ℕ) → is_wide (record { kind = kind.Symbol; text = op_text op; at = at }) ≡ false
unfolding symbol_mark
op_narrow cmp.Eq at = refl
op_narrow cmp.Ne at = refl
op_narrow cmp.Lt at = refl
op_narrow cmp.Le at = refl
op_narrow cmp.Gt at = refl
op_narrow cmp.Ge at = refl

op_filled : (op : CmpOp) → 0 < length (op_text op)
op_filled cmp.Eq = omega arith
op_filled cmp.Ne = omega arith
op_filled cmp.Lt = omega arith
op_filled cmp.Le = omega arith
op_filled cmp.Gt = omega arith
op_filled cmp.Ge = omega arith

-- a comparison between spaces
pub spells_op : (op : CmpOp) (at : ℕ) → Spells (One op_in) (λ o. o ≡ op) Any at (32 ∷ (op_text op ++ 32 ∷ []))
spells_op op at = spells_space (spells_apart (op_text op) (λ more. refl)
    (spells_one op_in (λ o. o ≡ op) Spaced (at + 1) kind.Symbol (op_text op) op (op_taken op (at + 1)) refl (op_narrow op (at + 1)) (op_filled op)
    (op_behind op)))

-- a function
abbrev function_keyword : Agg → Keyword
function_keyword agg.Sum = keyword.Sum
function_keyword agg.Min = keyword.Min
function_keyword agg.Max = keyword.Max

function_text-spelling : (func : Agg) → spelling (function_keyword func) ≡ function_text func
function_text-spelling agg.Sum = refl
function_text-spelling agg.Min = refl
function_text-spelling agg.Max = refl

function_taken : (func : Agg) (at : ℕ)
    → function_in (record { kind = kind.Word; text = spelling (function_keyword func); at = at }) ≡ Some (record { func = func; at = at })
function_taken agg.Sum at = rw (keyword_of-spelling keyword.Sum) refl
function_taken agg.Min at = rw (keyword_of-spelling keyword.Min) refl
function_taken agg.Max at = rw (keyword_of-spelling keyword.Max) refl

pub spells_function : (func : Agg) (at : ℕ) → Spells (One function_in) (λ f. f.func ≡ func) Breaks at (function_text func)
spells_function func at =
    let k : Keyword = function_keyword func in
    let function : Function = record { func = func; at = at } in
    spells_as (spelling k) (function_text func) (function_text-spelling func)
    (spells_one function_in (λ f. f.func ≡ func) Breaks at kind.Word (spelling k) function (function_taken func at) refl (keyword_narrow k at)
    (word_filled (spelling k) (is_word-spelling k))
    (λ more ends. word_alone (spelling k) more (is_word-spelling k) (breaks_words more ends)))

-- a literal
inside_of-text : (inside : List ℕ) → inside_of (39 ∷ (inside ++ 39 ∷ [])) ≡ inside
inside_of-text inside =
    let count : length inside ≡ length (39 ∷ (inside ++ 39 ∷ [])) - 2 = omega (arith, length-append inside (39 ∷ [])) in
    take_at inside (39 ∷ []) (length (39 ∷ (inside ++ 39 ∷ [])) - 2) count

pub spells_literal : (l : Literal) → IsPaired l → IsInRange l → (at : ℕ) → Spells (One literal_in) (λ m. m ≡ l) Breaks at (literal_text l)
spells_literal (Number z) paired fits at =
    spells_one literal_in (λ m. m ≡ Number z) Breaks at kind.Number (signed_decimal z) (Number z)
    (ap (λ o. Some (Number (unwrap_or o (pos 0)))) (integer_of-signed_decimal z fits)) refl
    (rw (integer_of-signed_decimal z fits) refl) (signed_decimal-filled z fits)
    (λ more ends. number_alone (signed_decimal z) more (signed_decimal-number z fits) (breaks_digits more ends))
spells_literal (Text inside) paired fits at =
    spells_one literal_in (λ m. m ≡ Text inside) Breaks at kind.Text (39 ∷ (inside ++ 39 ∷ [])) (Text inside)
    (ap (λ t. Some (Text t)) (inside_of-text inside)) refl refl (omega arith)
    (λ more ends. text_alone inside more paired (breaks_texts more ends))

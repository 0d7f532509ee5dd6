-- Tokens one by one: the next of a list, and what its mark says of its text.
use Rattle.std.proofs.Common.{◌≡◌, ℕ, ◌+◌, ◌-◌, ◌<◌, ◌≤◌, Bool, true, false, ◌||◌, List, [], ◌∷◌, ◌++◌, map, length, take, drop, get_or, Option, Some, None, IsUtf8, suc, refl, sym, ap, subst, ◌∙◌, arith, length-append}
use Rattle.std.specs.Prelude.{All, slice_index_or, IfSome, is_some, nat_lt, codes, bytes_eq, if◌then◌else◌}
use Rattle.std.specs.Option.{option_or}
use Rattle.std.specs.Borrow.{Bor}
use Rattle.std.specs.Str.{IsCharBoundary}
use Rattle.std.proofs.lemmas.Bool.{eqb-true}
use Rattle.std.proofs.lemmas.List.{drop-map, drop_more, drop_all, length-map}
use borrow.Author.Tests.{ltb-true, ltb-false}
use Rattle.std.proofs.lemmas.List.Elements.{All-drop, All-head}
use Rattle.std.proofs.Math.Seq.{get_or-append_seam}
use Rattle.std.proofs.lemmas.Str.{IsCharBoundary-after_ascii}
use Rattle.word_forms.specs.declared.keyword.Keyword.{Keyword}
use Rattle.word_forms.specs.Keywords.{keyword_of}
use Rattle.mq_base.specs.declared.query.CmpOp.{CmpOp}
use Rattle.sql_lexer.specs.declared.token.TokenKind.{TokenKind}
use Rattle.sql_lexer.specs.declared.token.TokenKind.TheVariants as kind
use Rattle.sql_lexer.specs.declared.token.Token.{Token}
use Rattle.sql_lexer.specs.Lexing.{Lexeme, lexeme}
use Rattle.sql_lexer.specs.Longest.{IsText, IsToken, AreLongest}
use Rattle.sql_lexer.specs.Slices.{AreSlices}
use Rattle.sql_reader.specs.declared.mark.Mark.{Mark}
use Rattle.sql_reader.specs.declared.mark.Mark.TheVariants as mark
use Rattle.sql_reader.specs.Marks.{word_mark_of, symbol_mark, kind_mark, mark_number, mark_of, is_mark, is_one_of}
use Rattle.sql_reader.specs.Grammar.{Function, op_marked, function_in}
use Rattle.sql_reader.specs.Reading.{is_wide}
use Rattle.sql_reader.specs.inside.Answers.{IsWhole, AreWhole, IsNoNumber, KeepsWide, wide_in, with_next}
use Rattle.sql_reader.proofs.MarkLaws.{apart, are_apart, op_marks, op-is, function_marks, function-is}

-- the next token of whole ones is whole
pub next-whole : (ts : List Token) (at : ℕ) (t : Lexeme) (rest : List Lexeme) → AreWhole ts → drop at (map lexeme ts) ≡ t ∷ rest → IsWhole t
next-whole ts at t rest whole next = All-head IsWhole t rest (subst (All IsWhole) next (All-drop IsWhole at (map lexeme ts) whole))

-- the next token, as a slice gives it
pub next-left : (ts : List Token) (at : ℕ) (next : Option (Bor Token)) → is_some next ≡ nat_lt at (length ts)
    → IfSome next (λ t. t.now ≡ get_or ts at t.now) → drop at (map lexeme ts) ≡ with_next next (drop (at + 1) (map lexeme ts))
next-left ts at None some is = drop_all at (map lexeme ts) (omega (arith, length-map ts lexeme, ltb-false at (length ts) (sym some)))
next-left ts at (Some t) some is =
    let below : at < length ts = ltb-true at (length ts) (sym some) in
    drop-map lexeme at ts ∙ ap (map lexeme) (drop_more ts at t.now below ∙ ap (λ (u : Token). u ∷ drop (at + 1) ts) (sym is))
    ∙ ap (λ us. lexeme t.now ∷ us) (sym (drop-map lexeme (at + 1) ts))

-- the mark of a symbol is none of a word, a number or a text
pub record IsSymbolMark (m : Mark) : Type 0 where
  pub above : 3 ≤ mark_number m
  pub below : mark_number m ≤ 14

within : (m : Mark) → 3 ≤ mark_number m → mark_number m ≤ 14 → IsSymbolMark m
within m above below = record { above = above; below = below }

either : (test : Bool) (x y : Mark) → IsSymbolMark x → IsSymbolMark y → IsSymbolMark (if test then x else y)
either true x y first second = first
either false x y first second = second

pub symbol-marks : (text : List ℕ) → IsSymbolMark (symbol_mark text)
unfolding symbol_mark
symbol-marks text =
    either (bytes_eq text (codes ",")) mark.Comma _ (within mark.Comma (omega arith) (omega arith)) (
    either (bytes_eq text (codes ".")) mark.Dot _ (within mark.Dot (omega arith) (omega arith)) (
    either (bytes_eq text (codes "(")) mark.Open _ (within mark.Open (omega arith) (omega arith)) (
    either (bytes_eq text (codes ")")) mark.Close _ (within mark.Close (omega arith) (omega arith)) (
    either (bytes_eq text (codes "*")) mark.Star _ (within mark.Star (omega arith) (omega arith)) (
    either (bytes_eq text (codes ";")) mark.Semicolon _ (within mark.Semicolon (omega arith) (omega arith)) (
    either (bytes_eq text (codes "=")) mark.Eq _ (within mark.Eq (omega arith) (omega arith)) (
    either (bytes_eq text (codes "<>")) mark.Ne _ (within mark.Ne (omega arith) (omega arith)) (
    either (bytes_eq text (codes "!=")) mark.Ne _ (within mark.Ne (omega arith) (omega arith)) (
    either (bytes_eq text (codes "<")) mark.Lt _ (within mark.Lt (omega arith) (omega arith)) (
    either (bytes_eq text (codes "<=")) mark.Le _ (within mark.Le (omega arith) (omega arith)) (
    either (bytes_eq text (codes ">")) mark.Gt _ (within mark.Gt (omega arith) (omega arith)) (
    within mark.Ge (omega arith) (omega arith)))))))))))))

-- a token with the mark of a text is one
word-no_text : (text : List ℕ) (k : Option Keyword) → word_mark_of k ≡ mark.Text → IsText text
word-no_text text (Some k) is = cc
word-no_text text None is = cc

pub text-marked : (kind : TokenKind) (text : List ℕ) → IsToken kind text → kind_mark kind text ≡ mark.Text → IsText text
text-marked kind.Word text token is = word-no_text text (keyword_of text) is
text-marked kind.Number text token is = cc
text-marked kind.Text text token is = token
text-marked kind.Symbol text token is =
    absurd (omega (arith, (symbol-marks text).above, ap mark_number is))

-- the quotes of a text may be cut off
last_quote : (inside : List ℕ) → get_or (inside ++ 39 ∷ []) (length inside) 0 ≡ 39
last_quote inside = get_or-append_seam inside 39 [] 0

pub first-cut : (text : List ℕ) → IsText text → IsUtf8 text → IsCharBoundary text 1
first-cut text is utf8 =
    let begins : get_or text 0 0 ≡ 39 = ap (λ bytes. get_or bytes 0 0) is.spelled in
    let some : length text ≡ length is.inside + 2 = omega (arith, ap length is.spelled, length-append is.inside (39 ∷ [])) in
    IsCharBoundary-after_ascii text 0 utf8 (omega arith) (omega arith)

pub last-cut : (text : List ℕ) → IsText text → IsCharBoundary text (length text - 1)
last-cut text is =
    let some : length text - 1 ≡ suc (length is.inside) = omega (arith, ap length is.spelled, length-append is.inside (39 ∷ [])) in
    let ends : get_or text (length text - 1) 0 ≡ 39 =
    ap (λ n. get_or text n 0) some ∙ ap (λ bytes. get_or bytes (suc (length is.inside)) 0) is.spelled ∙ last_quote is.inside in
    (omega arith, λ below high. absurd (omega arith))

-- the tokens of a text are whole
pub tokens-whole : (source : List ℕ) (ts : List Token) → AreSlices source ts → AreLongest source (map lexeme ts) → AreWhole ts
tokens-whole source ts slices longest k d below =
    let x : Lexeme = slice_index_or (map lexeme ts) k d in
    let text : take (length x.text) (drop x.at source) ≡ x.text = slices.slices k d below in
    subst (IsToken x.kind) text ((longest.longest k d below).token)

-- a token with one of these marks, none of which is that of a number, is no number outside 64 bits
narrow_by_marks : (marks : List Mark) → are_apart marks (mark.Number ∷ []) ≡ true → (t : Lexeme) → is_one_of marks t ≡ true → false ≡ is_wide t
narrow_by_marks marks are t found = by_test (is_mark mark.Number t) refl (apart marks (mark.Number ∷ []) are t found)
  where
    by_test : (b : Bool) → is_mark mark.Number t ≡ b → (b || false) ≡ false → false ≡ is_wide t
    by_test true number none = cc
    by_test false other none = rw other refl

pub narrow_sign : (k : Mark) (t : Lexeme) → IsNoNumber k → true ≡ is_mark k t → false ≡ is_wide t
narrow_sign k t none is =
    let same : mark_number (mark_of t) ≡ mark_number k = eqb-true (mark_number (mark_of t)) (mark_number k) (sym is) in
    rw (same, none) refl

pub narrow_op : (k : Mark) (t : Lexeme) (op : CmpOp) → k ≡ mark_of t → Some op ≡ op_marked k → false ≡ is_wide t
narrow_op k t op of_token is = narrow_by_marks op_marks refl t (op-is (mark_of t) op (ap op_marked (sym of_token) ∙ sym is))

pub narrow_function : (t : Lexeme) (f : Function) → Some f ≡ function_in t → false ≡ is_wide t
narrow_function t f is = narrow_by_marks function_marks refl t (function-is (mark_of t) t.at f (sym is))

-- behind a token the first number outside 64 bits is the one that was found, or this token where it is one
pub keeps_wide : (found : Option ℕ) (t : Lexeme) (wide : Bool) → wide ≡ is_wide t → KeepsWide found t (option_or found (if wide then Some t.at else None))
keeps_wide (Some place) t wide is rest = refl
keeps_wide None t true is rest = rw (← is) refl
keeps_wide None t false is rest = rw (← is) refl

-- where no token is left it is the one that was found
pub wide_at_end : (found : Option ℕ) → wide_in found [] ≡ found
wide_at_end None = refl
wide_at_end (Some place) = refl

-- what was found stays the first as far as the tokens are read
pub kept_past : (found later : Option ℕ) (t : Lexeme) (rest all : List Lexeme) → KeepsWide found t later → all ≡ t ∷ rest → wide_in later rest ≡ wide_in found all
kept_past found later t rest all keeps is = keeps rest ∙ ap (wide_in found) (sym is)

pub ruleset narrow = (narrow_sign, narrow_op, narrow_function, kept_past, wide_at_end)

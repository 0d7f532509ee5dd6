-- What a token is for the grammar. docs/FORMATS.md, "Query", lists keywords and symbols.
use Rattle.std.specs.List.{list_any}
use Rattle.std.specs.Prelude.{ℕ, ◌+◌, ◌==◌, Bool, List, codes, bytes_eq, Option, Some, None, if◌then◌else◌}
use Rattle.word_forms.specs.declared.keyword.Keyword.{Keyword}
use Rattle.word_forms.specs.declared.keyword.Keyword.TheVariants as keyword
use Rattle.word_forms.specs.Keywords.{keyword_of}
use Rattle.sql_lexer.specs.declared.token.TokenKind.{TokenKind}
use Rattle.sql_lexer.specs.declared.token.TokenKind.TheVariants as kind
use Rattle.sql_lexer.specs.Lexing.{Lexeme}
use Rattle.sql_reader.specs.declared.mark.Mark.{Mark}
use Rattle.sql_reader.specs.declared.mark.Mark.TheVariants as mark

-- a word is the keyword that it spells in any case of letters, or else a name
abbrev pub word_mark_of : Option Keyword → Mark
word_mark_of (Some k) = mark.Keyword k
word_mark_of None = mark.Name

abbrev pub word_mark : List ℕ → Mark
word_mark text = word_mark_of (keyword_of text)

-- the mark of a symbol; one that is none of the first twelve is `>=`
unfoldable pub symbol_mark : List ℕ → Mark
symbol_mark text =
    if bytes_eq text (codes ",") then mark.Comma
    else (if bytes_eq text (codes ".") then mark.Dot
    else (if bytes_eq text (codes "(") then mark.Open
    else (if bytes_eq text (codes ")") then mark.Close
    else (if bytes_eq text (codes "*") then mark.Star
    else (if bytes_eq text (codes ";") then mark.Semicolon
    else (if bytes_eq text (codes "=") then mark.Eq
    else (if bytes_eq text (codes "<>") then mark.Ne
    else (if bytes_eq text (codes "!=") then mark.Ne
    else (if bytes_eq text (codes "<") then mark.Lt
    else (if bytes_eq text (codes "<=") then mark.Le
    else (if bytes_eq text (codes ">") then mark.Gt
    else mark.Ge)))))))))))

-- the mark of a token of this kind with this text
abbrev pub kind_mark : TokenKind → List ℕ → Mark
kind_mark kind.Word text = word_mark text
kind_mark kind.Number text = mark.Number
kind_mark kind.Text text = mark.Text
kind_mark kind.Symbol text = symbol_mark text

abbrev pub mark_of : Lexeme → Mark
mark_of x = kind_mark x.kind x.text

-- the keywords and the marks, numbered: two are the same where their numbers are
abbrev pub keyword_number : Keyword → ℕ
keyword_number keyword.Select = 0
keyword_number keyword.From = 1
keyword_number keyword.Join = 2
keyword_number keyword.On = 3
keyword_number keyword.Where = 4
keyword_number keyword.And = 5
keyword_number keyword.Group = 6
keyword_number keyword.By = 7
keyword_number keyword.Having = 8
keyword_number keyword.Sum = 9
keyword_number keyword.Min = 10
keyword_number keyword.Max = 11
keyword_number keyword.Count = 12

abbrev pub mark_number : Mark → ℕ
mark_number mark.Name = 0
mark_number mark.Number = 1
mark_number mark.Text = 2
mark_number mark.Comma = 3
mark_number mark.Dot = 4
mark_number mark.Open = 5
mark_number mark.Close = 6
mark_number mark.Star = 7
mark_number mark.Semicolon = 8
mark_number mark.Eq = 9
mark_number mark.Ne = 10
mark_number mark.Lt = 11
mark_number mark.Le = 12
mark_number mark.Gt = 13
mark_number mark.Ge = 14
mark_number (mark.Keyword k) = 15 + keyword_number k

-- whether a token has this mark
abbrev pub is_mark : Mark → Lexeme → Bool
is_mark k x = mark_number (mark_of x) == mark_number k

-- whether it has one of these marks
abbrev pub is_one_of : List Mark → Lexeme → Bool
is_one_of marks x = list_any (λ k. is_mark k x) marks
